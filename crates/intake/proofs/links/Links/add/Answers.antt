use Rattle.std.proofs.Common.{ℕ, List, ap, sym, ◌∙◌, subst}
use Rattle.std.specs.FinMap as finmap
use Rattle.world.proofs.NatMaps.{seen-insert}
use Rattle.intake.specs.Links.{Links, links_of, KeepersAreAmong}
use Rattle.intake.proofs.Kept.{among_added}
use Rattle.intake.proofs.links.Links.add.Goals as goal

pub returns-clause-ok : goal.returns-clause-ok
returns-clause-ok c =
    seen-insert c.args.number c.self.inside.map c.insert.new.self c.args.link c.in_ok-insert.ensures.updates
    ∙ ap (λ m. finmap.insert m c.args.number c.args.link) c.self.view_is

pub invariant_of-self-2 : goal.invariant_of-self-2
invariant_of-self-2 c =
    let P : Links → Type 0 = λ l. KeepersAreAmong c.reserve.new.numbers.items l in
    let Q : List ℕ → Type 0 = λ l. KeepersAreAmong l (links_of c.self.inside.map) in
    subst P
    (sym (seen-insert c.args.number c.self.inside.map c.insert.new.self c.args.link c.in_ok-insert.ensures.updates))
    (among_added c.reserve.new.numbers.items (links_of c.self.inside.map) c.args.number c.args.link c.requires
    (subst Q (sym c.reserve.ensures) c.self.invariant))
