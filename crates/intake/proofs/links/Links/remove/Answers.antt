use Rattle.std.proofs.Common.{ap, sym, ◌∙◌, subst}
use Rattle.std.specs.FinMap as finmap
use Rattle.world.proofs.NatMaps.{get-seen, seen-remove}
use Rattle.intake.specs.Links.{Links, links_of, KeepersAreAmong}
use Rattle.intake.proofs.Kept.{among_without}
use Rattle.intake.proofs.links.Links.remove.Goals as goal

pub returns-clause-link : goal.returns-clause-link
returns-clause-link c =
    c.remove.ensures.value ∙ sym (get-seen c.self.inside.map c.args.number)
    ∙ ap (λ (l : Links). finmap.get l c.args.number) c.self.view_is

pub returns-clause-links : goal.returns-clause-links
returns-clause-links c =
    seen-remove c.args.number c.self.inside.map c.remove.new.self c.remove.ensures.updates
    ∙ ap (λ m. finmap.remove m c.args.number) c.self.view_is

pub invariant_of-self : goal.invariant_of-self
invariant_of-self c =
    let P : Links → Type 0 = λ l. KeepersAreAmong c.self.inside.keeping.items l in
    subst P (sym (seen-remove c.args.number c.self.inside.map c.remove.new.self c.remove.ensures.updates))
    (among_without c.self.inside.keeping.items (links_of c.self.inside.map) c.args.number c.self.invariant)
