use Rattle.std.proofs.Common.{length, ap, sym, ◌∙◌}
use Rattle.std.specs.FinMap as finmap
use Rattle.world.proofs.NatMaps.{get-seen}
use Rattle.intake.specs.Links.{Links, waiting_from}
use Rattle.intake.proofs.Keeping.{seen_none}
use Rattle.intake.proofs.links.Links.seen.Goals as goal

pub returns-in-None : goal.returns-in-None
returns-in-None c =
    sym (ap length (seen_none c.self.inside.map c.args.self.now c.args.number c.self.view_is c.in-None.ensures.value))

pub returns : goal.returns
returns c =
    c.cached_slots.ensures
    ∙ ap (λ o. length (waiting_from o))
    (c.in-Some.ensures.value ∙ sym (get-seen c.self.inside.map c.args.number)
    ∙ ap (λ (l : Links). finmap.get l c.args.number) c.self.view_is)
