use Rattle.std.proofs.Common.{ap, sym, ◌∙◌}
use Rattle.std.specs.FinMap as finmap
use Rattle.world.proofs.NatMaps.{get-seen}
use Rattle.intake.specs.Links.{Links, slot_from}
use Rattle.intake.proofs.Keeping.{none_there}
use Rattle.intake.proofs.links.Links.slot.Goals as goal

pub returns-in-None : goal.returns-in-None
returns-in-None c =
    ap slot_from (none_there c.self.inside.map c.args.self.now c.args.number c.self.view_is c.in-None.ensures.value)

pub returns : goal.returns
returns c =
    ap slot_from (c.in-Some.ensures.value ∙ sym (get-seen c.self.inside.map c.args.number)
    ∙ ap (λ (l : Links). finmap.get l c.args.number) c.self.view_is)
