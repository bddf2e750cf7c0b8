use Rattle.std.proofs.Common.{ap}
use Rattle.port_hints.specs.Slots.{Given}
use Rattle.intake.proofs.Slots.{sound_new}
use Rattle.intake.proofs.desk.Desk.with_engine.Goals as goal

pub invariant_of-result : goal.invariant_of-result
invariant_of-result c =
    sound_new c.args.engine c.new-2.result c.in_ok-marks.marks.slots c.requires c.new-2.ensures
    (ap (λ (m : Given). m.slots) c.in_ok-marks.ensures)
