use Rattle.intake.proofs.Slots.{sound_kept}
use Rattle.intake.proofs.desk.Desk.prepare.Goals as goal

pub invariant_of-self-then-is_err : goal.invariant_of-self-then-is_err
invariant_of-self-then-is_err c =
    sound_kept c.self.inside.closed c.self.inside.engine c.self.inside.links c.put_all_kept.new.self c.self.inside.next
    c.self.inside.marks.slots c.put_all_kept.ensures.rests.stay c.self.invariant

pub invariant_of-self-2 : goal.invariant_of-self-2
invariant_of-self-2 c =
    sound_kept c.self.inside.closed c.self.inside.engine c.self.inside.links c.put_all_kept.new.self c.self.inside.next
    c.self.inside.marks.slots c.put_all_kept.ensures.rests.stay c.self.invariant
