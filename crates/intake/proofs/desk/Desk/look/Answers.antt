use Rattle.intake.proofs.Keeping.{all_stay_on}
use Rattle.intake.proofs.Slots.{sound_kept}
use Rattle.intake.proofs.desk.Desk.look.Goals as goal

pub invariant_of-self : goal.invariant_of-self
invariant_of-self c =
    sound_kept c.self.inside.closed c.self.inside.engine c.self.inside.links c.look_all-others.new.self
    c.self.inside.next c.self.inside.marks.slots
    (all_stay_on c.self.inside.links c.look-leaders.new.self c.look_all-others.new.self
    c.look-leaders.ensures.rests.stay c.look_all-others.ensures.rests.stay) c.self.invariant

pub invariant_of-self-in_err-reserve : goal.invariant_of-self-in_err-reserve
invariant_of-self-in_err-reserve c =
    sound_kept c.self.inside.closed c.self.inside.engine c.self.inside.links c.look_all-others.new.self
    c.self.inside.next c.self.inside.marks.slots
    (all_stay_on c.self.inside.links c.look-leaders.new.self c.look_all-others.new.self
    c.look-leaders.ensures.rests.stay c.look_all-others.ensures.rests.stay) c.self.invariant

pub invariant_of-self-2 : goal.invariant_of-self-2
invariant_of-self-2 c =
    sound_kept c.self.inside.closed c.self.inside.engine c.self.inside.links c.look_all-others.new.self
    c.self.inside.next c.self.inside.marks.slots
    (all_stay_on c.self.inside.links c.look-leaders.new.self c.look_all-others.new.self
    c.look-leaders.ensures.rests.stay c.look_all-others.ensures.rests.stay) c.self.invariant
