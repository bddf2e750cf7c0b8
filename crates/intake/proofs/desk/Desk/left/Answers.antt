use Rattle.intake.proofs.Slots.{sound_kept}
use Rattle.intake.proofs.desk.Desk.left.Goals as goal

pub invariant_of-self : goal.invariant_of-self
invariant_of-self c =
    sound_kept c.self.inside.closed c.self.inside.engine c.self.inside.links c.left-count.new.self c.self.inside.next
    c.self.inside.marks.slots c.left-count.ensures.links.stay c.self.invariant
