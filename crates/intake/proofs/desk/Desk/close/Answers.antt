use Rattle.std.proofs.Common.{sym, ◌∙◌}
use Rattle.values.proofs.Keyed.{not-some}
use Rattle.intake.proofs.Slots.{sound_freed, sound_without}
use Rattle.intake.proofs.desk.Desk.close.Goals as goal

pub invariant_of-self : goal.invariant_of-self
invariant_of-self c =
    sound_freed c.self.inside.closed c.self.inside.engine c.self.inside.links c.remove.new.self c.self.inside.next
    c.self.inside.marks.slots c.remove-in-Some.new.self.slots c.args.end.number c.in-Some.link c.in-Some.ensures.link
    c.remove.ensures.links c.remove-in-Some.ensures.freed c.self.invariant

pub invariant_of-self-in_default : goal.invariant_of-self-in_default
invariant_of-self-in_default c =
    sound_without c.self.inside.closed c.self.inside.engine c.self.inside.links c.remove.new.self c.self.inside.next
    c.self.inside.marks.slots c.args.end.number
    (sym (not-some c.remove.result c.in_default.not-Some) ∙ c.remove.ensures.link) c.remove.ensures.links
    c.self.invariant
