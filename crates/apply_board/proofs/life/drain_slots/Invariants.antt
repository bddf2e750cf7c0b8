use Rattle.std.proofs.Common.{◌≡◌, ◌≤◌, ◌-◌, map, Some, vec_len, take, false, get_or}
use Rattle.std.specs.Vec.{vec_capacity}
use Rattle.std.specs.Mem.Slots.{slots_items, slots_filled, slots_len}
use Rattle.apply_board.specs.Inner.Slots.{IsFilled}
use Rattle.apply_board.proofs.life.drain_slots.Given as goal

abbrev pub invariant-loop-next : goal.invariant-loop-next
invariant-loop-next g l = (slots_items l.closed.slots ≡ slots_items l.initial.closed.slots)
    × (slots_len l.closed.slots ≡ slots_len l.initial.closed.slots)
    × IsFilled (λ k. get_or (slots_filled l.closed.slots) k false) l.next (slots_len l.closed.slots)
    × (map Some l.groups.items ≡ take l.next (slots_items l.initial.closed.slots)) × (vec_len l.groups ≡ l.next)
    × (l.next ≤ slots_len l.closed.slots)
    × (vec_capacity l.groups ≡ vec_capacity l.initial.groups)

abbrev pub decreases-loop-next : goal.decreases-loop-next
decreases-loop-next g l = slots_len l.closed.slots - l.next
