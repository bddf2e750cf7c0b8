use Rattle.std.proofs.Common.{◌≡◌, ◌≤◌, ◌+◌, ◌++◌, map, Some, vec_len, reverse}
use Rattle.std.specs.Vec.{vec_capacity}
use Rattle.apply_board.specs.declared.group.Group.TheVariants.{Unclaimed}
use Rattle.apply_board.proofs.life.initial_slots.Given as goal

abbrev pub invariant-loop-work : goal.invariant-loop-work
invariant-loop-work g l = (l.slots.items ++ map (λ w. Some (Unclaimed w)) (reverse l.works.items) ≡ map
    (λ w. Some (Unclaimed w)) (reverse l.initial.works.items))
    × (vec_len l.slots + vec_len l.works ≤ vec_capacity l.slots)

abbrev pub decreases-loop-work : goal.decreases-loop-work
decreases-loop-work g l = goal.left-loop-work g l
