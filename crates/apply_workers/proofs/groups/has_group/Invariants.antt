use Rattle.std.proofs.Common.{◌≡◌, drop}
use Rattle.std.specs.List.{list_any}
use Rattle.apply_workers.specs.Schedule.{is_held_by}
use Rattle.apply_workers.specs.Hands.{GroupProgress}
use Rattle.apply_workers.proofs.groups.has_group.Given as goal

abbrev pub invariant-loop-hand : goal.invariant-loop-hand
invariant-loop-hand l =
    list_any (λ (h : GroupProgress). is_held_by l.worker h.holder) (drop l.hand-index l.hands)
    ≡ list_any (λ (h : GroupProgress). is_held_by l.worker h.holder) l.hands
