use Rattle.apply_workers.specs.Schedule.{is_finished_by, given_by}
use Rattle.apply_workers.proofs.Shown.{DoneTo}
use Rattle.apply_workers.proofs.groups.give.Given as goal

abbrev pub invariant-loop-place : goal.invariant-loop-place
invariant-loop-place l =
    DoneTo l.txns l.groups (is_finished_by l.worker) (given_by l.worker) l.fn.hands l.place l.hands l.taken
