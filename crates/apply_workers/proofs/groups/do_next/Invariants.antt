use Rattle.apply_workers.specs.Schedule.{has_work, done_by}
use Rattle.apply_workers.proofs.Shown.{DoneTo}
use Rattle.apply_workers.proofs.groups.do_next.Given as goal

abbrev pub invariant-loop-place : goal.invariant-loop-place
invariant-loop-place l =
    DoneTo l.txns l.groups (has_work l.worker) (done_by l.worker) l.fn.hands l.place l.hands l.taken
