use Rattle.std.proofs.Common.{◌-◌, length}
use Rattle.apply_workers.proofs.Going.{Going, reach}
use Rattle.apply_workers.proofs.job.work.Given as goal

abbrev pub invariant-loop-claim : goal.invariant-loop-claim
invariant-loop-claim g l = Going l.initial.seat l.seat

abbrev pub decreases-loop-claim : goal.decreases-loop-claim
decreases-loop-claim g l = length l.seat.view.works - reach l.seat.view.claimed
