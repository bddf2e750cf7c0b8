use Rattle.std.proofs.Common.{◌<◌, ◌≤◌}
use Rattle.apply_workers.proofs.crew.workers_on.Given as goal

abbrev pub invariant-loop-worker : goal.invariant-loop-worker
invariant-loop-worker g l = (0 < l.count) × (l.count ≤ l.worker)
