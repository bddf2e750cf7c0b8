use Rattle.std.proofs.Common.{◌+◌, ◌*◌}
use Rattle.apply_workers.proofs.crew.+fn-run_workers-others+run_workers.Given as goal

abbrev pub decreases-run_workers : goal.decreases-run_workers
decreases-run_workers g l = 2 * l.crew.len

abbrev pub decreases-others : goal.decreases-others
decreases-others g l = 2 * l.crew.len + 1
