use Rattle.std.proofs.Common.{length}
use Rattle.serve_options.proofs.ensemble.servers_of.Given as goal

abbrev pub decreases-loop-entry : goal.decreases-loop-entry
decreases-loop-entry l = length l.rest
