use Rattle.audit.proofs.Logs.{AreTaken}
use Rattle.audit.proofs.audit.count_in.Given as goal

abbrev pub invariant-loop-i : goal.invariant-loop-i
invariant-loop-i l = AreTaken l.log l.i l.path l.tree l.count
