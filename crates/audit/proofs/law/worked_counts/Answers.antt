use Rattle.audit.proofs.Worked.{counts_are_worked}
use Rattle.audit.proofs.law.worked_counts.Goals as goal

pub returns : goal.returns
returns c = counts_are_worked
