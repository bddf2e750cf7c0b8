use Rattle.batcher.proofs.Worked.{cuts_are_worked}
use Rattle.batcher.proofs.law.worked_cuts.Goals as goal

pub returns : goal.returns
returns c = cuts_are_worked
