use Rattle.learner_sync.proofs.Rows.{worked_rows}
use Rattle.learner_sync.proofs.law.worked_rows.Goals as goal

pub returns : goal.returns
returns c = worked_rows
