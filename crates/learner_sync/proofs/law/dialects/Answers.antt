use Rattle.learner_sync.proofs.Epochs.{dialect_stays}
use Rattle.learner_sync.proofs.law.dialects.Goals as goal

pub returns : goal.returns
returns c = dialect_stays
