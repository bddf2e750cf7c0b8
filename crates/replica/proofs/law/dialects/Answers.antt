use Rattle.replica.proofs.Learners.{dialect-stays}
use Rattle.replica.proofs.law.dialects.Goals as goal

pub returns : goal.returns
returns c = dialect-stays c.dialects.ensures
