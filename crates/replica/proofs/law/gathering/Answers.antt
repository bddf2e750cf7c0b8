use Rattle.replica.proofs.OneTransaction.{transactions-are-gathered}
use Rattle.replica.proofs.law.gathering.Goals as goal

pub returns : goal.returns
returns c = transactions-are-gathered
