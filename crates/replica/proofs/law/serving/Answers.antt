use Rattle.replica.proofs.Serving.{serving-stays}
use Rattle.replica.proofs.law.serving.Goals as goal

pub returns : goal.returns
returns c = serving-stays c.serving.ensures
