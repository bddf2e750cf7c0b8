use Rattle.learner_sync.proofs.Serving.{serving_rises}
use Rattle.learner_sync.proofs.law.serving.Goals as goal

pub returns : goal.returns
returns c = serving_rises
