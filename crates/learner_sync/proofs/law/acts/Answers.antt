use Rattle.learner_sync.proofs.Acts.{acts_tell}
use Rattle.learner_sync.proofs.law.acts.Goals as goal

pub returns : goal.returns
returns c = acts_tell
