use Rattle.learner_sync.proofs.Epochs.{epochs_dont_fall}
use Rattle.learner_sync.proofs.law.epochs.Goals as goal

pub returns : goal.returns
returns c = epochs_dont_fall
