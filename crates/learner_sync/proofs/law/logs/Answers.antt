use Rattle.learner_sync.proofs.Logs.{logs_are_followed, truncates_to_fronts}
use Rattle.learner_sync.proofs.law.logs.Goals as goal

pub returns : goal.returns
returns c = record { followed = logs_are_followed; fronts = truncates_to_fronts }
