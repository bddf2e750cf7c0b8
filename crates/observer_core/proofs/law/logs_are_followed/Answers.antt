use Rattle.observer_core.proofs.Logs.{logs_are_followed}
use Rattle.observer_core.proofs.law.logs_are_followed.Goals as goal

pub returns : goal.returns
returns c = logs_are_followed c.logs.ensures
