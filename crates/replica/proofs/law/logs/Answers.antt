use Rattle.replica.proofs.Following.{logs-are-followed}
use Rattle.replica.proofs.law.logs.Goals as goal

pub returns : goal.returns
returns c = logs-are-followed c.logs.ensures.followed c.acts.ensures
