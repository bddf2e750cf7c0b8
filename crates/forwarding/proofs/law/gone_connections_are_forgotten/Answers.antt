use Rattle.forwarding.proofs.Forgotten.{gone_are_forgotten}
use Rattle.forwarding.proofs.law.gone_connections_are_forgotten.Goals as goal

pub returns : goal.returns
returns c = gone_are_forgotten
