use Rattle.audit.proofs.Turns.{deletes_go_in_turn}
use Rattle.audit.proofs.law.deletes_go_in_turn.Goals as goal

pub returns : goal.returns
returns c = deletes_go_in_turn
