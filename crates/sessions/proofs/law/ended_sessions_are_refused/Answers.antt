use Rattle.sessions.proofs.NewIds.{ended_are_refused, new_ids_are_new}
use Rattle.sessions.proofs.law.ended_sessions_are_refused.Goals as goal

pub returns : goal.returns
returns c = record { refused = ended_are_refused; new = new_ids_are_new }
