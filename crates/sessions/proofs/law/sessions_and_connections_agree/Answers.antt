use Rattle.sessions.proofs.Agreeing.{sessions_are_apart}
use Rattle.sessions.proofs.Kept.{agreement_is_kept, answers_tell}
use Rattle.sessions.proofs.law.sessions_and_connections_agree.Goals as goal

pub returns : goal.returns
returns c = record { kept = agreement_is_kept; apart = sessions_are_apart; told = answers_tell }
