use Rattle.sessions.proofs.Others as others
use Rattle.sessions.proofs.law.others_stay.Goals as goal

pub returns : goal.returns
returns c = others.others_stay
