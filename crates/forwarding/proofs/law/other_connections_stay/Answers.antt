use Rattle.forwarding.proofs.Others as others
use Rattle.forwarding.proofs.law.other_connections_stay.Goals as goal

pub returns : goal.returns
returns c = others.others_stay
