use Rattle.forwarding.proofs.Ordered as ordered
use Rattle.forwarding.proofs.law.nothing_waits_in_vain.Goals as goal

pub returns : goal.returns
returns c = ordered.nothing_waits_in_vain
