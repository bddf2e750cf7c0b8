use Rattle.forwarding.proofs.Emptiness as emptiness
use Rattle.forwarding.proofs.law.emptiness_is_told.Goals as goal

pub returns : goal.returns
returns c = emptiness.emptiness_is_told
