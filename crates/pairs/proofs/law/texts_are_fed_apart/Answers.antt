use Rattle.pairs.proofs.FedApart.{fed_apart}
use Rattle.pairs.proofs.law.texts_are_fed_apart.Goals as goal

pub returns : goal.returns
returns c = fed_apart
