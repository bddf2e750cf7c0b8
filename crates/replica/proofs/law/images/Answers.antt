use Rattle.replica.proofs.Images.{images-come-in-parts}
use Rattle.replica.proofs.law.images.Goals as goal

pub returns : goal.returns
returns c = images-come-in-parts c.acts.ensures
