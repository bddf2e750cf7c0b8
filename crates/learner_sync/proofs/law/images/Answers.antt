use Rattle.learner_sync.proofs.Images.{parts_are_the_image}
use Rattle.learner_sync.proofs.law.images.Goals as goal

pub returns : goal.returns
returns c = parts_are_the_image
