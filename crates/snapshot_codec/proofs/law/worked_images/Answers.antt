use Rattle.snapshot_codec.proofs.Rows.{worked_images}
use Rattle.snapshot_codec.proofs.law.worked_images.Goals as goal

pub returns : goal.returns
returns c = worked_images
