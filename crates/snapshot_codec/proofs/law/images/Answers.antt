use Rattle.settings.specs.declared.dialect.Dialect.TheVariants.{Zk34}
use Rattle.snapshot_codec.specs.Image.{image_format}
use Rattle.snapshot_codec.proofs.Images.{image_taken, image_again, image_streamed, image_named, begins_none}
use Rattle.snapshot_codec.proofs.Whole.{image_whole}
use Rattle.snapshot_codec.proofs.Written.{image_written}
use Rattle.snapshot_codec.proofs.law.images.Goals as goal

pub returns : goal.returns
returns c = record {
  taken = image_taken;
  again = image_again;
  streamed = image_streamed;
  named = image_named;
  refused = begins_none Zk34;
  writes = image_written;
  back = λ s rest fits. image_again s (image_format.written s) rest (image_written s fits);
  whole = image_whole Zk34 c.names.ensures.paths;
}
