use Rattle.snapshot_codec.proofs.Images.{takes_in, again_in, streamed_in, named_in}
use Rattle.snapshot_codec.proofs.Whole.{image_whole}
use Rattle.snapshot_codec.proofs.Written.{written_in}
use Rattle.snapshot_codec.proofs.law.images_in.Goals as goal

pub returns : goal.returns
returns c = record {
  taken = takes_in c.args.dialect;
  again = again_in c.args.dialect;
  streamed = streamed_in c.args.dialect;
  named = named_in c.args.dialect;
  writes = written_in c.args.dialect;
  whole = image_whole c.args.dialect c.names.ensures.paths;
}
