use Rattle.jute.proofs.Public.{comes_in_pieces}
use Rattle.snapshot_codec.specs.Parts.{part_stream}
use Rattle.snapshot_codec.proofs.Formats.{parts_sound, never_waits}
use Rattle.snapshot_codec.proofs.Reading.{streamed}
use Rattle.snapshot_codec.proofs.law.image_parts.Goals as goal

pub returns : goal.returns
returns c = record {
  sound = parts_sound;
  pieces = λ dialect. comes_in_pieces (part_stream dialect) (streamed dialect);
  goes_on = never_waits;
}
