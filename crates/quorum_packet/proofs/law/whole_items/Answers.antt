use Rattle.jute.proofs.Public.{comes_in_pieces, are_items, are_items_only}
use Rattle.quorum_packet.specs.WholeItems.{whole_items}
use Rattle.quorum_packet.proofs.Streams.{whole_streamed, whole_lawful}
use Rattle.quorum_packet.proofs.law.whole_items.Goals as goal

pub returns : goal.returns
returns c = record {
  pieces = λ dialect. comes_in_pieces (whole_items dialect) (whole_streamed dialect);
  found = λ dialect. are_items (whole_items dialect) (whole_streamed dialect) (whole_lawful dialect);
  alone = λ dialect. are_items_only (whole_items dialect) (whole_streamed dialect) (whole_lawful dialect);
}
