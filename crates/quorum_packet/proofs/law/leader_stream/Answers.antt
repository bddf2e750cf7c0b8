use Rattle.jute.proofs.Public.{comes_in_pieces, are_items, are_items_only}
use Rattle.quorum_packet.specs.Items.{stream_of_leader}
use Rattle.quorum_packet.proofs.PacketFormat.{packet_sound}
use Rattle.quorum_packet.proofs.Streams.{leader_streamed, leader_lawful, shows_pieces}
use Rattle.quorum_packet.proofs.law.leader_stream.Goals as goal

pub returns : goal.returns
returns c = record {
  packet = packet_sound;
  pieces = comes_in_pieces stream_of_leader leader_streamed;
  shown = shows_pieces;
  found = are_items stream_of_leader leader_streamed leader_lawful;
  alone = are_items_only stream_of_leader leader_streamed leader_lawful;
}
