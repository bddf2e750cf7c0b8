use Rattle.quorum_packet.proofs.GroupedItems.{packets_are_grouped, pieces_are_grouped}
use Rattle.quorum_packet.proofs.ItemOrder.{items_in_order}
use Rattle.quorum_packet.proofs.law.grouped_items.Goals as goal

pub returns : goal.returns
returns c = record { packets = packets_are_grouped; pieces = pieces_are_grouped; order = items_in_order }
