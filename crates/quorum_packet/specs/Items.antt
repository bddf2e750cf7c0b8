-- The leader's stream is a sequence of packets. After a SNAP packet comes an image, part by part, and after its end
-- packets again.
use Rattle.std.specs.Prelude.{List, [], ◌∷◌, Option, Some, None, Bool, if◌then◌else◌}
use Rattle.std.specs.Ordering.{int_eq}
use Rattle.std.specs.List.{flat_map}
use Rattle.settings.specs.declared.dialect.Dialect.{Dialect}
use Rattle.jute.specs.Format.{Format, case_of}
use Rattle.jute.specs.Stream.{PhasedStream, Place, Items, items_in}
use Rattle.snapshot_codec.specs.Parts.{Value, Part, part_format, part_after, is_end}
use Rattle.snapshot_codec.specs.declared.part.PartPhase.{PartPhase}
use Rattle.snapshot_codec.specs.declared.part.PartPhase.TheVariants.{SessionCount}
use Rattle.quorum_packet.specs.declared.item.Item.{Item}
use Rattle.quorum_packet.specs.declared.item.Item.TheVariants as item
use Rattle.quorum_packet.specs.declared.kind.PacketKind.TheVariants.{Snap}
use Rattle.quorum_packet.specs.declared.packet.QuorumPacket.{QuorumPacket}
use Rattle.quorum_packet.specs.declared.phase.Phase.{Phase}
use Rattle.quorum_packet.specs.declared.phase.Phase.TheVariants.{Packets, Image}
use Rattle.quorum_packet.specs.Kinds.{code_of}
use Rattle.quorum_packet.specs.Packet.{packet_format}

-- A value of the stream: a packet, or a value of an image.
pub data FoundValue : Type 0 where
  OfPacket : (packet : QuorumPacket) → FoundValue
  OfImage : (value : Value) → FoundValue

abbrev pub packet_back : FoundValue → Option QuorumPacket
packet_back (OfPacket p) = Some p
packet_back (OfImage v) = None

abbrev pub value_back : FoundValue → Option Value
value_back (OfImage v) = Some v
value_back (OfPacket p) = None

-- The dialect of the leader, which stays the same.
abbrev pub phase_dialect : Phase → Dialect
phase_dialect (Packets dialect) = dialect
phase_dialect (Image dialect phase) = dialect

abbrev pub found_format : Phase → Format FoundValue
found_format (Packets dialect) = case_of (λ p. OfPacket p) packet_back packet_format
found_format (Image dialect phase) = case_of (λ v. OfImage v) value_back (part_format dialect phase)

-- A SNAP packet announces an image.
abbrev pub is_snap : QuorumPacket → Bool
is_snap p = int_eq p.kind (code_of Snap)

abbrev pub phase_after_packet : Dialect → QuorumPacket → Phase
phase_after_packet dialect p = if is_snap p then Image dialect SessionCount else Packets dialect

-- The end of an image is its last value.
abbrev pub phase_after_value : Dialect → PartPhase → Value → Phase
phase_after_value dialect phase v = if is_end v then Packets dialect else Image dialect (part_after phase v)

abbrev pub phase_after : Phase → FoundValue → Phase
phase_after phase (OfPacket p) = phase_after_packet (phase_dialect phase) p
phase_after (Packets dialect) (OfImage v) = Packets dialect
phase_after (Image dialect phase) (OfImage v) = phase_after_value dialect phase v

abbrev pub stream_of_leader : PhasedStream Phase FoundValue
stream_of_leader = record { format = λ phase. found_format phase; after = phase_after }

-- Packets and parts are items. A value that only advances an image isn't.
abbrev pub shown_in : FoundValue → List Item
shown_in (OfPacket p) = item.Packet p ∷ []
shown_in (OfImage (Part p)) = item.Part p ∷ []
shown_in (OfImage v) = []

abbrev pub shown_items : Items Phase FoundValue → Items Phase Item
shown_items i = record { found = flat_map shown_in i.found; left = i.left }

-- The packets and parts from a place on, and the place after the last complete one.
abbrev pub items_shown_at : Place Phase → Items Phase Item
items_shown_at place = shown_items (items_in stream_of_leader place)
