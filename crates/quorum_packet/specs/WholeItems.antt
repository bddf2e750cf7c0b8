-- The leader's stream as packets and whole images in its dialect: an image comes first exactly if one is owed, and
-- directly after each SNAP packet.
use Rattle.std.specs.Prelude.{Bool, true, false, Option, Some, None}
use Rattle.settings.specs.declared.dialect.Dialect.{Dialect}
use Rattle.jute.specs.Format.{Format, case_of}
use Rattle.jute.specs.Stream.{PhasedStream}
use Rattle.data_tree.specs.State.{State}
use Rattle.snapshot_codec.specs.Image.{image_in}
use Rattle.quorum_packet.specs.declared.packet.QuorumPacket.{QuorumPacket}
use Rattle.quorum_packet.specs.declared.phase.Phase.{Phase}
use Rattle.quorum_packet.specs.declared.phase.Phase.TheVariants.{Packets, Image}
use Rattle.quorum_packet.specs.Items.{is_snap}
use Rattle.quorum_packet.specs.Packet.{packet_format}

pub data WholeItem : Type 0 where
  OnePacket : (packet : QuorumPacket) → WholeItem
  OneImage : (state : State) → WholeItem

abbrev pub one_packet_back : WholeItem → Option QuorumPacket
one_packet_back (OnePacket p) = Some p
one_packet_back (OneImage s) = None

abbrev pub one_image_back : WholeItem → Option State
one_image_back (OneImage s) = Some s
one_image_back (OnePacket p) = None

abbrev pub whole_format : Dialect → Bool → Format WholeItem
whole_format dialect false = case_of (λ p. OnePacket p) one_packet_back packet_format
whole_format dialect true = case_of (λ s. OneImage s) one_image_back (image_in dialect)

abbrev pub is_owed : Phase → Bool
is_owed (Packets dialect) = false
is_owed (Image dialect phase) = true

abbrev pub owed_after : Bool → WholeItem → Bool
owed_after owed (OnePacket p) = is_snap p
owed_after owed (OneImage s) = false

-- The phase says whether an image is owed.
abbrev pub whole_items : Dialect → PhasedStream Bool WholeItem
whole_items dialect = record { format = λ owed. whole_format dialect owed; after = owed_after }
