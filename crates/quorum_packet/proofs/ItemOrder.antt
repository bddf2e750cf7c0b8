-- Parts come where an image is owed, and packets where none is.
use Rattle.std.proofs.Common.{◌≡◌, ℕ, zero, suc, ◌<◌, Bool, true, false, cond, List, length, Result, Ok, Err, refl, sym, subst, arith}
use Rattle.settings.specs.declared.dialect.Dialect.{Dialect}
use Rattle.values.specs.declared.fault.Fault.{Fault}
use Rattle.jute.specs.Stream.{Unread, Items, place_at, with_first, no_items, place_after_fault, items_in}
use Rattle.jute.proofs.Public.{items_whole, items_refused, shorter_rest}
use Rattle.snapshot_codec.specs.Parts.{Value, Count, Path, Close, Part, part_format, part_after}
use Rattle.snapshot_codec.specs.declared.part.ImagePart.TheVariants as part
use Rattle.snapshot_codec.specs.declared.part.PartPhase.{PartPhase}
use Rattle.snapshot_codec.specs.declared.part.PartPhase.TheVariants.{SessionCount}
use Rattle.quorum_packet.specs.declared.packet.QuorumPacket.{QuorumPacket}
use Rattle.quorum_packet.specs.declared.phase.Phase.{Phase}
use Rattle.quorum_packet.specs.declared.phase.Phase.TheVariants.{Packets, Image}
use Rattle.quorum_packet.specs.GroupedItems.{AreInOrder, ItemsAreInOrder}
use Rattle.quorum_packet.specs.Items.{FoundValue, OfPacket, OfImage, packet_back, value_back, is_snap, phase_after_value, stream_of_leader, shown_items}
use Rattle.quorum_packet.specs.Packet.{packet_format}
use Rattle.quorum_packet.specs.WholeItems.{is_owed}
use Rattle.quorum_packet.proofs.GroupedItems.{read_case, refused_case}
use Rattle.quorum_packet.proofs.Streams.{leader_streamed}

abbrev InOrder : Bool → Items Phase FoundValue → Type 0
InOrder owed i = AreInOrder owed (shown_items i).found (is_owed i.left.phase)

in_order_by : (owed : Bool) (i j : Items Phase FoundValue) → i ≡ j → InOrder owed j → InOrder owed i
in_order_by owed i j same h = subst (InOrder owed) (sym same) h

stopped_in_order : (phase : Phase) (u : List ℕ) (e : Fault)
    → items_in stream_of_leader (place_at phase u)
    ≡ no_items (place_after_fault phase u e)
    → InOrder (is_owed phase) (items_in stream_of_leader (place_at phase u))
stopped_in_order phase u e stops = in_order_by (is_owed phase) _ _ stops refl

abbrev OrderedAt : List ℕ → Type 0
OrderedAt u = (phase : Phase) → InOrder (is_owed phase) (items_in stream_of_leader (place_at phase u))

-- An image is owed after a SNAP packet, and only there.
order_after : (dialect : Dialect) (snap : Bool) (u : List ℕ) → OrderedAt u
    → InOrder snap (items_in stream_of_leader (place_at (cond snap (Image dialect SessionCount) (Packets dialect)) u))
order_after dialect true u ordered = ordered (Image dialect SessionCount)
order_after dialect false u ordered = ordered (Packets dialect)

packets_in_order : (dialect : Dialect) (u : List ℕ) → ((b : List ℕ) → length b < length u → OrderedAt b)
    → InOrder false (items_in stream_of_leader (place_at (Packets dialect) u))
packets_in_order dialect u shorter = by (packet_format.read u) refl
  where
    by : (r : Result (QuorumPacket × List ℕ) Fault) → packet_format.read u ≡ r
        → InOrder false (items_in stream_of_leader (place_at (Packets dialect) u))
    by (Ok x) h =
        let found = read_case packet_format (λ p. OfPacket p) packet_back u x.1 x.0 h in
        in_order_by false _ _
        (items_whole stream_of_leader leader_streamed (Packets dialect) u x.1 (OfPacket x.0) found) (
          refl,
          order_after dialect (is_snap x.0) x.1
              (shorter x.1 (shorter_rest stream_of_leader leader_streamed (Packets dialect) u x.1 (OfPacket x.0)
              found)),
        )
    by (Err e) h =
        stopped_in_order (Packets dialect) u e
        (items_refused stream_of_leader leader_streamed (Packets dialect) u e
        (refused_case packet_format (λ p. OfPacket p) packet_back u e h))

parts_in_order : (dialect : Dialect) (u : List ℕ) (phase : PartPhase)
    → ((b : List ℕ) → length b < length u → OrderedAt b)
    → InOrder true (items_in stream_of_leader (place_at (Image dialect phase) u))
parts_in_order dialect u phase shorter = by ((part_format dialect phase).read u) refl
  where
    value_in_order : (x : Value) (rest : List ℕ) → OrderedAt rest
        → InOrder true (with_first (OfImage x)
        (items_in stream_of_leader (place_at (phase_after_value dialect phase x) rest)))
    value_in_order (Count n) rest others = others (Image dialect (part_after phase (Count n)))
    value_in_order (Path path) rest others = others (Image dialect (part_after phase (Path path)))
    value_in_order Close rest others = others (Image dialect (part_after phase Close))
    value_in_order (Part part.End) rest others = (refl, others (Packets dialect))
    value_in_order (Part p) rest others = (refl, others (Image dialect (part_after phase (Part p))))

    by : (r : Result (Value × List ℕ) Fault) → (part_format dialect phase).read u ≡ r
        → InOrder true (items_in stream_of_leader (place_at (Image dialect phase) u))
    by (Ok x) h =
        let found = read_case (part_format dialect phase) (λ v. OfImage v) value_back u x.1 x.0 h in
        in_order_by true _ _ (items_whole stream_of_leader leader_streamed (Image dialect phase) u x.1 (OfImage x.0)
        found)
        (value_in_order x.0 x.1 (shorter x.1
        (shorter_rest stream_of_leader leader_streamed (Image dialect phase) u x.1 (OfImage x.0)
        found)))
    by (Err e) h =
        stopped_in_order (Image dialect phase) u e
        (items_refused stream_of_leader leader_streamed (Image dialect phase) u e
        (refused_case (part_format dialect phase) (λ v. OfImage v) value_back u e h))

ordered_within : (n : ℕ) (u : List ℕ) → length u < n → OrderedAt u
ordered_within zero u lt phase = absurd (omega (arith, lt))
ordered_within (suc n) u lt (Packets dialect) =
    packets_in_order dialect u (λ b less. ordered_within n b (omega (arith, less, lt)))
ordered_within (suc n) u lt (Image dialect phase) =
    parts_in_order dialect u phase (λ b less. ordered_within n b (omega (arith, less, lt)))

ordered_from : (phase : Phase) (u : Unread)
    → InOrder (is_owed phase) (items_in stream_of_leader (record { phase = phase; unread = u }))
ordered_from phase (Ok bytes) = ordered_within (suc (length bytes)) bytes (omega arith) phase
ordered_from phase (Err e) = refl

pub items_in_order : ItemsAreInOrder
items_in_order place = ordered_from place.phase place.unread
