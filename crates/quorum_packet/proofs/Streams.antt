-- The leader's stream comes in pieces, in parts and as whole images.
use Rattle.std.proofs.Common.{◌≡◌, ℕ, List, ◌++◌, Bool, true, false, Ok, refl, ap, ◌∙◌}
use Rattle.std.proofs.lemmas.Grind.{flat_map-append}
use Rattle.settings.specs.declared.dialect.Dialect.{Dialect}
use Rattle.jute.specs.Laws.{WritesSpellings, IsLawful, IsSound}
use Rattle.jute.specs.Loading.{AreSound}
use Rattle.jute.specs.Relation.{AreLawful}
use Rattle.jute.specs.Stream.{Place, Items, with_more_bytes, joined_items, items_in, IsStreamable, IsStream}
use Rattle.jute.proofs.Public.{judged_takes, judged_reads, judged_pieced, judged_eats, case_sound, sound_streamed, sound_lawful, comes_in_pieces}
use Rattle.snapshot_codec.specs.Image.{image_in}
use Rattle.snapshot_codec.specs.Parts.{part_format}
use Rattle.snapshot_codec.proofs.Public.{part_sound, takes_in, again_in, streamed_in, written_in}
use Rattle.quorum_packet.specs.declared.item.Item.{Item}
use Rattle.quorum_packet.specs.declared.phase.Phase.{Phase}
use Rattle.quorum_packet.specs.declared.phase.Phase.TheVariants.{Packets, Image}
use Rattle.quorum_packet.specs.Items.{FoundValue, OfPacket, OfImage, packet_back, value_back, found_format, stream_of_leader, shown_in, shown_items, items_shown_at}
use Rattle.quorum_packet.specs.Packet.{packet_format}
use Rattle.quorum_packet.specs.WholeItems.{OnePacket, OneImage, one_packet_back, one_image_back, whole_format, whole_items}
use Rattle.quorum_packet.proofs.PacketFormat.{packet_sound}

-- ---- in parts

pub found_sound : (phase : Phase) → IsSound (found_format phase)
found_sound (Packets dialect) = case_sound (λ p. OfPacket p) packet_back packet_format (λ p. refl) packet_sound
found_sound (Image dialect phase) =
    case_sound (λ v. OfImage v) value_back (part_format dialect phase) (λ v. refl) (part_sound dialect phase)

leader_sound : AreSound stream_of_leader
leader_sound = record { sound = found_sound }

pub leader_streamed : IsStream stream_of_leader
leader_streamed = sound_streamed stream_of_leader leader_sound

pub leader_lawful : AreLawful stream_of_leader
leader_lawful = sound_lawful stream_of_leader leader_sound

-- The items of a list of values, and of those after them.
shown_joined : (i j : Items Phase FoundValue)
    → shown_items (joined_items i j) ≡ joined_items (shown_items i) (shown_items j)
shown_joined i j = ap (λ (f : List Item). record { found = f; left = j.left })
    (flat_map-append shown_in i.found j.found)

-- The items don't depend on how the stream is cut.
pub shows_pieces : (place : Place Phase) (more : List ℕ)
    → items_shown_at (with_more_bytes place more)
    ≡ joined_items (items_shown_at place) (items_shown_at (with_more_bytes (items_shown_at place).left more))
shows_pieces place more =
    ap (λ (i : Items Phase FoundValue). shown_items i) (comes_in_pieces stream_of_leader leader_streamed place more)
    ∙ shown_joined (items_in stream_of_leader place)
    (items_in stream_of_leader (with_more_bytes (items_in stream_of_leader place).left more))

-- ---- whole

module _ (dialect : Dialect) where
  packet_item : IsSound (whole_format dialect false)
  packet_item = case_sound (λ p. OnePacket p) one_packet_back packet_format (λ p. refl) packet_sound

  image_item_streamed : IsStreamable (whole_format dialect true)
  image_item_streamed =
      let image = streamed_in dialect in
      record {
        pieced = judged_pieced (λ s. Ok (OneImage s)) one_image_back (image_in dialect) image.pieced;
        some = judged_eats (λ s. Ok (OneImage s)) one_image_back (image_in dialect) image.some;
      }

  item_streamed : (owed : Bool) → IsStreamable (whole_format dialect owed)
  item_streamed false = record { pieced = packet_item.pieced; some = packet_item.some }
  item_streamed true = image_item_streamed

  pub whole_streamed : IsStream (whole_items dialect)
  whole_streamed = record { streamed = item_streamed }

  image_item_writes : WritesSpellings (whole_format dialect true)
  image_item_writes (OnePacket p) h = absurd h
  image_item_writes (OneImage s) h = (s, h.0, written_in dialect s h.1)

  image_item_lawful : IsLawful (whole_format dialect true)
  image_item_lawful = record {
    takes = judged_takes (λ s. Ok (OneImage s)) one_image_back (image_in dialect) (takes_in dialect);
    again = λ v text rest h. judged_reads (λ s. Ok (OneImage s)) (image_in dialect) h.0 v (text ++ rest) rest
        (again_in dialect h.0 text rest h.2) h.1;
    writes = image_item_writes;
  }

  item_lawful : (owed : Bool) → IsLawful (whole_format dialect owed)
  item_lawful false = packet_item.lawful
  item_lawful true = image_item_lawful

  pub whole_lawful : AreLawful (whole_items dialect)
  whole_lawful = record { lawful = item_lawful }
