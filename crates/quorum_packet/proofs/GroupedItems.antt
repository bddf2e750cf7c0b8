-- The packets and parts of a stream, grouped, are its packets and whole images. One induction on the bytes that are
-- left shows both cases: where a packet comes next, and inside an image.
use Rattle.std.proofs.Common.{◌≡◌, ℕ, zero, suc, ◌<◌, Bool, true, false, cond, List, [], ◌∷◌, ◌++◌, length, Option, Result, Ok, Err, refl, sym, ap, subst, ◌∙◌, append_assoc, arith}
use Rattle.std.proofs.lemmas.List.{append-nil}
use Rattle.settings.specs.declared.dialect.Dialect.{Dialect}
use Rattle.values.specs.declared.fault.Fault.{Fault}
use Rattle.values.specs.declared.fault.Fault.TheVariants.{Short}
use Rattle.jute.specs.Format.{◌>>=◌, Format, judged_at, case_of}
use Rattle.jute.specs.Loading.{load_from}
use Rattle.jute.specs.Stream.{Unread, Place, Items, place_at, with_more_bytes, with_first, no_items, place_after_fault, items_in, IsStream}
use Rattle.jute.proofs.Public.{items_whole, items_refused, shorter_rest, refused_other, sound_streamed, load_refused, load_read, load_read_on}
use Rattle.data_tree.specs.State.{State}
use Rattle.snapshot_codec.specs.Image.{image_read_in, image_in}
use Rattle.snapshot_codec.specs.Made.{LoadedParts, Loading, no_parts_in, with_part, with_value, image_load}
use Rattle.snapshot_codec.specs.Parts.{Value, Count, Path, Close, Part, part_format, part_after, is_end, part_stream}
use Rattle.snapshot_codec.specs.declared.part.ImagePart.{ImagePart}
use Rattle.snapshot_codec.specs.declared.part.ImagePart.TheVariants as part
use Rattle.snapshot_codec.specs.declared.part.PartPhase.{PartPhase}
use Rattle.snapshot_codec.specs.declared.part.PartPhase.TheVariants.{SessionCount}
use Rattle.snapshot_codec.proofs.Public.{parts_sound, never_waits}
use Rattle.quorum_packet.specs.declared.item.Item.{Item}
use Rattle.quorum_packet.specs.declared.item.Item.TheVariants as item
use Rattle.quorum_packet.specs.declared.packet.QuorumPacket.{QuorumPacket}
use Rattle.quorum_packet.specs.declared.phase.Phase.{Phase}
use Rattle.quorum_packet.specs.declared.phase.Phase.TheVariants.{Packets, Image}
use Rattle.quorum_packet.specs.GroupedItems.{GroupedItems, empty_loading, grouped_items, image_from, IsRestOfImage, SameUnread, SamePlace, SameRest, AreWholeItems, PacketsAreGrouped, PiecesAreGrouped}
use Rattle.quorum_packet.specs.Items.{FoundValue, OfPacket, OfImage, packet_back, value_back, is_snap, phase_dialect, phase_after_packet, phase_after_value, stream_of_leader, shown_items, items_shown_at}
use Rattle.quorum_packet.specs.Packet.{packet_format}
use Rattle.quorum_packet.specs.WholeItems.{WholeItem, OnePacket, OneImage, one_packet_back, one_image_back, is_owed, whole_items}
use Rattle.quorum_packet.proofs.Streams.{leader_streamed, whole_streamed}

-- ---- reading a case of a sum

module _ {A B : Type 0} (f : Format A) (to : A → B) (back : B → Option A) where
  pub read_case : (bytes rest : List ℕ) (a : A) → f.read bytes ≡ Ok (a, rest)
      → (case_of to back f).read bytes ≡ Ok (to a, rest)
  unfolding judged_at
  read_case bytes rest a h = rw h refl

  pub refused_case : (bytes : List ℕ) (e : Fault) → f.read bytes ≡ Err e → (case_of to back f).read bytes ≡ Err e
  unfolding judged_at
  refused_case bytes e h = rw h refl

module _ (dialect : Dialect) where
  -- The parts of an image may be read in pieces.
  parts_streamed : IsStream (part_stream dialect)
  parts_streamed = sound_streamed (part_stream dialect) (parts_sound dialect)

  -- ---- how far an image is loaded

  abbrev image_of : Result (LoadedParts × List ℕ) Fault → Result (State × List ℕ) Fault
  image_of r = r >>= λ x. Ok (x.0.state, x.1)

  rest_at_start : (u : List ℕ) → IsRestOfImage dialect SessionCount (no_parts_in dialect) u u
  unfolding image_read_in
  rest_at_start u more = refl

  -- The same without further bytes.
  rest_now : (phase : PartPhase) (made : LoadedParts) (u v : List ℕ) → IsRestOfImage dialect phase made u v
      → image_from dialect phase made u ≡ image_read_in dialect v
  rest_now phase made u v left =
      ap (image_from dialect phase made) (sym (append-nil u)) ∙ left [] ∙ ap (image_read_in dialect) (append-nil v)

  -- Both sides get the same further bytes.
  rest_with : (phase : PartPhase) (made : LoadedParts) (u v bytes : List ℕ) → IsRestOfImage dialect phase made u v
      → IsRestOfImage dialect phase made (u ++ bytes) (v ++ bytes)
  rest_with phase made u v bytes left more =
      ap (image_from dialect phase made) (append_assoc u bytes more) ∙ left (bytes ++ more)
      ∙ ap (image_read_in dialect) (sym (append_assoc v bytes more))

  -- ---- one item before others

  -- The same, with equal items in place of both.
  same_by : (l : Loading) (i j : Items Phase Item) (k m : Items Bool WholeItem) → i ≡ j → k ≡ m
      → AreWholeItems dialect l j m → AreWholeItems dialect l i k
  same_by l i j k m p q s =
      subst (λ (x : Items Phase Item). AreWholeItems dialect l x k) (sym p)
      (subst (λ (y : Items Bool WholeItem). AreWholeItems dialect l j y) (sym q) s)

  -- The same, from what the items are when they are grouped.
  grouped_as : (g : GroupedItems) (l : Loading) (i : Items Phase Item) (k : Items Bool WholeItem)
      → grouped_items dialect l i.found ≡ g → g.found ≡ k.found → SameRest dialect g.loaded i.left k.left
      → AreWholeItems dialect l i k
  grouped_as g l i k is found rest = record {
    found = ap (λ (x : GroupedItems). x.found) is ∙ found;
    rest = subst (λ (x : GroupedItems). SameRest dialect x.loaded i.left k.left) (sym is) rest;
  }

  packet_first : (l : Loading) (p : QuorumPacket) (i : Items Phase Item) (k : Items Bool WholeItem)
      → AreWholeItems dialect l i k
      → AreWholeItems dialect l (with_first (item.Packet p) i) (with_first (OnePacket p) k)
  packet_first l p i k s = record { found = ap (λ (f : List WholeItem). OnePacket p ∷ f) s.found; rest = s.rest }

  abbrev loading_of : LoadedParts → Loading
  loading_of made = record { made = made; ended = false }

  -- A part that isn't the last.
  inner_grouped : (l : Loading) (p : ImagePart) (next : LoadedParts) (others : List Item) → with_part l.made p ≡ Ok next
      → is_end (Part p) ≡ false
      → grouped_items dialect l (item.Part p ∷ others) ≡ grouped_items dialect (loading_of next) others
  inner_grouped l p next others makes inner = rw (makes, inner) refl

  inner_first : (l : Loading) (p : ImagePart) (next : LoadedParts) (i : Items Phase Item) (k : Items Bool WholeItem)
      → with_part l.made p ≡ Ok next → is_end (Part p) ≡ false → AreWholeItems dialect (loading_of next) i k
      → AreWholeItems dialect l (with_first (item.Part p) i) k
  inner_first l p next i k makes inner s =
      grouped_as (grouped_items dialect (loading_of next) i.found) l (with_first (item.Part p) i) k
      (inner_grouped l p next i.found makes inner) s.found s.rest

  -- The end of the image.
  end_first : (l : Loading) (i : Items Phase Item) (k : Items Bool WholeItem)
      → AreWholeItems dialect (empty_loading dialect) i k
      → AreWholeItems dialect l (with_first (item.Part part.End) i) (with_first (OneImage l.made.state) k)
  end_first l i k s =
      record { found = ap (λ (f : List WholeItem). OneImage l.made.state ∷ f) s.found; rest = s.rest }

  -- ---- no further item is complete

  stopped_packet : (e : Fault) (u : List ℕ)
      → AreWholeItems dialect (empty_loading dialect) (shown_items
      (no_items (place_after_fault (Packets dialect) u e)))
      (no_items (place_after_fault false u e))
  stopped_packet Short u = record { found = refl; rest = (refl, refl, (refl, refl)) }
  stopped_packet e u = record { found = refl; rest = (refl, refl, refl) }

  stopped_image : (e : Fault) (phase : PartPhase) (l : Loading) (u v : List ℕ) → IsRestOfImage dialect phase l.made u v
      → AreWholeItems dialect l (shown_items (no_items
      (place_after_fault (Image dialect phase) u e)))
      (no_items (place_after_fault true v e))
  stopped_image Short phase l u v left = record { found = refl; rest = (refl, refl, left) }
  stopped_image e phase l u v left = record { found = refl; rest = (refl, refl, refl) }

  -- A part that is refused.
  refused_grouped : (l : Loading) (p : ImagePart) (e : Fault) (others : List Item) → with_part l.made p ≡ Err e
      → grouped_items dialect l (item.Part p ∷ others) ≡ record { found = []; loaded = Err e }
  refused_grouped l p e others refuses = rw refuses refl

  refused_first : (l : Loading) (p : ImagePart) (e : Fault) (i : Items Phase Item) (v : List ℕ)
      → with_part l.made p ≡ Err e → (e ≡ Short → ⊥)
      → AreWholeItems dialect l (with_first (item.Part p) i) (no_items (place_after_fault true v e))
  refused_first l p e i v refuses other =
      grouped_as (record { found = []; loaded = Err e }) l (with_first (item.Part p) i)
      (no_items (place_after_fault true v e)) (refused_grouped l p e i.found refuses) refl
      (refused_other e v other)

  -- ---- the claims

  -- No image is being loaded, and both sides have the same bytes left. Inside an image the reader by images still has
  -- all its bytes.
  abbrev AtPacket : List ℕ → Type 0
  AtPacket u = AreWholeItems dialect (empty_loading dialect) (items_shown_at (place_at (Packets dialect) u))
      (items_in (whole_items dialect) (place_at false u))

  abbrev SameInImage : List ℕ → PartPhase → Loading → List ℕ → Type 0
  SameInImage u phase l v = AreWholeItems dialect l (items_shown_at (place_at (Image dialect phase) u))
      (items_in (whole_items dialect) (place_at true v))

  abbrev InImage : List ℕ → Type 0
  InImage u =
      (phase : PartPhase) (l : Loading) (v : List ℕ) → IsRestOfImage dialect phase l.made u v → SameInImage u phase l v

  abbrev Both : List ℕ → Type 0
  Both u = AtPacket u × InImage u

  -- ---- packets

  -- An image comes after a SNAP packet, and only there.
  after_packet : (snap : Bool) (rest : List ℕ) → Both rest
      → AreWholeItems dialect (empty_loading dialect)
      (items_shown_at (place_at (cond snap (Image dialect SessionCount) (Packets dialect)) rest))
      (items_in (whole_items dialect) (place_at snap rest))
  after_packet true rest both = both.1 SessionCount (empty_loading dialect) rest (rest_at_start rest)
  after_packet false rest both = both.0

  at_packet : (u : List ℕ) → ((b : List ℕ) → length b < length u → Both b) → AtPacket u
  at_packet u shorter = by (packet_format.read u) refl
    where
      by : (r : Result (QuorumPacket × List ℕ) Fault) → packet_format.read u ≡ r → AtPacket u
      by (Ok x) h =
          let next = phase_after_packet dialect x.0 in
          let found = read_case packet_format (λ p. OfPacket p) packet_back u x.1 x.0 h in
          let whole = read_case packet_format (λ p. OnePacket p) one_packet_back u x.1 x.0 h in
          let others = items_shown_at (place_at next x.1) in
          let whole_others = items_in (whole_items dialect) (place_at (is_snap x.0) x.1) in
          same_by (empty_loading dialect)
          _ (with_first (item.Packet x.0) others) _ (with_first (OnePacket x.0) whole_others)
          (ap (λ (i : Items Phase FoundValue). shown_items i)
          (items_whole stream_of_leader leader_streamed (Packets dialect) u x.1 (OfPacket x.0) found))
          (items_whole (whole_items dialect) (whole_streamed dialect) false u x.1 (OnePacket x.0) whole)
          (packet_first (empty_loading dialect) x.0 others whole_others
          (after_packet (is_snap x.0) x.1
          (shorter x.1 (shorter_rest stream_of_leader leader_streamed (Packets dialect) u x.1 (OfPacket x.0) found))))
      by (Err e) h =
          same_by (empty_loading dialect) _ _ _ _
          (ap (λ (i : Items Phase FoundValue). shown_items i)
          (items_refused stream_of_leader leader_streamed (Packets dialect) u e
          (refused_case packet_format (λ p. OfPacket p) packet_back u e h)))
          (items_refused (whole_items dialect) (whole_streamed dialect) false u e
          (refused_case packet_format (λ p. OnePacket p) one_packet_back u e h))
          (stopped_packet e u)

  -- ---- parts

  -- One value of an image was read.
  module _ (u rest : List ℕ) (x : Value) (phase : PartPhase) (made : LoadedParts) (v : List ℕ)
      (read : (part_format dialect phase).read u ≡ Ok (x, rest)) (left : IsRestOfImage dialect phase made u v) where
    parts_there : items_shown_at (place_at (Image dialect phase) u)
        ≡ shown_items (with_first (OfImage x)
        (items_in stream_of_leader (place_at (phase_after_value dialect phase x) rest)))
    parts_there =
        ap (λ (i : Items Phase FoundValue). shown_items i)
        (items_whole stream_of_leader leader_streamed (Image dialect phase) u rest (OfImage x)
        (read_case (part_format dialect phase) (λ v. OfImage v) value_back u rest x read))

    -- The image goes on after the value.
    rest_after : (next : LoadedParts) → with_value made x ≡ Ok next → is_end x ≡ false
        → IsRestOfImage dialect (part_after phase x) next rest v
    rest_after next p l more =
        let goes_on : load_from (image_load dialect) phase made (u ++ more)
        ≡ load_from (image_load dialect) (part_after phase x) next (rest ++ more) =
        load_read_on (image_load dialect) parts_streamed phase made u rest more x read ∙ rw (p, l) refl in
        ap image_of (sym goes_on) ∙ left more

    -- It was the last value.
    whole_there : (next : LoadedParts) → with_value made x ≡ Ok next → is_end x ≡ true
        → items_in (whole_items dialect) (place_at true v)
        ≡ with_first (OneImage next.state) (items_in (whole_items dialect) (place_at false rest))
    whole_there next p l =
        let loads : load_from (image_load dialect) phase made u ≡ Ok (next, rest) =
        load_read (image_load dialect) parts_streamed phase made u rest x read ∙ rw (p, l) refl in
        let reads : image_read_in dialect v ≡ Ok (next.state, rest) =
        sym (rest_now phase made u v left) ∙ ap image_of loads in
        items_whole (whole_items dialect) (whole_streamed dialect) true v rest (OneImage next.state)
        (read_case (image_in dialect) (λ s. OneImage s) one_image_back v rest next.state reads)

    -- The value is refused.
    whole_refused : (e : Fault) → with_value made x ≡ Err e
        → items_in (whole_items dialect) (place_at true v) ≡ no_items (place_after_fault true v e)
    whole_refused e p =
        let loads : load_from (image_load dialect) phase made u ≡ Err e =
        load_read (image_load dialect) parts_streamed phase made u rest x read ∙ rw p refl in
        let refuses : image_read_in dialect v ≡ Err e = sym (rest_now phase made u v left) ∙ ap image_of loads in
        items_refused (whole_items dialect) (whole_streamed dialect) true v e
        (refused_case (image_in dialect) (λ s. OneImage s) one_image_back v e refuses)

  module _ (u rest : List ℕ) (phase : PartPhase) (l : Loading) (v : List ℕ)
      (left : IsRestOfImage dialect phase l.made u v) (both : Both rest) where
    -- A count or a path isn't an item, and makes nothing.
    hidden : (x : Value) → (part_format dialect phase).read u ≡ Ok (x, rest) → with_value l.made x ≡ Ok l.made
        → is_end x ≡ false
        → shown_items (with_first (OfImage x)
        (items_in stream_of_leader (place_at (phase_after_value dialect phase x) rest)))
        ≡ items_shown_at (place_at (Image dialect (part_after phase x)) rest)
        → SameInImage u phase l v
    hidden x read p inner unseen =
        same_by l _ _ _ _ (parts_there u rest x phase l.made v read left ∙ unseen) refl
        (both.1 (part_after phase x) l v (rest_after u rest x phase l.made v read left l.made p inner))

    -- A part that isn't the last.
    module _ (p : ImagePart) (read : (part_format dialect phase).read u ≡ Ok (Part p, rest))
        (inner : is_end (Part p) ≡ false) where
      abbrev others : Items Phase Item
      others = items_shown_at (place_at (Image dialect (part_after phase (Part p))) rest)

      part_by : (q : Result LoadedParts Fault) → with_part l.made p ≡ q
          → AreWholeItems dialect l (with_first (item.Part p) others) (items_in (whole_items dialect) (place_at true v))
      part_by (Ok next) makes =
          inner_first l p next others (items_in (whole_items dialect) (place_at true v)) makes inner
          (both.1 (part_after phase (Part p)) (loading_of next) v
          (rest_after u rest (Part p) phase l.made v read left next makes inner))
      part_by (Err e) refuses =
          same_by l _ _ _ _ refl (whole_refused u rest (Part p) phase l.made v read left e refuses)
          (refused_first l p e others v refuses
          (λ short. (never_waits dialect).goes_on l.made (Part p) (refuses ∙ ap (λ d. Err d) short)))

      part_there : SameInImage u phase l v
      part_there =
          same_by l _ (with_first (item.Part p) others) _ _
          (parts_there u rest (Part p) phase l.made v read left
          ∙ (λ i. with_first (item.Part p)
          (items_shown_at (place_at (cond (inner i) (Packets dialect) (Image dialect (part_after phase (Part p))))
          rest))))
          refl (part_by (with_part l.made p) refl)

    -- The end of the image.
    end_there : (part_format dialect phase).read u ≡ Ok (Part part.End, rest) → SameInImage u phase l v
    end_there read =
        let others = items_shown_at (place_at (Packets dialect) rest) in
        let whole_others = items_in (whole_items dialect) (place_at false rest) in
        same_by l _ (with_first (item.Part part.End) others) _ (with_first (OneImage l.made.state) whole_others)
        (parts_there u rest (Part part.End) phase l.made v read left)
        (whole_there u rest (Part part.End) phase l.made v read left l.made refl refl)
        (end_first l others whole_others both.0)

    one_value : (x : Value) → (part_format dialect phase).read u ≡ Ok (x, rest) → SameInImage u phase l v
    one_value (Count n) read = hidden (Count n) read refl refl refl
    one_value (Path path) read = hidden (Path path) read refl refl refl
    one_value Close read = hidden Close read refl refl refl
    one_value (Part part.End) read = end_there read
    one_value (Part p) read = part_there p read refl

  in_image : (u : List ℕ) → ((b : List ℕ) → length b < length u → Both b) → InImage u
  in_image u shorter phase l v left = by ((part_format dialect phase).read u) refl
    where
      by : (r : Result (Value × List ℕ) Fault) → (part_format dialect phase).read u ≡ r → SameInImage u phase l v
      by (Ok x) h =
          one_value u x.1 phase l v left
          (shorter x.1 (shorter_rest (part_stream dialect) parts_streamed phase u x.1 x.0 h)) x.0 h
      by (Err e) h =
          let refuses : image_read_in dialect v ≡ Err e =
          sym (rest_now phase l.made u v left)
          ∙ ap image_of (load_refused (image_load dialect) parts_streamed phase l.made u e h) in
          same_by l _ _ _ _
          (ap (λ (i : Items Phase FoundValue). shown_items i)
          (items_refused stream_of_leader leader_streamed (Image dialect phase) u e
          (refused_case (part_format dialect phase) (λ v. OfImage v) value_back u e h)))
          (items_refused (whole_items dialect) (whole_streamed dialect) true v e
          (refused_case (image_in dialect) (λ s. OneImage s) one_image_back v e refuses))
          (stopped_image e phase l u v left)

  both_within : (n : ℕ) (u : List ℕ) → length u < n → Both u
  both_within zero u lt = absurd (omega (arith, lt))
  both_within (suc n) u lt =
      let shorter : (b : List ℕ) → length b < length u → Both b = λ b less. both_within n b (omega (arith, less, lt)) in
      (at_packet u shorter, in_image u shorter)

  both : (u : List ℕ) → Both u
  both u = both_within (suc (length u)) u (omega arith)

  -- ---- the law

  pub packets_grouped : (bytes : List ℕ)
      → AreWholeItems dialect (empty_loading dialect) (items_shown_at (place_at (Packets dialect) bytes))
      (items_in (whole_items dialect) (place_at false bytes))
  packets_grouped bytes = (both bytes).0

  -- Further bytes come.
  packets_more : (l : Loading) (u v more : List ℕ) → l ≡ empty_loading dialect → u ≡ v
      → AreWholeItems dialect l (items_shown_at (place_at (Packets dialect) (u ++ more)))
      (items_in (whole_items dialect) (place_at false (v ++ more)))
  packets_more l u v more empty same =
      subst (λ (m : Loading). AreWholeItems dialect m (items_shown_at (place_at (Packets dialect) (u ++ more)))
      (items_in (whole_items dialect) (place_at false (v ++ more)))) (sym empty)
      (subst (λ (b : List ℕ).
      AreWholeItems dialect (empty_loading dialect) (items_shown_at (place_at (Packets dialect) (u ++ more)))
      (items_in (whole_items dialect) (place_at false (b ++ more)))) same (both (u ++ more)).0)

  with_more : (l : Loading) (phase : Phase) (u v : Unread) (more : List ℕ) → phase_dialect phase ≡ dialect
      → SameUnread dialect l phase u v
      → AreWholeItems dialect l (items_shown_at (with_more_bytes (record { phase = phase; unread = u }) more))
      (items_in (whole_items dialect) (with_more_bytes (record { phase = is_owed phase; unread = v }) more))
  with_more l (Packets d) (Ok u) (Ok v) more is s =
      subst (λ (d : Dialect). AreWholeItems dialect l (items_shown_at (place_at (Packets d) (u ++ more)))
      (items_in (whole_items dialect) (place_at false (v ++ more)))) (sym is) (packets_more l u v more s.0 s.1)
  with_more l (Image d phase) (Ok u) (Ok v) more is s =
      subst (λ (d : Dialect). AreWholeItems dialect l (items_shown_at (place_at (Image d phase) (u ++ more)))
      (items_in (whole_items dialect) (place_at true (v ++ more)))) (sym is)
      ((both (u ++ more)).1 phase l (v ++ more) (rest_with phase l.made u v more s))
  with_more l phase (Err d) (Err e) more is s = record { found = refl; rest = (is, refl, s) }
  with_more l phase (Ok u) (Err e) more is s = absurd s
  with_more l phase (Err d) (Ok v) more is s = absurd s

  pub pieces_grouped : (l : Loading) (place : Place Phase) (whole : Place Bool) (more : List ℕ)
      → SamePlace dialect l place whole
      → AreWholeItems dialect l (items_shown_at (with_more_bytes place more))
      (items_in (whole_items dialect) (with_more_bytes whole more))
  pieces_grouped l place whole more s =
      subst (λ (owed : Bool). AreWholeItems dialect l (items_shown_at (with_more_bytes place more))
      (items_in (whole_items dialect) (with_more_bytes (record { phase = owed; unread = whole.unread }) more)))
      (sym s.1)
      (with_more l place.phase place.unread whole.unread more s.0 s.2)

pub packets_are_grouped : PacketsAreGrouped
packets_are_grouped dialect bytes = packets_grouped dialect bytes

pub pieces_are_grouped : PiecesAreGrouped
pieces_are_grouped dialect l place whole more s = pieces_grouped dialect l place whole more s
