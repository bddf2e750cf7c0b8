-- Packets and parts, grouped into packets and whole images: the parts of an image are loaded one after another, in the
-- leader's dialect, and its end gives the state that was loaded.
use Rattle.std.specs.Prelude.{◌≡◌, ℕ, Bool, true, false, not, List, [], ◌∷◌, ◌++◌, Result, Ok, Err, if◌then◌else◌}
use Rattle.settings.specs.declared.dialect.Dialect.{Dialect}
use Rattle.values.specs.declared.fault.Fault.{Fault}
use Rattle.jute.specs.Format.{◌>>=◌}
use Rattle.jute.specs.Loading.{load_from}
use Rattle.jute.specs.Stream.{Unread, Place, Items, items_in, place_at, with_more_bytes}
use Rattle.data_tree.specs.State.{State}
use Rattle.snapshot_codec.specs.Image.{image_read_in}
use Rattle.snapshot_codec.specs.Made.{LoadedParts, Loading, no_parts_in, with_loaded, image_load}
use Rattle.snapshot_codec.specs.Parts.{Part, is_end}
use Rattle.snapshot_codec.specs.declared.part.PartPhase.{PartPhase}
use Rattle.quorum_packet.specs.declared.item.Item.{Item}
use Rattle.quorum_packet.specs.declared.item.Item.TheVariants as item
use Rattle.quorum_packet.specs.declared.phase.Phase.{Phase}
use Rattle.quorum_packet.specs.declared.phase.Phase.TheVariants.{Packets, Image}
use Rattle.quorum_packet.specs.Items.{is_snap, phase_dialect, items_shown_at}
use Rattle.quorum_packet.specs.WholeItems.{WholeItem, OnePacket, OneImage, is_owed, whole_items}

-- ---- packets and parts, grouped

-- The packets and whole images, and the image that is being loaded after them, or the fault of a part that was refused.
pub record GroupedItems : Type 0 where
  pub found : List WholeItem
  pub loaded : Result Loading Fault

abbrev pub empty_loading : Dialect → Loading
empty_loading dialect = record { made = no_parts_in dialect; ended = false }

abbrev pub item_before : WholeItem → GroupedItems → GroupedItems
item_before i others = record others { found = i ∷ others.found }

-- A part that is refused ends the list. The end of an image makes it whole, and nothing is loaded after it.
abbrev pub grouped_part : Dialect → Result Loading Fault → (Loading → GroupedItems) → GroupedItems
grouped_part dialect (Err e) others = record { found = []; loaded = Err e }
grouped_part dialect (Ok l) others =
    if l.ended then item_before (OneImage l.made.state) (others (empty_loading dialect)) else others l

abbrev pub grouped_items : Dialect → Loading → List Item → GroupedItems
grouped_items dialect l [] = record { found = []; loaded = Ok l }
grouped_items dialect l (item.Packet p ∷ others) = item_before (OnePacket p) (grouped_items dialect l others)
grouped_items dialect l (item.Part p ∷ others) =
    grouped_part dialect (with_loaded l p) (λ next. grouped_items dialect next others)

-- ---- a place in the stream, read by parts and by whole images

-- The state that the rest of an image makes, loaded on what its parts have made, and the bytes after the image.
abbrev pub image_from : Dialect → PartPhase → LoadedParts → List ℕ → Result (State × List ℕ) Fault
image_from dialect phase made bytes = load_from (image_load dialect) phase made bytes >>= λ x. Ok (x.0.state, x.1)

-- Whatever bytes follow: the rest of an image, loaded on what its parts have made, makes what all its bytes make.
abbrev pub IsRestOfImage : Dialect → PartPhase → LoadedParts → List ℕ → List ℕ → Type 0
IsRestOfImage dialect phase made rest all =
    (more : List ℕ) → image_from dialect phase made (rest ++ more) ≡ image_read_in dialect (all ++ more)

-- Where a packet comes next, nothing is loaded, and both sides have the same bytes left. Inside an image the reader by
-- parts has left what isn't loaded yet, and the reader by images all bytes of the image that have come.
abbrev pub SameBytes : Dialect → Loading → Phase → List ℕ → List ℕ → Type 0
SameBytes dialect l (Packets d) rest all = (l ≡ empty_loading dialect) × (rest ≡ all)
SameBytes dialect l (Image d phase) rest all = IsRestOfImage dialect phase l.made rest all

abbrev pub SameUnread : Dialect → Loading → Phase → Unread → Unread → Type 0
SameUnread dialect l phase (Ok rest) (Ok all) = SameBytes dialect l phase rest all
SameUnread dialect l phase (Err d) (Err e) = d ≡ e
SameUnread dialect l phase unread all = ⊥

-- The reader by parts reads in this dialect too, and an image is owed to both or to none.
abbrev pub SamePlace : Dialect → Loading → Place Phase → Place Bool → Type 0
SamePlace dialect l place whole =
    (phase_dialect place.phase ≡ dialect) × (whole.phase ≡ is_owed place.phase)
    × SameUnread dialect l place.phase place.unread whole.unread

-- The fault of a part that was refused is that of its image.
abbrev pub SameRest : Dialect → Result Loading Fault → Place Phase → Place Bool → Type 0
SameRest dialect (Ok l) place whole = SamePlace dialect l place whole
SameRest dialect (Err e) place whole = whole.unread ≡ Err e

-- ---- the law

-- The packets and parts, grouped, are these packets and images, and the same is left after them.
pub record AreWholeItems (dialect : Dialect) (l : Loading) (shown : Items Phase Item) (whole : Items Bool WholeItem) :
    Type 0 where
  pub found : (grouped_items dialect l shown.found).found ≡ whole.found
  pub rest : SameRest dialect (grouped_items dialect l shown.found).loaded shown.left whole.left

-- A packet comes next, and nothing is loaded.
abbrev pub PacketsAreGrouped : Type 0
PacketsAreGrouped =
    (dialect : Dialect) (bytes : List ℕ)
    → AreWholeItems dialect (empty_loading dialect) (items_shown_at (place_at (Packets dialect) bytes))
    (items_in (whole_items dialect) (place_at false bytes))

-- Further bytes come, at any place, also inside an image.
abbrev pub PiecesAreGrouped : Type 0
PiecesAreGrouped =
    (dialect : Dialect) (l : Loading) (place : Place Phase) (whole : Place Bool) (more : List ℕ)
    → SamePlace dialect l place whole
    → AreWholeItems dialect l (items_shown_at (with_more_bytes place more))
    (items_in (whole_items dialect) (with_more_bytes whole more))

-- A packet comes only where no image is owed, and a part only where one is owed, up to its end. `last` says whether an
-- image is owed after the last item.
abbrev pub AreInOrder : Bool → List Item → Bool → Type 0
AreInOrder owed [] last = owed ≡ last
AreInOrder owed (item.Packet p ∷ others) last =
    (owed ≡ false) × AreInOrder (is_snap p) others last
AreInOrder owed (item.Part p ∷ others) last = (owed ≡ true) × AreInOrder (not (is_end (Part p))) others last

abbrev pub ItemsAreInOrder : Type 0
ItemsAreInOrder =
    (place : Place Phase) → AreInOrder (is_owed place.phase) (items_shown_at place).found
    (is_owed (items_shown_at place).left.phase)
