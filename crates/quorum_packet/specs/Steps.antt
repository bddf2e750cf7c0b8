-- The contracts of the feed's private functions. No public contract cites this.
use Rattle.std.specs.Prelude.{◌≡◌, ◌<◌, ◌≤◌, ℕ, List, [], ◌∷◌, length, drop, Option, Some, None, Result, Ok, Err, is_err, false}
use Rattle.values.specs.declared.fault.Fault.{Fault}
use Rattle.values.specs.declared.fault.ReadError.{ReadError}
use Rattle.values.specs.declared.fault.ReadError.TheVariants as errors
use Rattle.jute.specs.Reads.{IsFailureOf}
use Rattle.jute.specs.Stream.{Unread, Place, no_items, with_first, items_in}
use Rattle.quorum_packet.specs.declared.lending.Step.{Step}
use Rattle.quorum_packet.specs.declared.lending.Step.TheVariants as step
use Rattle.quorum_packet.specs.declared.item.Item.{Item}
use Rattle.quorum_packet.specs.declared.item.LentItem.{LentItem}
use Rattle.quorum_packet.specs.declared.phase.Phase.{Phase}
use Rattle.quorum_packet.specs.Feed.{unread_len, WaitsForMore}
use Rattle.quorum_packet.specs.Lending.{owned_item}
use Rattle.quorum_packet.specs.Items.{FoundValue, found_format, phase_after, stream_of_leader, shown_in}

abbrev pub items_of_option : Option LentItem → List Item
items_of_option None = []
items_of_option (Some i) = owned_item i ∷ []

-- The value at a place, and the place and the phase after it.
abbrev pub FindsItem : Result (Option LentItem) ReadError → Phase → Phase → List ℕ → List ℕ → Type 0
FindsItem (Ok found) phase next old new =
    (v : FoundValue) × ((found_format phase).read old ≡ Ok (v, new)) × (next ≡ phase_after phase v)
    × (shown_in v ≡ items_of_option found)
FindsItem (Err e) phase next old new = IsFailureOf e ((found_format phase).read old) × (new ≡ old) × (next ≡ phase)

-- The value at the front of the bytes, the bytes that it takes, and the phase after it.
abbrev pub ReadsFront : Result (Option LentItem × ℕ) ReadError → Phase → Phase → List ℕ → Type 0
ReadsFront (Ok x) phase next bytes =
    (v : FoundValue) × ((found_format phase).read bytes ≡ Ok (v, drop x.1 bytes)) × (x.1 ≤ length bytes)
    × (next ≡ phase_after phase v) × (shown_in v ≡ items_of_option x.0)
ReadsFront (Err e) phase next bytes = IsFailureOf e ((found_format phase).read bytes) × (next ≡ phase)

-- A value was found at the place, and is an item or not.
pub record FindsOne (show : List Item) (old new : Place Phase) : Type 0 where
  pub found : FoundValue
  pub first : items_in stream_of_leader old ≡ with_first found (items_in stream_of_leader new)
  pub shows : shown_in found ≡ show
  pub less : unread_len new.unread < unread_len old.unread
  pub before_it : is_err old.unread ≡ false
  pub behind_it : is_err new.unread ≡ false

-- There is no further complete value, and the stream waits or has this fault.
abbrev pub FindsNone : Result (Unit {0}) Fault → Place Phase → Place Phase → Type 0
FindsNone (Ok u) old new = (items_in stream_of_leader old ≡ no_items new) × WaitsForMore new.phase new.unread
FindsNone (Err e) old new = (items_in stream_of_leader old ≡ no_items new) × (new.unread ≡ Err e)

abbrev pub IsStepResult : Result Step ReadError → Place Phase → Place Phase → Type 0
IsStepResult (Ok step.Nothing) old new = FindsNone (Ok tt) old new
IsStepResult (Ok step.Hidden) old new = FindsOne [] old new
IsStepResult (Ok (step.Shown i)) old new = FindsOne (owned_item i ∷ []) old new
IsStepResult (Err errors.NoMemory) old new = (new ≡ old) × (is_err old.unread ≡ false)
IsStepResult (Err (errors.Fault e)) old new = FindsNone (Err e) old new

-- Bytes wait, and the next value is refused for this fault.
abbrev pub RefusesUnread : Fault → Phase → Unread → Type 0
RefusesUnread fault phase (Ok bytes) = (found_format phase).read bytes ≡ Err fault
RefusesUnread fault phase (Err e) = ⊥

abbrev pub RefusesNext : Place Phase → Fault → Type 0
RefusesNext place fault = RefusesUnread fault place.phase place.unread

abbrev pub item_of_step : Result Step ReadError → Option LentItem
item_of_step (Ok (step.Shown i)) = Some i
item_of_step (Ok s) = None
item_of_step (Err e) = None
