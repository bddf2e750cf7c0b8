-- The contracts of items that are read where their bytes lie.
use Rattle.std.specs.Prelude.{ℕ, List, [], ◌∷◌, Option, Some, None, Result, Ok, Err}
use Rattle.values.specs.declared.fault.ReadError.{ReadError}
use Rattle.jute.specs.Stream.{Place}
use Rattle.quorum_packet.specs.declared.item.Item.{Item}
use Rattle.quorum_packet.specs.declared.item.Item.TheVariants as item
use Rattle.quorum_packet.specs.declared.item.LentItem.{LentItem}
use Rattle.quorum_packet.specs.declared.item.LentItem.TheVariants as lent
use Rattle.quorum_packet.specs.declared.lending.Progress.{Progress}
use Rattle.quorum_packet.specs.declared.phase.Phase.{Phase}
use Rattle.quorum_packet.specs.Feed.{CanBeWritten}
use Rattle.quorum_packet.specs.Held.{unread_of}

-- The item with its packet owned.
abbrev pub owned_item : LentItem → Item
owned_item (lent.Packet p) = item.Packet p
owned_item (lent.Part p) = item.Part p

abbrev pub owned_found : Option LentItem → Option Item
owned_found None = None
owned_found (Some i) = Some (owned_item i)

abbrev pub owned_answer : Result (Option LentItem) ReadError → Result (Option Item) ReadError
owned_answer (Ok found) = Ok (owned_found found)
owned_answer (Err e) = Err e

-- A packet that was read can be written.
abbrev pub CanBeWrittenOwned : LentItem → Type 0
CanBeWrittenOwned i = CanBeWritten (owned_item i)

-- The bytes that are lent, and the place of those that are unread.
pub record Lent : Type 0 where
  pub source : List ℕ
  pub place : Place Phase

-- The place of a reader that has come this far and has these bytes unread.
abbrev pub place_with : Progress → List ℕ → Place Phase
place_with p bytes = record { phase = p.phase; unread = unread_of bytes p.fault }

-- A piece is read where it lies if no bytes wait in the queue. Otherwise it was added to them.
abbrev pub bytes_of_source : List ℕ → List ℕ → List ℕ
bytes_of_source [] piece = piece
bytes_of_source (b ∷ queue) piece = b ∷ queue
