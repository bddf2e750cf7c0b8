-- The contracts of the feed of a leader's stream.
use Rattle.std.specs.Prelude.{◌≡◌, ℕ, ◌+◌, [], ◌∷◌, length, Option, Some, None, Result, Ok, Err, is_err, false, ◌<◌}
use Rattle.values.specs.declared.fault.Fault.{Fault}
use Rattle.values.specs.declared.fault.Fault.TheVariants.{Short}
use Rattle.values.specs.declared.fault.ReadError.{ReadError}
use Rattle.values.specs.declared.fault.ReadError.TheVariants as errors
use Rattle.jute.specs.Stream.{Unread, Place, no_items, with_first}
use Rattle.snapshot_codec.specs.declared.part.PartPhase.TheVariants.{Body}
use Rattle.quorum_packet.specs.declared.item.Item.{Item}
use Rattle.quorum_packet.specs.declared.item.Item.TheVariants as item
use Rattle.quorum_packet.specs.declared.phase.Phase.{Phase}
use Rattle.quorum_packet.specs.declared.phase.Phase.TheVariants.{Packets, Image}
use Rattle.quorum_packet.specs.Items.{found_format, items_shown_at}
use Rattle.quorum_packet.specs.Packet.{packet_format}

abbrev pub unread_len : Unread → ℕ
unread_len (Ok bytes) = length bytes
unread_len (Err e) = 0

-- Too few bytes are unread for the next value.
abbrev pub WaitsForMore : Phase → Unread → Type 0
WaitsForMore phase (Ok bytes) = (found_format phase).read bytes ≡ Err Short
WaitsForMore phase (Err e) = ⊥

-- The contract of `next`: it returns the first packet or part and leaves the stream after it; or it returns none, and
-- too few bytes are there for a value; or it returns the fault. An allocation is refused only where no fault came, and
-- the items of the stream are the same afterwards.
abbrev pub AnswersNext : Result (Option Item) ReadError → Place Phase → Place Phase → Type 0
AnswersNext (Ok (Some i)) old new =
    (items_shown_at old ≡ with_first i (items_shown_at new)) × (unread_len new.unread < unread_len old.unread)
AnswersNext (Ok None) old new = (items_shown_at old ≡ no_items new) × WaitsForMore new.phase new.unread
AnswersNext (Err errors.NoMemory) old new =
    (items_shown_at new ≡ items_shown_at old) × (is_err old.unread ≡ false) × (is_err new.unread ≡ false)
AnswersNext (Err (errors.Fault e)) old new = (items_shown_at old ≡ no_items new) × (new.unread ≡ Err e)

-- A packet that was read can be written.
abbrev pub CanBeWritten : Item → Type 0
CanBeWritten (item.Packet p) = packet_format.Writable p
CanBeWritten (item.Part p) = Unit {0}

-- A stream may end here unless there was a fault, an image is incomplete, or bytes are unread.
abbrev pub stream_end : Phase → Unread → Result (Unit {0}) Fault
stream_end phase (Err e) = Err e
stream_end (Image dialect phase) (Ok bytes) = Err Short
stream_end (Packets dialect) (Ok []) = Ok tt
stream_end (Packets dialect) (Ok (b ∷ bytes)) = Err Short

abbrev pub end_of : Place Phase → Result (Unit {0}) Fault
end_of place = stream_end place.phase place.unread

-- The number of bytes that a phase keeps of an incomplete part.
abbrev pub kept_len : Phase → ℕ
kept_len (Image dialect (Body path)) = length path
kept_len phase = 0

-- The unread bytes, and the path of an incomplete node.
abbrev pub held_len : Place Phase → ℕ
held_len place = kept_len place.phase + unread_len place.unread
