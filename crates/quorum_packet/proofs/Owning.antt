-- Bytes that are read where they lie, and a feed that owns what it lends.
use Rattle.std.proofs.Common.{◌≡◌, ℕ, ◌<◌, Bool, false, List, [], ◌∷◌, ◌++◌, Option, Some, None, Ok, Err, is_err, refl, sym, ap, subst, arith}
use mathlib.Core.Bool.{true≢false}
use Rattle.values.specs.declared.fault.Fault.{Fault}
use Rattle.values.specs.declared.fault.ReadError.TheVariants as errors
use Rattle.jute.specs.Stream.{Unread, Place, with_more_bytes}
use Rattle.quorum_packet.specs.declared.item.Item.{Item}
use Rattle.quorum_packet.specs.declared.item.Item.TheVariants as item
use Rattle.quorum_packet.specs.declared.packet.QuorumPacket.{QuorumPacket}
use Rattle.quorum_packet.specs.declared.phase.Phase.{Phase}
use Rattle.quorum_packet.specs.declared.phase.Phase.TheVariants.{Packets, Image}
use Rattle.quorum_packet.specs.Feed.{AnswersNext, unread_len}
use Rattle.quorum_packet.specs.GroupedItems.{AreInOrder}
use Rattle.quorum_packet.specs.Items.{phase_dialect, items_shown_at}
use Rattle.quorum_packet.specs.Lending.{bytes_of_source}
use Rattle.quorum_packet.specs.WholeItems.{is_owed}
use Rattle.quorum_packet.proofs.Finding.{place_of}
use Rattle.quorum_packet.proofs.ItemOrder.{items_in_order}

pub bytes_alone : (queue piece : List ℕ) → queue ≡ [] → bytes_of_source queue piece ≡ piece
bytes_alone [] piece h = refl
bytes_alone (b ∷ queue) piece h = absurd cc

pub bytes_queued : (queue piece : List ℕ) → (queue ≡ [] → ⊥) → bytes_of_source queue piece ≡ queue
bytes_queued [] piece h = absurd (h refl)
bytes_queued (b ∷ queue) piece h = refl

pub bytes_first : (queue piece : List ℕ) → queue ≡ [] → bytes_of_source queue piece ≡ queue ++ piece
bytes_first [] piece h = refl
bytes_first (b ∷ queue) piece h = absurd cc

pub bytes_added : (queue piece : List ℕ) → (queue ≡ [] → ⊥) → bytes_of_source (queue ++ piece) piece ≡ queue ++ piece
bytes_added [] piece h = absurd (h refl)
bytes_added (b ∷ queue) piece h = refl

pub with_piece : (queue piece : List ℕ) (phase : Phase) (fault : Option Fault)
    → place_of (queue ++ piece) phase fault ≡ with_more_bytes (place_of queue phase fault) piece
with_piece queue piece phase None = refl
with_piece queue piece phase (Some e) = refl

-- ---- a packet that comes first

not_owed : (phase : Phase) → is_owed phase ≡ false → phase ≡ Packets (phase_dialect phase)
not_owed (Packets dialect) h = refl
not_owed (Image dialect parts) h = absurd (true≢false h)

first_packet : (owed last : Bool) (p : QuorumPacket) (found others : List Item) → found ≡ item.Packet p ∷ others
    → AreInOrder owed found last → owed ≡ false
first_packet owed last p found others is h =
    let at : AreInOrder owed (item.Packet p ∷ others) last = subst (λ (f : List Item). AreInOrder owed f last) is h in
    at.0

has_bytes : (u : Unread) (n : ℕ) → n < unread_len u → is_err u ≡ false
has_bytes (Ok bytes) n h = refl
has_bytes (Err e) n h = absurd (omega (arith, h))

-- Where the next item is a packet, a packet comes next, and it does so again if it wasn't taken.
pub packet_untaken : (p : QuorumPacket) (old mid : Place Phase) → AnswersNext (Ok (Some (item.Packet p))) old mid
    → AnswersNext (Err errors.NoMemory) old (record { phase = Packets (phase_dialect old.phase); unread = old.unread })
packet_untaken p old mid a =
    let at = not_owed old.phase (first_packet (is_owed old.phase) (is_owed (items_shown_at old).left.phase) p
    (items_shown_at old).found (items_shown_at mid).found (ap (λ i. i.found) a.0) (items_in_order old)) in
    let fine = has_bytes old.unread (unread_len mid.unread) a.1 in (
      ap items_shown_at (λ i. record { phase = sym at i; unread = old.unread }),
      fine,
      fine,
    )
