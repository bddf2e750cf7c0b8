-- The part of an incomplete value that wasn't scanned yet: all of it, some texts of a packet's authinfo, or some
-- entries of an ACL list, from a place on. No other value of an image needs this: its only long field is one buffer or
-- text, which isn't scanned until it is complete, and which nothing long follows.
use Rattle.std.specs.Prelude.{◌≡◌, ◌≤◌, ◌-◌, ◌*◌, ℕ, Bool, true, false, List, ◌++◌, length, drop, Option, Some, None, Result, Err, ℤ, if◌then◌else◌}
use Rattle.values.specs.declared.fault.Fault.{Fault}
use Rattle.settings.specs.Dialects.{reads_of}
use Rattle.jute.specs.Format.{Format, ◌>>=◌, int, long, buffer, name_in, text_or_empty, count_format, count_limit, read_n, vector_of, pair_of}
use Rattle.jute.specs.Owned.{acl_in}
use Rattle.jute.specs.declared.owned.Acl.{Acl}
use Rattle.snapshot_codec.specs.declared.part.PartPhase.TheVariants.{Acls}
use Rattle.quorum_packet.specs.declared.phase.Phase.{Phase}
use Rattle.quorum_packet.specs.declared.phase.Phase.TheVariants.{Packets, Image}
use Rattle.quorum_packet.specs.declared.unseen.Entries.{Entries}
use Rattle.quorum_packet.specs.declared.unseen.Texts.{Texts}
use Rattle.quorum_packet.specs.declared.unseen.Unseen.{Unseen}
use Rattle.quorum_packet.specs.declared.unseen.Unseen.TheVariants as unseen
use Rattle.quorum_packet.specs.Packet.{packet_format}

abbrev pub ReadFn : Type 0 → Type 0
ReadFn A = List ℕ → Result (A × List ℕ) Fault

-- Whatever follows the bytes, a refusal of the rest from a place on is a refusal of the whole.
pub record IsRestOf {A B : Type 0} (whole : ReadFn A) (left : ReadFn B) (bytes : List ℕ) (start : ℕ) : Type 0 where
  pub within : start ≤ length bytes
  pub refuses : (more : List ℕ) (e : Fault) → left (drop start (bytes ++ more)) ≡ Err e → whole (bytes ++ more) ≡ Err e

abbrev pub AreUnseen : List ℕ → Texts → Type 0
AreUnseen bytes texts = IsRestOf packet_format.read (read_n text_or_empty.read texts.count) bytes texts.start

-- An ACL list of an image, in whose texts surrogates may stand or not.
abbrev pub acl_list : Bool → Format (ℤ × Option (List Acl))
acl_list surrogates = pair_of long (vector_of (acl_in surrogates))

-- One read after another.
abbrev pub then_read : {A B : Type 0} → ReadFn A → ReadFn B → ReadFn B
then_read first second bytes = first bytes >>= λ x. second x.1

-- The entries that are left. Of the first one only the id is left, if its scheme was scanned.
abbrev pub entries_left : Bool → Bool → ℕ → ReadFn (List Acl)
entries_left surrogates false n = read_n (acl_in surrogates).read n
entries_left surrogates true n =
    then_read (name_in surrogates).read (read_n (acl_in surrogates).read (n - 1))

abbrev pub AreUnseenEntries : List ℕ → Entries → Type 0
AreUnseenEntries bytes entries =
    IsRestOf (acl_list entries.surrogates).read (entries_left entries.surrogates entries.scheme_seen entries.count) bytes
    entries.start

abbrev pub IsUnseen : List ℕ → Unseen → Type 0
IsUnseen bytes unseen.Whole = Unit {0}
IsUnseen bytes (unseen.Texts texts) = AreUnseen bytes texts
IsUnseen bytes (unseen.Entries entries) = AreUnseenEntries bytes entries

-- Nothing is known of a value that wasn't looked at.
abbrev pub MayBeUnseen : List ℕ → Option Unseen → Type 0
MayBeUnseen bytes None = Unit {0}
MayBeUnseen bytes (Some u) = IsUnseen bytes u

-- ---- how far the bytes were scanned

-- The number of texts left in the entries.
abbrev pub texts_left : Entries → ℕ
texts_left entries = if entries.scheme_seen then 2 * entries.count - 1 else 2 * entries.count

-- All of a packet, or of an ACL list, was scanned.
abbrev pub IsPacketSeen : Unseen → Type 0
IsPacketSeen (unseen.Texts texts) = texts.count ≡ 0
IsPacketSeen u = ⊥

abbrev pub IsListSeen : Unseen → Type 0
IsListSeen (unseen.Entries entries) = entries.count ≡ 0
IsListSeen u = ⊥

abbrev pub IsAllSeen : Phase → Unseen → Type 0
IsAllSeen (Packets dialect) u = IsPacketSeen u
IsAllSeen (Image dialect (Acls n)) u = IsListSeen u
IsAllSeen (Image dialect phase) u = Unit {0}

-- The fields before the texts: kind, zxid, data, and the number of ids.
abbrev pub packet_fields : Format (ℤ × (ℤ × (Option (List ℕ) × Option ℕ)))
packet_fields = pair_of int (pair_of long (pair_of buffer (count_format count_limit)))

-- The fields before the entries: the key, and the number of entries.
abbrev pub list_fields : Format (ℤ × Option ℕ)
list_fields = pair_of long (count_format count_limit)

-- The scan stopped with this fault at the first field that wasn't scanned, so everything complete was scanned.
abbrev pub PacketStopsAt : List ℕ → Unseen → Fault → Type 0
PacketStopsAt bytes unseen.Whole e = packet_fields.read bytes ≡ Err e
PacketStopsAt bytes (unseen.Texts texts) e = text_or_empty.read (drop texts.start bytes) ≡ Err e
PacketStopsAt bytes (unseen.Entries entries) e = ⊥

abbrev pub EntryStopsAt : Bool → Bool → List ℕ → Fault → Type 0
EntryStopsAt surrogates false bytes e = (pair_of int (name_in surrogates)).read bytes ≡ Err e
EntryStopsAt surrogates true bytes e = (name_in surrogates).read bytes ≡ Err e

abbrev pub ListStopsAt : Bool → List ℕ → Unseen → Fault → Type 0
ListStopsAt surrogates bytes unseen.Whole e = list_fields.read bytes ≡ Err e
ListStopsAt surrogates bytes (unseen.Entries entries) e =
    EntryStopsAt surrogates entries.scheme_seen (drop entries.start bytes) e
ListStopsAt surrogates bytes (unseen.Texts texts) e = ⊥

abbrev pub StopsAt : Phase → List ℕ → Unseen → Fault → Type 0
StopsAt (Packets dialect) bytes u e = PacketStopsAt bytes u e
StopsAt (Image dialect (Acls n)) bytes u e = ListStopsAt (reads_of dialect).surrogates bytes u e
StopsAt (Image dialect phase) bytes u e = ⊥
