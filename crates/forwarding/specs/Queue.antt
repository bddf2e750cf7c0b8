-- The requests of one connection that aren't answered yet, the oldest first, and what an answer takes from them.
use Rattle.std.specs.Prelude.{◌≡◌, ℕ, suc, ℤ, pos, negsuc, List, [], ◌∷◌, Option, None, Some, is_some, Bool, true, false, ◌&&◌, ◌||◌, not, drop, if◌then◌else◌}
use Rattle.std.specs.Ordering.{int_eq}
use Rattle.forwarding.specs.declared.request.WriteKind.{WriteKind}
use Rattle.forwarding.specs.declared.request.WriteKind.TheVariants.{Create, Create2, CreateContainer, CreateTtl, Delete, DeleteContainer, SetData, SetAcl, Multi, Reconfig, CloseSession}
use Rattle.forwarding.specs.declared.request.ConnectKind.{ConnectKind}
use Rattle.forwarding.specs.declared.request.ConnectKind.TheVariants.{New, Claimed}
use Rattle.forwarding.specs.declared.request.PendingConnect.{PendingConnect}
use Rattle.forwarding.specs.declared.request.PendingWrite.{PendingWrite}
use Rattle.forwarding.specs.declared.request.AnsweredWrite.{AnsweredWrite}
use Rattle.forwarding.specs.declared.request.PendingRequest.{PendingRequest}
use Rattle.forwarding.specs.declared.request.PendingRequest.TheVariants.{Connect, Write, Sync, Held}
use Rattle.forwarding.specs.declared.request.Ready.{Ready}
use Rattle.forwarding.specs.declared.request.Ready.TheVariants.{SettledSync, HeldFrame}

abbrev pub RequestQueue : Type 0
RequestQueue = List PendingRequest

-- The most requests of a connection that wait.
abbrev pub pending_limit : ℕ
pending_limit = 1024

-- ---- writes

-- The type of the request, and of its transaction.
abbrev pub write_number : WriteKind → ℤ
write_number Create = pos 1
write_number Delete = pos 2
write_number SetData = pos 5
write_number SetAcl = pos 7
write_number Multi = pos 14
write_number Create2 = pos 15
write_number Reconfig = pos 16
write_number CreateContainer = pos 19
write_number DeleteContainer = pos 20
write_number CreateTtl = pos 21
write_number CloseSession = negsuc 10

-- The type of a transaction that stands for one that failed.
abbrev pub error_txn : ℤ
error_txn = negsuc 0

-- A transaction of this xid and type answers the write.
abbrev pub is_answered_by : PendingWrite → ℤ → ℤ → Bool
is_answered_by w xid txn_kind = int_eq w.xid xid && (int_eq txn_kind (write_number w.kind) || int_eq txn_kind error_txn)

abbrev pub is_write : PendingRequest → Bool
is_write (Write w) = true
is_write (Connect c) = false
is_write (Sync s) = false
is_write (Held frame) = false

abbrev pub oldest_write : RequestQueue → Option PendingWrite
oldest_write [] = None
oldest_write (Write w ∷ rest) = Some w
oldest_write (r ∷ rest) = oldest_write rest

-- Its place in the queue.
abbrev pub write_place : RequestQueue → ℕ
write_place [] = 0
write_place (Write w ∷ rest) = 0
write_place (r ∷ rest) = suc (write_place rest)

abbrev pub without_oldest_write : RequestQueue → RequestQueue
without_oldest_write [] = []
without_oldest_write (Write w ∷ rest) = rest
without_oldest_write (r ∷ rest) = r ∷ without_oldest_write rest

abbrev pub is_answered : Option PendingWrite → ℤ → ℤ → Bool
is_answered None xid txn_kind = false
is_answered (Some w) xid txn_kind = is_answered_by w xid txn_kind

abbrev pub kind_in : Option PendingWrite → Option WriteKind
kind_in None = None
kind_in (Some w) = Some w.kind

-- The kind of the oldest write, if a transaction of this xid and type answers it.
abbrev pub answered_write : RequestQueue → ℤ → ℤ → Option WriteKind
answered_write q xid txn_kind = if is_answered (oldest_write q) xid txn_kind then kind_in (oldest_write q) else None

abbrev pub at_place : ℕ → Option WriteKind → Option AnsweredWrite
at_place place None = None
at_place place (Some kind) = Some (record { place = place; kind = kind })

-- The oldest write with its place, if a transaction of this xid and type answers it.
abbrev pub found_write : RequestQueue → ℤ → ℤ → Option AnsweredWrite
found_write q xid txn_kind = at_place (write_place q) (answered_write q xid txn_kind)

-- There is a write, and the oldest has this place.
pub record OldestWriteIsAt (q : RequestQueue) (place : ℕ) : Type 0 where
  pub there : is_some (oldest_write q) ≡ true
  pub at : place ≡ write_place q

abbrev pub after_answer : RequestQueue → ℤ → ℤ → RequestQueue
after_answer q xid txn_kind = if is_answered (oldest_write q) xid txn_kind then without_oldest_write q else q

abbrev pub is_close : WriteKind → Bool
is_close CloseSession = true
is_close kind = false

-- The xid of the oldest closeSession.
abbrev pub oldest_close : RequestQueue → Option ℤ
oldest_close [] = None
oldest_close (Write w ∷ rest) = if is_close w.kind then Some w.xid else oldest_close rest
oldest_close (r ∷ rest) = oldest_close rest

-- ---- syncs

abbrev pub is_unsettled : PendingRequest → Bool
is_unsettled (Sync s) = not s.is_settled
is_unsettled (Connect c) = false
is_unsettled (Write w) = false
is_unsettled (Held frame) = false

-- The number of syncs that the leader hasn't settled.
abbrev pub unsettled_count : RequestQueue → ℕ
unsettled_count [] = 0
unsettled_count (r ∷ rest) = if is_unsettled r then suc (unsettled_count rest) else unsettled_count rest

abbrev pub settled_request : PendingRequest → PendingRequest
settled_request (Sync s) = Sync (record s { is_settled = true })
settled_request (Connect c) = Connect c
settled_request (Write w) = Write w
settled_request (Held frame) = Held frame

-- The oldest sync that isn't settled is settled.
abbrev pub with_oldest_settled : RequestQueue → RequestQueue
with_oldest_settled [] = []
with_oldest_settled (r ∷ rest) = if is_unsettled r then settled_request r ∷ rest else r ∷ with_oldest_settled rest

-- ---- what stands in front

-- A settled sync or a held frame in front can be answered.
abbrev pub ready_request : RequestQueue → Option Ready
ready_request [] = None
ready_request (Connect c ∷ rest) = None
ready_request (Write w ∷ rest) = None
ready_request (Sync s ∷ rest) = if s.is_settled then Some (SettledSync s.xid s.path) else None
ready_request (Held frame ∷ rest) = Some (HeldFrame frame)

abbrev pub without_front_if : {A : Type 0} → Option A → RequestQueue → RequestQueue
without_front_if None q = q
without_front_if (Some x) q = drop 1 q

-- The connect in front.
abbrev pub waiting_connect : RequestQueue → Option PendingConnect
waiting_connect [] = None
waiting_connect (Connect c ∷ rest) = Some c
waiting_connect (Write w ∷ rest) = None
waiting_connect (Sync s ∷ rest) = None
waiting_connect (Held frame ∷ rest) = None

abbrev pub is_same_kind : ConnectKind → ConnectKind → Bool
is_same_kind New New = true
is_same_kind New Claimed = false
is_same_kind Claimed New = false
is_same_kind Claimed Claimed = true

-- The connect asks for its session in this way.
abbrev pub asks_as : ConnectKind → Option PendingConnect → Bool
asks_as kind None = false
asks_as kind (Some c) = is_same_kind c.kind kind

-- The frames that are held, in order.
abbrev pub held_frames : RequestQueue → List (List ℕ)
held_frames [] = []
held_frames (Connect c ∷ rest) = held_frames rest
held_frames (Write w ∷ rest) = held_frames rest
held_frames (Sync s ∷ rest) = held_frames rest
held_frames (Held frame ∷ rest) = frame ∷ held_frames rest
