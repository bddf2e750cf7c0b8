-- The contracts of the private functions, and what always holds inside a type. No public contract cites this.
use Rattle.std.specs.Prelude.{◌≡◌, ℕ, ℤ, ◌-◌, ◌<◌, List, ◌∷◌, [], take, Option, None, Some, is_some, Bool, true, false, length}
use Rattle.std.specs.List.{remove}
use Rattle.std.specs.FinMap as finmap
use Rattle.std.specs.FinSet as set
use Rattle.forwarding.specs.declared.request.PendingWrite.{PendingWrite}
use Rattle.forwarding.specs.declared.request.PendingRequest.{PendingRequest}
use Rattle.forwarding.specs.declared.request.PendingRequest.TheVariants.{Connect, Write, Sync, Held}
use Rattle.forwarding.specs.Queue.{RequestQueue, is_close, oldest_write, write_place, without_oldest_write, ready_request}
use Rattle.forwarding.specs.State.{RequestQueues, TouchedSessions}

-- The connection's queue is this now, if it has one; it may be empty.
abbrev pub with_changed : RequestQueues → ℕ → (RequestQueue → RequestQueue) → Option RequestQueue → RequestQueues
with_changed queues n change None = queues
with_changed queues n change (Some q) = finmap.insert queues n (change q)

abbrev pub has_empty : Option RequestQueue → Bool
has_empty None = false
has_empty (Some []) = true
has_empty (Some (r ∷ rest)) = false

-- Without the connection's queue, if that is empty.
abbrev pub without_empty : RequestQueues → ℕ → Option RequestQueue → RequestQueues
without_empty queues n None = queues
without_empty queues n (Some []) = finmap.remove queues n
without_empty queues n (Some (r ∷ rest)) = queues

abbrev pub as_write : PendingRequest → Option PendingWrite
as_write (Write w) = Some w
as_write (Connect c) = None
as_write (Sync s) = None
as_write (Held frame) = None

abbrev pub is_close_request : PendingRequest → Bool
is_close_request (Write w) = is_close w.kind
is_close_request (Connect c) = false
is_close_request (Sync s) = false
is_close_request (Held frame) = false

-- The oldest write stands at this place.
pub record IsOldestWrite (q : RequestQueue) (place : ℕ) (w : PendingWrite) : Type 0 where
  pub within : place < length q
  pub at : place ≡ write_place q
  pub is : oldest_write q ≡ Some w
  pub rest : remove q place ≡ without_oldest_write q

-- Whether the request in front can be answered.
abbrev pub is_ready : RequestQueue → Bool
is_ready q = is_some (ready_request q)

-- ---- syncs

abbrev pub first_sync : List (Option ℕ) → Option (Option ℕ)
first_sync [] = None
first_sync (place ∷ rest) = Some place

abbrev pub without_newest : List (Option ℕ) → List (Option ℕ)
without_newest syncs = take (length syncs - 1) syncs

abbrev pub IsTouched : TouchedSessions → ℤ → Type 0
IsTouched touched session = set.contains touched session ≡ true
