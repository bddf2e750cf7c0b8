-- How the requests, the list of syncs and the waiting connects fit together.
use Rattle.std.specs.Prelude.{◌≡◌, ◌≢◌, ℕ, suc, ◌≤◌, ◌==◌, ℤ, List, [], ◌∷◌, Option, None, Some, Bool, true, false, not, length, drop, if◌then◌else◌}
use Rattle.std.specs.List.{list_any}
use Rattle.std.specs.FinMap as finmap
use Rattle.forwarding.specs.declared.request.PendingConnect.{PendingConnect}
use Rattle.forwarding.specs.declared.request.PendingRequest.{PendingRequest}
use Rattle.forwarding.specs.declared.request.PendingRequest.TheVariants.{Connect, Write, Sync, Held}
use Rattle.forwarding.specs.Queue.{RequestQueue, pending_limit, is_unsettled, unsettled_count, waiting_connect}
use Rattle.forwarding.specs.State.{PendingTable}
use Rattle.forwarding.specs.Pending.{queue_of}

abbrev pub is_connect : PendingRequest → Bool
is_connect (Connect c) = true
is_connect (Write w) = false
is_connect (Sync s) = false
is_connect (Held frame) = false

abbrev pub is_settled : PendingRequest → Bool
is_settled (Sync s) = s.is_settled
is_settled (Connect c) = false
is_settled (Write w) = false
is_settled (Held frame) = false

-- After a sync that isn't settled, none is.
abbrev pub settled_are_first : RequestQueue → Bool
settled_are_first [] = true
settled_are_first (r ∷ rest) = if is_unsettled r then not (list_any is_settled rest) else settled_are_first rest

-- The number of places that the connection has in the list of syncs.
abbrev pub places_of : ℕ → List (Option ℕ) → ℕ
places_of n [] = 0
places_of n (None ∷ rest) = places_of n rest
places_of n (Some m ∷ rest) = if m == n then suc (places_of n rest) else places_of n rest

-- A connection's requests, with so many places in the list of syncs.
pub record QueueAgrees (places : ℕ) (q : RequestQueue) : Type 0 where
  -- A connect stands in front, or not at all.
  pub connect_first : list_any is_connect (drop 1 q) ≡ false
  pub within_limit : length q ≤ pending_limit
  -- Each sync that isn't settled has a place, and no other request has one.
  pub places_are_unsettled : places ≡ unsettled_count q
  pub settled_first : settled_are_first q ≡ true

pub record PendingAgrees (s : PendingTable) : Type 0 where
  -- A connection with nothing pending isn't in the map.
  pub none_empty : (n : ℕ) → finmap.get s.queues n ≢ Some []
  pub queues : (n : ℕ) → QueueAgrees (places_of n s.syncs) (queue_of s n)
  -- The waiting connects are those in front, each found by its session.
  pub in_front : (session : ℤ) (n : ℕ) → finmap.get s.connects session ≡ Some n
      → (c : PendingConnect) × ((waiting_connect (queue_of s n) ≡ Some c) × (c.session ≡ session))
  pub by_session : (n : ℕ) (c : PendingConnect) → waiting_connect (queue_of s n) ≡ Some c
      → finmap.get s.connects c.session ≡ Some n
