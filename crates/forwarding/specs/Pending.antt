-- What is asked, and what answers it.
use Rattle.std.specs.Prelude.{ℕ, ◌==◌, ℤ, List, [], ◌∷◌, ◌++◌, Option, None, Some, Bool, true, false, not, length, take, drop, map, nat_lt, if◌then◌else◌}
use Rattle.std.specs.Ordering.{int_cmp}
use Rattle.std.specs.FinMap as finmap
use Rattle.std.specs.FinSet as set
use Rattle.forwarding.specs.declared.request.WriteKind.{WriteKind}
use Rattle.forwarding.specs.declared.request.ConnectKind.{ConnectKind}
use Rattle.forwarding.specs.declared.request.PendingConnect.{PendingConnect}
use Rattle.forwarding.specs.declared.request.PendingRequest.{PendingRequest}
use Rattle.forwarding.specs.declared.request.PendingRequest.TheVariants.{Connect, Write, Sync, Held}
use Rattle.forwarding.specs.declared.request.Ready.{Ready}
use Rattle.forwarding.specs.declared.request.Occupancy.{Occupancy}
use Rattle.forwarding.specs.declared.request.Occupancy.TheVariants.{Idle, Busy, Full}
use Rattle.forwarding.specs.declared.request.Settled.{Settled}
use Rattle.forwarding.specs.declared.request.Settled.TheVariants.{NoSync, Gone, Of}
use Rattle.forwarding.specs.Queue.{RequestQueue, pending_limit, answered_write, without_oldest_write, after_answer, oldest_close, with_oldest_settled, ready_request, without_front_if, waiting_connect, asks_as, held_frames}
use Rattle.forwarding.specs.State.{RequestQueues, WaitingConnects, TouchedSessions, PendingTable}

-- No request, no sync and no session.
abbrev pub nothing_pending : PendingTable
nothing_pending = record { queues = finmap.empty; syncs = []; connects = finmap.empty; touched = set.empty }

-- ---- the requests of a connection

abbrev pub queue_in : Option RequestQueue → RequestQueue
queue_in None = []
queue_in (Some q) = q

-- The requests of the connection, the oldest first.
abbrev pub queue_of : PendingTable → ℕ → RequestQueue
queue_of s n = queue_in (finmap.get s.queues n)

-- The connection has these requests now.
abbrev pub with_queue : RequestQueues → ℕ → RequestQueue → RequestQueues
with_queue queues n [] = finmap.remove queues n
with_queue queues n (r ∷ rest) = finmap.insert queues n (r ∷ rest)

abbrev pub put_queue : PendingTable → ℕ → RequestQueue → PendingTable
put_queue s n q = record s { queues = with_queue s.queues n q }

abbrev pub is_idle : PendingTable → ℕ → Bool
is_idle s n = not (finmap.contains_key s.queues n)

-- No connection has a request.
abbrev pub has_no_request : PendingTable → Bool
has_no_request s = finmap.len s.queues == 0

abbrev pub is_full : PendingTable → ℕ → Bool
is_full s n = not (nat_lt (length (queue_of s n)) pending_limit)

-- Whether a connection of this occupancy is idle.
abbrev pub means_idle : Occupancy → Bool
means_idle Idle = true
means_idle Busy = false
means_idle Full = false

-- Whether it is full.
abbrev pub means_full : Occupancy → Bool
means_full Idle = false
means_full Busy = false
means_full Full = true

-- ---- what is asked

-- The request stands after those of its connection.
abbrev pub push_request : PendingTable → ℕ → PendingRequest → PendingTable
push_request s n r = record s { queues = finmap.insert s.queues n (queue_of s n ++ r ∷ []) }

abbrev pub push_connect : PendingTable → ℕ → PendingConnect → PendingTable
push_connect s n c = record s {
  queues = finmap.insert s.queues n (queue_of s n ++ Connect c ∷ []);
  connects = finmap.insert s.connects c.session n;
}

abbrev pub push_write : PendingTable → ℕ → ℤ → WriteKind → PendingTable
push_write s n xid kind = push_request s n (Write (record { xid = xid; kind = kind }))

abbrev pub unsettled_sync : ℤ → List ℕ → PendingRequest
unsettled_sync xid path = Sync (record { xid = xid; path = path; is_settled = false })

abbrev pub push_sync : PendingTable → ℕ → ℤ → List ℕ → PendingTable
push_sync s n xid path = record s {
  queues = finmap.insert s.queues n (queue_of s n ++ unsettled_sync xid path ∷ []);
  syncs = s.syncs ++ Some n ∷ [];
}

abbrev pub hold_frame : PendingTable → ℕ → List ℕ → PendingTable
hold_frame s n frame = push_request s n (Held frame)

-- ---- what the leader's stream answers

pub record WriteAnswer : Type 0 where
  -- The kind of the write that is answered.
  pub kind : Option WriteKind
  pub after : PendingTable

-- The oldest write of the connection, if a transaction of this xid and type answers it; a sync before it waits on.
abbrev pub answer_write : PendingTable → ℕ → ℤ → ℤ → WriteAnswer
answer_write s n xid txn_kind = record {
  kind = answered_write (queue_of s n) xid txn_kind;
  after = put_queue s n (after_answer (queue_of s n) xid txn_kind);
}

-- The connection's requests without its oldest write.
abbrev pub remove_write : PendingTable → ℕ → PendingTable
remove_write s n = put_queue s n (without_oldest_write (queue_of s n))

-- The xid of the connection's oldest closeSession.
abbrev pub pending_close : PendingTable → ℕ → Option ℤ
pending_close s n = oldest_close (queue_of s n)

pub record SyncSettled : Type 0 where
  pub settled : Settled
  pub after : PendingTable

-- The oldest of these syncs is settled.
abbrev pub settle_first : PendingTable → List (Option ℕ) → SyncSettled
settle_first s [] = record { settled = NoSync; after = s }
settle_first s (None ∷ rest) = record { settled = Gone; after = record s { syncs = rest } }
settle_first s (Some n ∷ rest) =
    record {
      settled = Of n;
      after = record (put_queue s n (with_oldest_settled (queue_of s n))) { syncs = rest };
    }

abbrev pub settle_sync : PendingTable → SyncSettled
settle_sync s = settle_first s s.syncs

pub record TakenReady : Type 0 where
  pub ready : Option Ready
  pub after : PendingTable

-- The request in front, if it can be answered now.
abbrev pub take_ready : PendingTable → ℕ → TakenReady
take_ready s n = record {
  ready = ready_request (queue_of s n);
  after = put_queue s n (without_front_if (ready_request (queue_of s n)) (queue_of s n));
}

abbrev pub without_connect : WaitingConnects → Option PendingConnect → WaitingConnects
without_connect connects None = connects
without_connect connects (Some c) = finmap.remove connects c.session

-- The connection that waits for the session.
abbrev pub connecting_to : PendingTable → ℤ → Option ℕ
connecting_to s session = finmap.get s.connects session

abbrev pub awaiting_as : PendingTable → ConnectKind → Option ℕ → Option ℕ
awaiting_as s kind None = None
awaiting_as s kind (Some n) = if asks_as kind (waiting_connect (queue_of s n)) then Some n else None

-- The connection whose connect asks for the session in this way.
abbrev pub awaiting : PendingTable → ℤ → ConnectKind → Option ℕ
awaiting s session kind = awaiting_as s kind (connecting_to s session)

-- ---- connections that go

-- The place of a sync whose connection has gone stays, as nobody's.
abbrev pub without_owner : ℕ → Option ℕ → Option ℕ
without_owner n None = None
without_owner n (Some m) = if m == n then None else Some m

abbrev pub drop_connection : PendingTable → ℕ → PendingTable
drop_connection s n = record s {
  queues = finmap.remove s.queues n;
  syncs = map (without_owner n) s.syncs;
  connects = without_connect s.connects (waiting_connect (queue_of s n));
}

-- ---- a connect that is answered

pub record TakenConnect : Type 0 where
  pub connect : Option PendingConnect
  -- The frames that were held after it, in order.
  pub frames : List (List ℕ)
  pub after : PendingTable

abbrev pub take_connect_as : PendingTable → ℕ → Option PendingConnect → TakenConnect
take_connect_as s n None = record { connect = None; frames = []; after = s }
take_connect_as s n (Some c) =
    record { connect = Some c; frames = held_frames (queue_of s n); after = drop_connection s n }

-- The connect in front leaves, and with it everything of its connection.
abbrev pub take_connect : PendingTable → ℕ → TakenConnect
take_connect s n = take_connect_as s n (waiting_connect (queue_of s n))

-- ---- sessions that were touched

-- The most sessions that the leader is told at once.
abbrev pub touched_limit : ℕ
touched_limit = 87381

abbrev pub touch_session : PendingTable → ℤ → PendingTable
touch_session s session = record s { touched = set.insert s.touched session }

abbrev pub with_timeout : ℤ → Option ℤ → List (ℤ × ℤ) → List (ℤ × ℤ)
with_timeout session None rows = rows
with_timeout session (Some timeout) rows = (session, timeout) ∷ rows

-- Those of the sessions that have a timeout, each with it.
abbrev pub live_rows : (ℤ → Option ℤ) → List ℤ → List (ℤ × ℤ)
live_rows timeout_of [] = []
live_rows timeout_of (session ∷ rest) = with_timeout session (timeout_of session) (live_rows timeout_of rest)

-- In ascending order of the signed ids.
abbrev pub sorted_touched : TouchedSessions → List ℤ
sorted_touched sessions =
    finmap.keys (finmap.from_entries {R = int_cmp} (map (λ (session : ℤ). (session, tt {0})) (set.items sessions)))

-- The touched sessions that have a timeout, in ascending order.
abbrev pub touched_rows : PendingTable → (ℤ → Option ℤ) → List (ℤ × ℤ)
touched_rows s timeout_of = live_rows timeout_of (sorted_touched s.touched)

pub record TakenTouched : Type 0 where
  pub rows : List (ℤ × ℤ)
  pub after : PendingTable

-- The least of them, up to the limit; the rest stay touched, and those without a timeout don't.
abbrev pub take_touched : PendingTable → (ℤ → Option ℤ) → TakenTouched
take_touched s timeout_of = record {
  rows = take touched_limit (touched_rows s timeout_of);
  after = record s {
    touched = set.from_list (map (λ (row : ℤ × ℤ). row.0) (drop touched_limit (touched_rows s timeout_of)));
  };
}
