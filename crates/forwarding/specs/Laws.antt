-- What holds for each call, with any requests that agree.
use Rattle.std.specs.Prelude.{◌≡◌, ◌≢◌, ℕ, ℤ, List, [], ◌∷◌, ◌++◌, Option, None, Some, true, false, drop, length, slice_index_or}
use Rattle.std.specs.List.{list_any}
use Rattle.forwarding.specs.declared.request.WriteKind.{WriteKind}
use Rattle.forwarding.specs.declared.request.ConnectKind.{ConnectKind}
use Rattle.forwarding.specs.declared.request.PendingConnect.{PendingConnect}
use Rattle.forwarding.specs.declared.request.PendingWrite.{PendingWrite}
use Rattle.forwarding.specs.declared.request.PendingRequest.{PendingRequest}
use Rattle.forwarding.specs.declared.request.PendingRequest.TheVariants.{Connect, Write, Sync, Held}
use Rattle.forwarding.specs.declared.request.Ready.{Ready}
use Rattle.forwarding.specs.declared.request.Ready.TheVariants.{SettledSync, HeldFrame}
use Rattle.forwarding.specs.declared.request.Settled.TheVariants.{Gone, Of}
use Rattle.forwarding.specs.Queue.{RequestQueue, is_write, is_answered_by, is_unsettled, settled_request, waiting_connect, held_frames}
use Rattle.forwarding.specs.State.{PendingTable}
use Rattle.forwarding.specs.Pending.{nothing_pending, queue_of, has_no_request, is_idle, is_full, push_connect, push_write, push_sync, unsettled_sync, hold_frame, answer_write, settle_sync, take_ready, take_connect, connecting_to, awaiting, drop_connection, touch_session, take_touched}
use Rattle.forwarding.specs.Agreement.{PendingAgrees, places_of}

-- ---- agreement

pub record PendingAgreementIsKept : Type 0 where
  pub starts : PendingAgrees nothing_pending
  pub pushes_connect : (s : PendingTable) (n : ℕ) (c : PendingConnect) → PendingAgrees s → is_idle s n ≡ true
      → connecting_to s c.session ≡ None → PendingAgrees (push_connect s n c)
  pub pushes_write : (s : PendingTable) (n : ℕ) (xid : ℤ) (kind : WriteKind) → PendingAgrees s → is_full s n ≡ false
      → PendingAgrees (push_write s n xid kind)
  pub pushes_sync : (s : PendingTable) (n : ℕ) (xid : ℤ) (path : List ℕ) → PendingAgrees s → is_full s n ≡ false
      → PendingAgrees (push_sync s n xid path)
  pub holds : (s : PendingTable) (n : ℕ) (frame : List ℕ) → PendingAgrees s → is_full s n ≡ false
      → PendingAgrees (hold_frame s n frame)
  pub answers : (s : PendingTable) (n : ℕ) (xid txn_kind : ℤ) → PendingAgrees s
      → PendingAgrees (answer_write s n xid txn_kind).after
  pub settles : (s : PendingTable) → PendingAgrees s → PendingAgrees (settle_sync s).after
  pub takes : (s : PendingTable) (n : ℕ) → PendingAgrees s → PendingAgrees (take_ready s n).after
  pub takes_connect : (s : PendingTable) (n : ℕ) → PendingAgrees s → PendingAgrees (take_connect s n).after
  pub drops : (s : PendingTable) (n : ℕ) → PendingAgrees s → PendingAgrees (drop_connection s n)
  pub touches : (s : PendingTable) (session : ℤ) → PendingAgrees s → PendingAgrees (touch_session s session)
  pub takes_touched : (s : PendingTable) (timeout_of : ℤ → Option ℤ) → PendingAgrees s
      → PendingAgrees (take_touched s timeout_of).after

-- ---- other connections

-- The connection's requests and the number of its places are as they were.
pub record Stays (n : ℕ) (s new : PendingTable) : Type 0 where
  pub queue : queue_of new n ≡ queue_of s n
  pub places : places_of n new.syncs ≡ places_of n s.syncs

-- A call of one connection leaves every other.
pub record OtherQueuesStay : Type 0 where
  pub pushes_connect : (s : PendingTable) (n : ℕ) (c : PendingConnect) (m : ℕ) → m ≢ n → Stays m s (push_connect s n c)
  pub pushes_write : (s : PendingTable) (n : ℕ) (xid : ℤ) (kind : WriteKind) (m : ℕ) → m ≢ n
      → Stays m s (push_write s n xid kind)
  pub pushes_sync : (s : PendingTable) (n : ℕ) (xid : ℤ) (path : List ℕ) (m : ℕ) → m ≢ n
      → Stays m s (push_sync s n xid path)
  pub holds : (s : PendingTable) (n : ℕ) (frame : List ℕ) (m : ℕ) → m ≢ n → Stays m s (hold_frame s n frame)
  pub answers : (s : PendingTable) (n : ℕ) (xid txn_kind : ℤ) (m : ℕ) → m ≢ n
      → Stays m s (answer_write s n xid txn_kind).after
  pub settles : (s : PendingTable) (m : ℕ) → (settle_sync s).settled ≢ Of m → Stays m s (settle_sync s).after
  pub takes : (s : PendingTable) (n m : ℕ) → m ≢ n → Stays m s (take_ready s n).after
  pub takes_connect : (s : PendingTable) (n m : ℕ) → m ≢ n → Stays m s (take_connect s n).after
  pub drops : (s : PendingTable) (n m : ℕ) → m ≢ n → Stays m s (drop_connection s n)

-- ---- no request at all

-- That no connection has a request is told by the table alone.
pub record EmptinessIsTold : Type 0 where
  pub none : (s : PendingTable) → has_no_request s ≡ true → (n : ℕ) → queue_of s n ≡ []
  pub all : (s : PendingTable) → PendingAgrees s → ((n : ℕ) → queue_of s n ≡ []) → has_no_request s ≡ true

-- ---- answers

-- The write that is answered is the connection's oldest, of this xid and kind, and nothing else leaves the queue.
pub record IsAnswered (q : RequestQueue) (xid txn_kind : ℤ) (kind : WriteKind) (rest : RequestQueue) : Type 0 where
  pub before : RequestQueue
  pub later : RequestQueue
  pub write : PendingWrite
  pub queue : q ≡ before ++ Write write ∷ later
  pub oldest : list_any is_write before ≡ false
  pub matched : is_answered_by write xid txn_kind ≡ true
  pub same_kind : write.kind ≡ kind
  pub left : rest ≡ before ++ later

pub record AnswersAreMatched : Type 0 where
  pub answered : (s : PendingTable) (n : ℕ) (xid txn_kind : ℤ) (kind : WriteKind) → PendingAgrees s
      → (answer_write s n xid txn_kind).kind ≡ Some kind
      → IsAnswered (queue_of s n) xid txn_kind kind (queue_of (answer_write s n xid txn_kind).after n)
  pub unanswered : (s : PendingTable) (n : ℕ) (xid txn_kind : ℤ) → PendingAgrees s
      → (answer_write s n xid txn_kind).kind ≡ None → (answer_write s n xid txn_kind).after ≡ s

-- ---- connects

-- The connect in front of the queue asks for the session in this way.
pub record Asks (q : RequestQueue) (session : ℤ) (kind : ConnectKind) : Type 0 where
  pub connect : PendingConnect
  pub front : waiting_connect q ≡ Some connect
  pub same_session : connect.session ≡ session
  pub same_kind : connect.kind ≡ kind

-- A connect is found by its session and the way in which it asks for it, and so is nothing else.
pub record ConnectsAreFound : Type 0 where
  pub found : (s : PendingTable) (session : ℤ) (kind : ConnectKind) (n : ℕ) → PendingAgrees s
      → awaiting s session kind ≡ Some n → Asks (queue_of s n) session kind
  pub each : (s : PendingTable) (session : ℤ) (kind : ConnectKind) (n : ℕ) → PendingAgrees s
      → Asks (queue_of s n) session kind → awaiting s session kind ≡ Some n

-- ---- order

-- The request of which this is the answer.
abbrev pub IsOf : Ready → PendingRequest → Type 0
IsOf (SettledSync xid path) r = r ≡ Sync (record { xid = xid; path = path; is_settled = true })
IsOf (HeldFrame frame) r = r ≡ Held frame

-- The connect stands in front of its connection's requests, and leaves with the frames that are held after it, in order.
-- None of the requests stays.
pub record LeavesWithFrames (q : RequestQueue) (c : PendingConnect) (frames : List (List ℕ)) (left : RequestQueue) : Type 0 where
  pub later : RequestQueue
  pub queue : q ≡ Connect c ∷ later
  pub held : frames ≡ held_frames later
  pub none : left ≡ []

-- A request is pushed after those of its connection, and one that is taken stands in front of them.
pub record RequestsKeepOrder : Type 0 where
  pub pushes_connect : (s : PendingTable) (n : ℕ) (c : PendingConnect)
      → queue_of (push_connect s n c) n ≡ queue_of s n ++ Connect c ∷ []
  pub pushes_write : (s : PendingTable) (n : ℕ) (xid : ℤ) (kind : WriteKind)
      → queue_of (push_write s n xid kind) n ≡ queue_of s n ++ Write (record { xid = xid; kind = kind }) ∷ []
  pub pushes_sync : (s : PendingTable) (n : ℕ) (xid : ℤ) (path : List ℕ)
      → queue_of (push_sync s n xid path) n ≡ queue_of s n ++ unsettled_sync xid path ∷ []
  pub holds : (s : PendingTable) (n : ℕ) (frame : List ℕ)
      → queue_of (hold_frame s n frame) n ≡ queue_of s n ++ Held frame ∷ []
  pub takes : (s : PendingTable) (n : ℕ) (ready : Ready) → (take_ready s n).ready ≡ Some ready
      → (r : PendingRequest) × (IsOf ready r × (queue_of s n ≡ r ∷ queue_of (take_ready s n).after n))
  pub takes_connect : (s : PendingTable) (n : ℕ) (c : PendingConnect) → (take_connect s n).connect ≡ Some c
      → LeavesWithFrames (queue_of s n) c (take_connect s n).frames (queue_of (take_connect s n).after n)

-- The sync that is settled is its connection's oldest that wasn't.
pub record IsSettledIn (q new : RequestQueue) : Type 0 where
  pub before : RequestQueue
  pub sync : PendingRequest
  pub later : RequestQueue
  pub queue : q ≡ before ++ sync ∷ later
  pub oldest : list_any is_unsettled before ≡ false
  pub unsettled : is_unsettled sync ≡ true
  pub settled : new ≡ before ++ settled_request sync ∷ later

-- Syncs are settled in the order in which they were pushed, across connections: a sync goes after all others in the
-- list, and the one in front is settled. The places of a connection that goes stay, as nobody's, so those of the others
-- are where they were.
pub record SyncsKeepOrder : Type 0 where
  pub pushes : (s : PendingTable) (n : ℕ) (xid : ℤ) (path : List ℕ)
      → (push_sync s n xid path).syncs ≡ s.syncs ++ Some n ∷ []
  pub settles : (s : PendingTable) → (settle_sync s).after.syncs ≡ drop 1 s.syncs
  pub settles_of : (s : PendingTable) (n : ℕ) (rest : List (Option ℕ)) → PendingAgrees s → s.syncs ≡ Some n ∷ rest
      → ((settle_sync s).settled ≡ Of n) × IsSettledIn (queue_of s n) (queue_of (settle_sync s).after n)
  pub settles_gone : (s : PendingTable) (rest : List (Option ℕ)) → s.syncs ≡ None ∷ rest
      → (settle_sync s).settled ≡ Gone
  pub drops : (s : PendingTable) (n : ℕ) → length (drop_connection s n).syncs ≡ length s.syncs
  pub others_in_place : (s : PendingTable) (n m place : ℕ) → m ≢ n → slice_index_or s.syncs place None ≡ Some m
      → slice_index_or (drop_connection s n).syncs place None ≡ Some m
  pub stay_dropped : (s : PendingTable) (n : ℕ) → places_of n (drop_connection s n).syncs ≡ 0

-- ---- connections that go

-- The connection has no request, no place in the list of syncs, and no connect that waits.
pub record IsForgotten (n : ℕ) (s : PendingTable) : Type 0 where
  pub requests : queue_of s n ≡ []
  pub places : places_of n s.syncs ≡ 0
  pub connects : (session : ℤ) → connecting_to s session ≢ Some n

-- A connection that goes is forgotten, and so is one whose connect is taken; no other waits for that session then.
pub record GoneConnectionsAreForgotten : Type 0 where
  pub drops : (s : PendingTable) (n : ℕ) → PendingAgrees s → IsForgotten n (drop_connection s n)
  pub takes_connect : (s : PendingTable) (n : ℕ) (c : PendingConnect) → PendingAgrees s
      → (take_connect s n).connect ≡ Some c → IsForgotten n (take_connect s n).after
  pub frees_session : (s : PendingTable) (n : ℕ) (c : PendingConnect) → PendingAgrees s
      → (take_connect s n).connect ≡ Some c → connecting_to (take_connect s n).after c.session ≡ None

-- ---- nothing waits in vain

-- The queue is empty or begins with a request that only the leader can answer.
abbrev pub WaitsForLeader : RequestQueue → Type 0
WaitsForLeader [] = Unit {0}
WaitsForLeader (Connect c ∷ rest) = Unit {0}
WaitsForLeader (Write w ∷ rest) = Unit {0}
WaitsForLeader (Sync s ∷ rest) = s.is_settled ≡ false
WaitsForLeader (Held frame ∷ rest) = ⊥

pub record NothingWaitsInVain : Type 0 where
  pub waits : (s : PendingTable) (n : ℕ) → (take_ready s n).ready ≡ None → WaitsForLeader (queue_of s n)
  pub stays : (s : PendingTable) (n : ℕ) → PendingAgrees s → (take_ready s n).ready ≡ None
      → (take_ready s n).after ≡ s
