-- How far an event of one client reaches.
use Rattle.std.specs.Prelude.{◌≡◌, ◌≢◌, ◌⊎◌, ℕ, ℤ, pos, Bool, List, [], ◌∷◌, ◌++◌, Option, Some, None, Ok, true, false}
use Rattle.std.specs.List.{AllByRecursion}
use Rattle.std.specs.Ordering.{int_eq}
use Rattle.std.specs.FinMap as finmap
use Rattle.std.specs.FinSet as set
use Rattle.observer_core.specs.declared.event.Event.TheVariants.{ClientUp, ClientBytes, ClientEnd}
use Rattle.data_tree.specs.declared.outcome.TxnResults.{TxnResults}
use Rattle.world.specs.declared.output.Output.{Output}
use Rattle.world.specs.declared.output.Output.TheVariants.{ToLeader, ToClient, CloseLeader, CloseClient}
use Rattle.world.specs.World.{OpenConnection, Clients, World}
use Rattle.observer_core.specs.Machine.{Machine}
use Rattle.watch_manager.specs.Watching.{WatchTables}
use Rattle.settings.specs.Dialects.{reads_of}
use Rattle.sessions.specs.Sessions.{session_of_connection, has_password}
use Rattle.jute.specs.declared.owned.Id.{Id}
use Rattle.jute.specs.Stream.{place_at, items_in}
use Rattle.quorum_packet.specs.Packet.{packet_format}
use Rattle.learner_sync.specs.Answers.{request_of, session_request, session_question}
use Rattle.txn_codec.specs.declared.txn.Txn.{Txn}
use Rattle.forwarding.specs.declared.request.AnsweredWrite.{AnsweredWrite}
use Rattle.forwarding.specs.declared.request.PendingConnect.{PendingConnect}
use Rattle.forwarding.specs.declared.request.Settled.TheVariants.{Of}
use Rattle.forwarding.specs.Queue.{waiting_connect}
use Rattle.forwarding.specs.declared.request.ConnectKind.TheVariants.{Claimed}
use Rattle.forwarding.specs.Pending.{queue_of, awaiting, settle_sync}
use Rattle.forwarding.specs.Laws.{Stays}
use Rattle.world.specs.Steps.{StepResult, no_output}
use Rattle.world.specs.Clients.{heard_connection}
use Rattle.client_frames.specs.declared.connecting.Connecting.{Connecting}
use Rattle.client_frames.specs.Connect.{connecting_in, session_request_of}
use Rattle.client_service.specs.Serve.{may_connect, is_live, frames_of_client}
use Rattle.leader_answers.specs.declared.due.Due.TheVariants as dues
use Rattle.leader_answers.specs.Answering.{answer_due, answer_txn, answer_revalidated, answer_sync}
use Rattle.observer_core.specs.Agreement.{ClientsAgree}
use Rattle.observer_core.specs.GivenIds.{IsGivenBetween}
use Rattle.observer_core.specs.Play.{is_serving_clients, play_event}

-- The packet forwards a request of this session.
pub record IsForwarded (session : ℤ) (bytes : List ℕ) : Type 0 where
  pub frame : List ℕ
  pub ids : List Id
  pub is : bytes ≡ packet_format.written (request_of session frame ids)

-- The packet asks the leader to create this session.
pub record IsAskedFor (session : ℤ) (bytes : List ℕ) : Type 0 where
  pub time_out : ℤ
  pub is : bytes ≡ packet_format.written (session_request session time_out)

-- The packet asks the leader whether this session lives.
pub record IsAskedAbout (session : ℤ) (bytes : List ℕ) : Type 0 where
  pub time_out : ℤ
  pub is : bytes ≡ packet_format.written (session_question session time_out)

abbrev pub IsRequestOf : ℤ → List ℕ → Type 0
IsRequestOf session bytes = IsForwarded session bytes ⊎ (IsAskedFor session bytes ⊎ IsAskedAbout session bytes)

-- The connection's connect waits for this session.
pub record WaitsForSession (n : ℕ) (c : Clients) (session : ℤ) : Type 0 where
  pub connect : PendingConnect
  pub waits : waiting_connect (queue_of c.pending n) ≡ Some connect
  pub same : connect.session ≡ session

-- Frames go to the client n alone, and requests of the sessions in `own` to the leader. The only connections closed are
-- its own and those in `left`.
abbrev pub ConcernsOnly : ℕ → (ℤ → Type 0) → (ℕ → Type 0) → Output → Type 0
ConcernsOnly n own left (ToLeader bytes) = (session : ℤ) × (own session × IsRequestOf session bytes)
ConcernsOnly n own left (ToClient k frame) = k ≡ n
ConcernsOnly n own left (CloseLeader e) = ⊥
ConcernsOnly n own left (CloseClient k) = (k ≡ n) ⊎ left k

-- The client has the session, or waits for it.
abbrev pub HasOrAsks : ℕ → Clients → ℤ → Type 0
HasOrAsks n c session = (session_of_connection c.sessions n ≡ Some session) ⊎ WaitsForSession n c session

-- The frames that are complete once these bytes of the connection have come.
abbrev pub completed_frames : Option OpenConnection → List ℕ → List (List ℕ)
completed_frames None bytes = []
completed_frames (Some connection) bytes =
    (items_in frames_of_client (place_at tt (connection.rest ++ bytes))).found

-- The frame is a connect that is allowed, and names this session with its password. The session lives, unless sessions
-- move between servers: then only the leader knows.
pub record Claims (serving : Bool) (w : World) (frame : List ℕ) (session : ℤ) : Type 0 where
  pub connect : Connecting
  pub reads : connecting_in frame ≡ Ok connect
  pub may : may_connect serving w connect.request ≡ true
  pub names : connect.request.session_id ≡ session
  pub nonzero : int_eq session (pos 0) ≡ false
  pub password : has_password w.clients.sessions (session_request_of connect.request) ≡ true
  pub lives : (reads_of w.settings.dialect).moved_sessions ≡ false → is_live session w ≡ true

-- The first frame that these bytes of client n complete claims the session.
pub record IsClaimed (n : ℕ) (w : World) (bytes : List ℕ) (session : ℤ) : Type 0 where
  pub frame : List ℕ
  pub others : List (List ℕ)
  pub first : completed_frames (heard_connection n w.clients) bytes ≡ frame ∷ others
  pub claims : Claims (is_serving_clients w) w frame session

-- The session that client n had; or, if it had none, a new one, whose id was given out for it, or one that it claims.
abbrev pub IsSessionOf : ℕ → World → List ℕ → Clients → ℤ → Type 0
IsSessionOf n w bytes after session =
    (session_of_connection w.clients.sessions n ≡ Some session)
    ⊎ ((session_of_connection w.clients.sessions n ≡ None)
    × (IsGivenBetween w.clients after session ⊎ IsClaimed n w bytes session))

-- Client n had no session, and claims the one that connection k had, or waited for.
pub record IsTakenUp (n : ℕ) (w : World) (bytes : List ℕ) (k : ℕ) : Type 0 where
  pub session : ℤ
  pub had : HasOrAsks k w.clients session
  pub none : session_of_connection w.clients.sessions n ≡ None
  pub claimed : IsClaimed n w bytes session

-- No output closes connection k.
abbrev pub IsNotClosed : ℕ → List Output → Type 0
IsNotClosed k outputs = AllByRecursion (λ output. output ≢ CloseClient k) outputs

-- Connection k keeps its watches.
pub record HasSameWatches (k : ℕ) (before after : WatchTables) : Type 0 where
  pub data_watches : (path : List ℕ)
      → set.contains after.data_watches (path, k) ≡ set.contains before.data_watches (path, k)
  pub child : (path : List ℕ) → set.contains after.child (path, k) ≡ set.contains before.child (path, k)
  pub persistent : (path : List ℕ)
      → set.contains after.lasting.persistent (path, k) ≡ set.contains before.lasting.persistent (path, k)
  pub recursive : (path : List ℕ)
      → set.contains after.lasting.recursive (path, k) ≡ set.contains before.lasting.recursive (path, k)

-- Connection k keeps its waiting bytes, its session, its ids, its watches and its waiting requests.
pub record IsUntouched (k : ℕ) (before after : Clients) : Type 0 where
  pub rest : finmap.get after.connections k ≡ finmap.get before.connections k
  pub session : finmap.get after.sessions.connections k ≡ finmap.get before.sessions.connections k
  pub watches : HasSameWatches k before.watches after.watches
  pub waits : Stays k before.pending after.pending

-- The step concerns client n alone, whose sessions are in `own`, and may close the connections in `left` besides.
pub record IsApart (n : ℕ) (own : ℤ → Type 0) (left : ℕ → Type 0) (w : World) (h : StepResult World) : Type 0 where
  pub outputs : AllByRecursion (ConcernsOnly n own left) h.outputs
  pub replica : h.after.replica ≡ w.replica
  -- Every other session stays touched, or untouched, until the next PING is answered.
  pub touched : (session : ℤ) → (own session → ⊥)
      → set.contains h.after.clients.pending.touched session ≡ set.contains w.clients.pending.touched session
  -- Every other connection that isn't closed is untouched.
  pub others : (k : ℕ) → k ≢ n → IsNotClosed k h.outputs → IsUntouched k w.clients h.after.clients

-- The same for a machine. The leader's stream is untouched.
pub record ReachesOnlyClient (n : ℕ) (own : ℤ → Type 0) (left : ℕ → Type 0) (m : Machine) (h : StepResult Machine) : Type 0 where
  pub leader : h.after.leader ≡ m.leader
  pub world : IsApart n own left m.world (record { outputs = h.outputs; after = h.after.world })

-- What client n sends concerns its own session, and may close the connections whose session it takes up.
abbrev pub ServesOnlyClient : ℕ → Machine → List ℕ → StepResult Machine → Type 0
ServesOnlyClient n m bytes h =
    ReachesOnlyClient n (IsSessionOf n m.world bytes h.after.world.clients) (IsTakenUp n m.world bytes) m h

-- A client connects, sends, or leaves. A coming or going one concerns no session.
pub record ClientsAreApart : Type 0 where
  pub comes : (m : Machine) (n : ℕ) (address : Option (List ℕ))
      → ReachesOnlyClient n (λ session. ⊥) (λ k. ⊥) m (play_event m (ClientUp n address))
  pub sends : (m : Machine) (n : ℕ) (bytes : List ℕ) → ClientsAgree m.world.clients
      → ServesOnlyClient n m bytes (play_event m (ClientBytes n bytes))
  pub goes : (m : Machine) (n : ℕ) → ReachesOnlyClient n (λ session. ⊥) (λ k. ⊥) m (play_event m (ClientEnd n))

-- ---- how far an answer of the leader reaches

-- The step sends frames to client n alone, closes no other connection, and touches no session. Every other connection
-- is untouched.
abbrev pub AnswersOnly : ℕ → World → StepResult World → Type 0
AnswersOnly n w h = IsApart n (λ session. ⊥) (λ k. ⊥) w h

pub record AnswersReachOneClient : Type 0 where
  -- A transaction that was made of a write answers the client that has its session.
  pub replies : (w : World) (t : Txn) (results : TxnResults) (n : ℕ) (write : AnsweredWrite) → ClientsAgree w.clients
      → answer_due w.clients t ≡ dues.Reply n write
      → (session_of_connection w.clients.sessions n ≡ Some t.header.client_id) × AnswersOnly n w (answer_txn w t results)
  -- One that ends a session answers the client that has it, or claims it, whose connection closes.
  pub endings : (w : World) (t : Txn) (results : TxnResults) (n : ℕ) → ClientsAgree w.clients
      → answer_due w.clients t ≡ dues.Ending n
      → HasOrAsks n w.clients t.header.client_id × AnswersOnly n w (answer_txn w t results)
  -- One that creates a session answers the client that waits for it. Then that client's requests go to the leader, and a
  -- connection that had the session before is closed.
  pub admissions : (w : World) (t : Txn) (results : TxnResults) (n : ℕ) → ClientsAgree w.clients
      → answer_due w.clients t ≡ dues.Admission n
      → WaitsForSession n w.clients t.header.client_id
      × IsApart n (λ session. session ≡ t.header.client_id)
      (λ k. session_of_connection w.clients.sessions k ≡ Some t.header.client_id) w (answer_txn w t results)
  -- Any other answers nobody.
  pub others : (w : World) (t : Txn) (results : TxnResults) → answer_due w.clients t ≡ dues.Nothing → answer_txn w t results ≡ no_output w
  -- The leader's answer about a session answers the client that claims it, as the creation of one does; it answers
  -- nobody if no client claims the session.
  pub claims : (w : World) (session : ℤ) (lives : Bool) (n : ℕ) → ClientsAgree w.clients
      → awaiting w.clients.pending session Claimed ≡ Some n
      → WaitsForSession n w.clients session
      × IsApart n (λ own. own ≡ session) (λ k. session_of_connection w.clients.sessions k ≡ Some session) w
      (answer_revalidated w session lives)
  pub unclaimed : (w : World) (session : ℤ) (lives : Bool) → awaiting w.clients.pending session Claimed ≡ None
      → answer_revalidated w session lives ≡ no_output w
  -- A SYNC answers the client whose sync is settled.
  pub syncs : (w : World) (n : ℕ) → ClientsAgree w.clients → (settle_sync w.clients.pending).settled ≡ Of n
      → AnswersOnly n w (answer_sync w)
