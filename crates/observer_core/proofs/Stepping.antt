-- The small steps of a connection, and what is known of each.
use Rattle.std.proofs.Common.{◌≡◌, ◌≢◌, ◌⊎◌, ℕ, ◌+◌, ◌==◌, ℤ, Bool, true, false, List, [], ◌∷◌, Option, Some, None}
use Rattle.std.specs.FinMap as finmap
use Rattle.jute.specs.declared.owned.Id.{Id}
use Rattle.sessions.specs.Credentials.{session_id_of}
use Rattle.sessions.specs.Sessions.{connection_of, greatest_counter, give_session, add_id}
use Rattle.sessions.specs.declared.request.SessionResponse.{SessionResponse}
use Rattle.forwarding.specs.declared.request.ConnectKind.TheVariants.{New, Claimed}
use Rattle.forwarding.specs.declared.request.PendingConnect.{PendingConnect}
use Rattle.forwarding.specs.declared.request.WriteKind.{WriteKind}
use Rattle.forwarding.specs.Queue.{waiting_connect}
use Rattle.forwarding.specs.Pending.{queue_of, is_idle, is_full, connecting_to, push_connect, push_write, push_sync, hold_frame, touch_session, drop_connection}
use Rattle.learner_sync.specs.Answers.{session_request}
use Rattle.settings.specs.Dialects.{reads_of}
use Rattle.read_processor.specs.declared.watch.Watch.{Watch}
use Rattle.watch_manager.specs.Kinds.{without_watch}
use Rattle.watch_manager.specs.declared.kind.WatchKind.{WatchKind}
use Rattle.read_processor.specs.Reply.{reply_frame}
use Rattle.world.specs.declared.output.Output.TheVariants.{ToClient}
use Rattle.world.specs.World.{OpenConnection, World}
use Rattle.world.specs.Steps.{StepResult, no_output, and_then}
use Rattle.world.specs.Clients.{is_open, with_connection}
use Rattle.world.specs.Sending.{to_leader, close_client, with_watches, with_sessions, with_pending, close_client_if_some}
use Rattle.client_service.specs.Serve.{with_watch, ask_about_session, is_live, forward_frame}
use Rattle.txn_codec.specs.declared.txn.Txn.{Txn}
use Rattle.data_tree.specs.declared.outcome.TxnResults.{TxnResults}
use Rattle.write_replies.specs.Replies.{write_look}
use Rattle.client_records.specs.declared.codes.TheConstants.{OK}
use Rattle.read_processor.specs.Look.{without_body}
use Rattle.observer_core.specs.Shown.{IsReadReply, ShowsNoTree}

abbrev pub IsOpen : ℕ → World → Type 0
IsOpen n w = is_open n w.clients ≡ true

-- A relation between a world and a step that is made in it.
abbrev pub Steps : Type 1
Steps = World → StepResult World → Type 0

abbrev pub HasNone : ℕ → World → Type 0
HasNone n w = finmap.get w.clients.sessions.connections n ≡ None

abbrev pub NoConnect : ℕ → World → Type 0
NoConnect n w = waiting_connect (queue_of w.clients.pending n) ≡ None

-- The connection has the session that it is given, and an older one of the session is closed.
abbrev pub given : ℕ → World → ℤ → ℤ → StepResult World
given n w session time_out =
    let c = give_session w.clients.sessions n session time_out in
    close_client_if_some (with_sessions w c.after) c.connected.older

-- The next counter is used, and the id that it gives.
abbrev pub counted : World → World
counted w = with_sessions w (record w.clients.sessions { counter = w.clients.sessions.counter + 1 })

abbrev pub next_id : World → ℤ
next_id w = session_id_of w.clients.sessions.terms.server_id (w.clients.sessions.counter + 1)

-- The connect waits for its session.
abbrev pub with_connect : ℕ → World → PendingConnect → World
with_connect n w connect = with_pending w (push_connect w.clients.pending n connect)

abbrev pub new_connect : ℤ → ℤ → Bool → PendingConnect
new_connect session time_out has_byte =
    record { kind = New; session = session; time_out = time_out; has_read_only = has_byte }

abbrev pub claiming : ℤ → ℤ → Bool → PendingConnect
claiming session time_out has_byte =
    record { kind = Claimed; session = session; time_out = time_out; has_read_only = has_byte }

-- The leader is asked for a session, and the connect waits for it.
abbrev pub asked_for : ℕ → World → ℤ → ℤ → Bool → StepResult World
asked_for n w session time_out has_byte = record {
  outputs = to_leader (session_request session time_out) ∷ [];
  after = with_connect n w (new_connect session time_out has_byte);
}

-- The connection has the session, or its connect waits for it.
abbrev pub IsWith : ℤ → ℕ → World → Type 0
IsWith session k w =
    (connection_of w.clients.sessions session ≡ Some k) ⊎ (connecting_to w.clients.pending session ≡ Some k)

-- Sessions move between servers.
abbrev pub SessionsMove : World → Type 0
SessionsMove w = (reads_of w.settings.dialect).moved_sessions ≡ true

-- The frame shows the tree of this world, or none.
abbrev pub ShowsNow : World → List ℕ → Type 0
ShowsNow w bytes = IsReadReply w.replica bytes ⊎ ShowsNoTree w.replica bytes

-- So does each frame that there is.
abbrev pub MaySend : World → Option (List ℕ) → Type 0
MaySend w frame = (bytes : List ℕ) → frame ≡ Some bytes → ShowsNow w bytes

abbrev pub sent_bytes : ℕ → List ℕ → World → StepResult World
sent_bytes n bytes w = record { outputs = ToClient n bytes ∷ []; after = w }

-- Connection n's small steps keep `A`, which is known of every world on the way. Where `Strict` holds they may require
-- that the connection is open, or has no session.
pub record IsGround (n : ℕ) (Strict : Type 0) (A : World → Type 0) : Type 0 where
  pub closes : (k : ℕ) (w : World) → A w → A (close_client k w).after
  pub watches : (w : World) (watch : Watch) → (Strict → IsOpen n w) → A w
      → A (with_watches w (with_watch n w.clients.watches watch))
  pub unwatches : (w : World) (kind : WatchKind) (path : List ℕ) → A w
      → A (with_watches w (without_watch kind n path w.clients.watches))
  pub shows : (w : World) (id : Id) → (Strict → IsOpen n w) → A w
      → A (with_sessions w (add_id w.clients.sessions n id).after)
  pub touches : (w : World) (session : ℤ) → A w → A (with_pending w (touch_session w.clients.pending session))
  pub opens : (w : World) (k : OpenConnection) → A w → A (record w { clients = with_connection n k w.clients })
  pub writes : (w : World) (xid : ℤ) (kind : WriteKind) → is_full w.clients.pending n ≡ false → (Strict → IsOpen n w)
      → A w → A (with_pending w (push_write w.clients.pending n xid kind))
  pub syncs : (w : World) (xid : ℤ) (path : List ℕ) → is_full w.clients.pending n ≡ false → (Strict → IsOpen n w)
      → A w → A (with_pending w (push_sync w.clients.pending n xid path))
  pub holds : (w : World) (frame : List ℕ) → is_full w.clients.pending n ≡ false
      → is_idle w.clients.pending n ≡ false → A w → A (with_pending w (hold_frame w.clients.pending n frame))
  pub counts : (w : World) → HasNone n w → (w.clients.sessions.counter == greatest_counter) ≡ false → A w
      → A (with_sessions w (record w.clients.sessions { counter = w.clients.sessions.counter + 1 }))
  pub gives : (w : World) (session time_out : ℤ) → (Strict → HasNone n w) → NoConnect n w → (Strict → IsOpen n w)
      → A w → A (given n w session time_out).after
  pub asks : (w : World) (connect : PendingConnect) → HasNone n w → is_idle w.clients.pending n ≡ true
      → (Strict → connecting_to w.clients.pending connect.session ≡ None) → (Strict → IsOpen n w) → A w
      → A (with_connect n w connect)
  -- A connection that has a session, or waits for one, isn't one that has none and waits for nothing; and no two wait for
  -- one session.
  pub others : (w : World) (session : ℤ) (k : ℕ) → Strict → A w → HasNone n w → is_idle w.clients.pending n ≡ true
      → IsWith session k w → k ≢ n
  pub alone : (w : World) (session : ℤ) (k : ℕ) → Strict → A w → connecting_to w.clients.pending session ≡ Some k
      → connecting_to (drop_connection w.clients.pending k) session ≡ None

-- The relation holds of connection n's small steps that answer, and of one step after another.
pub record HoldsOfReplies (n : ℕ) (A : World → Type 0) (Q : Steps) : Type 0 where
  pub thens : (w : World) (h : StepResult World) (next : World → StepResult World) → Q w h → Q h.after (next h.after)
      → Q w (and_then h next)
  pub stays : (w : World) → Q w (no_output w)
  pub closes : (w : World) → A w → Q w (close_client n w)
  pub sends : (w : World) (bytes : List ℕ) → ShowsNow w bytes → Q w (sent_bytes n bytes w)
  pub watches : (w : World) (watch : Watch) → A w
      → Q w (no_output (with_watches w (with_watch n w.clients.watches watch)))
  pub unwatches : (w : World) (kind : WatchKind) (path : List ℕ) → A w
      → Q w (no_output (with_watches w (without_watch kind n path w.clients.watches)))
  pub shows : (w : World) (id : Id) → A w → Q w (no_output (with_sessions w (add_id w.clients.sessions n id).after))

-- The same for the steps that forward a request of a session of its own, or hold one.
pub record HoldsOfCalls (n : ℕ) (A : World → Type 0) (Own : ℤ → Type 0) (Q : Steps) : Type 0 where
  pub touches : (w : World) (session : ℤ) → Own session → A w
      → Q w (no_output (with_pending w (touch_session w.clients.pending session)))
  pub leaves : (w : World) (k : OpenConnection) → finmap.get w.clients.connections n ≡ Some k → A w
      → Q w (no_output (record w { clients = with_connection n (record k { is_leaving = true }) w.clients }))
  pub writes : (w : World) (session : ℤ) (frame : List ℕ) (xid : ℤ) (kind : WriteKind) → Own session → A w
      → Q w (forward_frame n session w frame (push_write w.clients.pending n xid kind))
  pub syncs : (w : World) (session : ℤ) (frame : List ℕ) (xid : ℤ) (path : List ℕ) → Own session → A w
      → Q w (forward_frame n session w frame (push_sync w.clients.pending n xid path))
  pub holds : (w : World) (frame : List ℕ) → is_idle w.clients.pending n ≡ false → A w
      → Q w (no_output (with_pending w (hold_frame w.clients.pending n frame)))

-- The same for the steps of a connect, which may take up a session of which `May` holds: each that lives. Every session
-- is the connection's own.
pub record HoldsOfConnects (n : ℕ) (A : World → Type 0) (Own : ℤ → Type 0) (May : World → ℤ → Type 0) (Q : Steps) : Type 0 where
  pub own : (session : ℤ) → Own session
  pub counts : (w : World) → HasNone n w → A w → Q w (no_output (counted w))
  pub gives : (w : World) (session time_out : ℤ) → NoConnect n w → May w session → A w
      → Q w (given n w session time_out)
  -- A counter is used, and the leader is asked for the session with its id.
  pub asks : (w : World) (time_out : ℤ) (has_byte : Bool) → HasNone n w → is_idle w.clients.pending n ≡ true → A w
      → A (counted w) → Q w (asked_for n (counted w) (next_id w) time_out has_byte)
  -- Where sessions move, a client claims a session: the connections that have it, or wait for it, are closed, and the
  -- leader is asked about it.
  pub displaces : (w : World) (session : ℤ) (k : ℕ) → IsWith session k w → A w → Q w (close_client k w)
  pub claims : (w : World) (has_byte : Bool) (response : SessionResponse) → SessionsMove w → HasNone n w
      → is_idle w.clients.pending n ≡ true → A w → Q w (ask_about_session n has_byte response w)
  pub may : (w : World) (session : ℤ) → is_live session w ≡ true → May w session

-- Where the world has the replica that a transaction left, the relation holds of the reply to the write that it was made
-- of, or to the closeSession.
pub record HoldsOfTxn (Q : Steps) (n : ℕ) (w : World) (t : Txn) (results : TxnResults) : Type 0 where
  pub replies : (kind : WriteKind) (v : World) (bytes : List ℕ) → v.replica ≡ w.replica
      → reply_frame t.header.cxid t.header.zxid (write_look w.replica.tree kind t.body results) ≡ Some bytes
      → Q v (sent_bytes n bytes v)
  pub ends : (xid : ℤ) (bytes : List ℕ) → reply_frame xid t.header.zxid (without_body OK) ≡ Some bytes
      → Q w (sent_bytes n bytes w)

-- The step keeps `A`, and the relation holds of it.
pub record Makes (A : World → Type 0) (Q : Steps) (w : World) (h : StepResult World) : Type 0 where
  pub keeps : A h.after
  pub is : Q w h
