-- What a connection's small steps keep, the answers that the leader's stream brings keep.
use Rattle.std.proofs.Common.{◌≡◌, inl, ℕ, zero, suc, ℤ, Bool, true, false, ◌||◌, List, [], ◌∷◌, length, slice_get, Option, Some, None, Result, Ok, Err, refl, sym, ap, ◌∙◌}
use Rattle.std.specs.Prelude.{is_some, nat_lt}
use Rattle.std.proofs.lemmas.Bool.{cond_both}
use Rattle.std.specs.FinMap as finmap
use mathlib.Core.Bool.{true≢false}
use Rattle.values.specs.declared.fault.Fault.{Fault}
use Rattle.data_tree.specs.declared.outcome.TxnResults.{TxnResults}
use Rattle.txn_codec.specs.declared.txn.Txn.{Txn}
use Rattle.quorum_packet.specs.declared.packet.QuorumPacket.{QuorumPacket}
use Rattle.client_frames.specs.declared.call.Call.{Call}
use Rattle.client_frames.specs.declared.call.CallBody.{CallBody}
use Rattle.client_frames.specs.declared.call.CallBody.TheVariants as bodies
use Rattle.client_records.specs.declared.codes.TheConstants.{OK}
use Rattle.observer_core.specs.Shown.{OfPath}
use Rattle.observer_core.proofs.Sent.{plain_reply}
use Rattle.forwarding.specs.declared.request.Ready.{Ready}
use Rattle.forwarding.specs.declared.request.Ready.TheVariants.{SettledSync, HeldFrame}
use Rattle.forwarding.specs.declared.request.Settled.{Settled}
use Rattle.forwarding.specs.declared.request.Settled.TheVariants.{NoSync, Gone, Of}
use Rattle.forwarding.specs.declared.request.ConnectKind.{ConnectKind}
use Rattle.forwarding.specs.declared.request.ConnectKind.TheVariants.{Claimed}
use Rattle.forwarding.specs.declared.request.PendingConnect.{PendingConnect}
use Rattle.forwarding.specs.declared.request.WriteKind.{WriteKind}
use Rattle.forwarding.specs.Queue.{RequestQueue, pending_limit, ready_request, waiting_connect, asks_as}
use Rattle.forwarding.specs.State.{PendingTable}
use Rattle.forwarding.specs.Pending.{queue_in, queue_of, is_idle, is_full, answer_write, pending_close, settle_sync, take_ready, take_connect_as, connecting_to, awaiting_as, awaiting, drop_connection, take_touched}
use Rattle.read_processor.specs.Look.{look_of_path, without_body}
use Rattle.read_processor.specs.Reply.{reply_frame}
use Rattle.replica.specs.declared.item_outcome.LeaderNews.{LeaderNews}
use Rattle.replica.specs.declared.item_outcome.LeaderNews.TheVariants as news
use Rattle.sessions.specs.State.{SessionTable as Sessions, ConnectedClient}
use Rattle.sessions.specs.Sessions.{refusal_response, close_as, close_connection, give_session, ip_id}
use Rattle.world.specs.World.{OpenConnection, World}
use Rattle.world.specs.Clients.{address_in, with_address}
use Rattle.world.specs.Steps.{StepResult, no_output, and_then, fold_steps}
use Rattle.world.specs.Sending.{close_client, send_or_close, with_sessions, with_pending}
use Rattle.client_service.specs.Serve.{send_connect_response, call_of, client_frame_limit, is_unheard}
use Rattle.world.proofs.NatMaps.{get-removed}
use Rattle.leader_answers.specs.declared.due.Due.{Due}
use Rattle.leader_answers.specs.declared.due.Due.TheVariants as dues
use Rattle.leader_answers.specs.Answering.{handle_held, serve_held, answer_ready, answer_if_ready, answer_up_to, answer_front, txn_number, answer_due, has_moved, send_write_reply, answer_write_as, serve_next, with_known_address, serve_admitted, admit_as, admit_client, refuse_as, answer_claim, close_ended, give_answer, answer_txn, answer_optional_txn, answer_settled, answer_sync, timeout_in, answer_ping}
use Rattle.write_replies.specs.Replies.{write_look}
use Rattle.observer_core.specs.Leader.{answer_news}
use Rattle.observer_core.proofs.Walking.{sent_bytes, HoldsOfTxn, IsOpen, Steps, NoConnect, given, IsGround, HoldsOfReplies, HoldsOfCalls, HoldsOfConnects, Makes, first_false, idle_queue, heard_open, then_makes, stay_makes, close_makes, send_makes, id_makes, local_makes, serve_as_makes, greet_makes}

-- Nothing of the connection waits any more, and it has no session.
abbrev pub unqueued : ℕ → World → World
unqueued n w =
    with_sessions (with_pending w (drop_connection w.clients.pending n)) (close_connection w.clients.sessions n)

-- Where `A` is known, a connection of which a request waits is open, and `A` is kept when what waits is taken.
pub record IsAnswerGround (n : ℕ) (Strict : Type 0) (A : World → Type 0) : Type 0 where
  pub here : (w : World) → is_idle w.clients.pending n ≡ false → A w → Strict → IsOpen n w
  pub takes : (w : World) → A w → A (with_pending w (take_ready w.clients.pending n).after)
  pub answers : (w : World) (xid txn_kind : ℤ) → A w
      → A (with_pending w (answer_write w.clients.pending n xid txn_kind).after)
  pub drops : (w : World) → A w → A (unqueued n w)

-- The relation holds where a request of connection n is taken from those that wait.
pub record HoldsOfAnswers (n : ℕ) (A : World → Type 0) (Q : Steps) : Type 0 where
  pub takes : (w : World) → A w → Q w (no_output (with_pending w (take_ready w.clients.pending n).after))
  pub answers : (w : World) (xid txn_kind : ℤ) → A w
      → Q w (no_output (with_pending w (answer_write w.clients.pending n xid txn_kind).after))
  pub drops : (w : World) → A w → Q w (no_output (unqueued n w))

-- A connection of which something waits isn't idle.
busy : {X : Type 0} (of : RequestQueue → Option X) → of [] ≡ None → (p : PendingTable) (n : ℕ) (x : X)
    → of (queue_of p n) ≡ Some x → is_idle p n ≡ false
busy of none p n x e = by (is_idle p n) refl
  where
    by : (b : Bool) → is_idle p n ≡ b → b ≡ false
    by true idle = absurd (true≢false (sym (ap is_some e) ∙ ap (λ q. is_some (of q)) (idle_queue p n idle)
        ∙ ap is_some none))
    by false idle = refl

pub waits_busy : (p : PendingTable) (n : ℕ) (connect : PendingConnect)
    → waiting_connect (queue_of p n) ≡ Some connect → is_idle p n ≡ false
waits_busy p n connect e = busy waiting_connect refl p n connect e

pub ready_busy : (p : PendingTable) (n : ℕ) (ready : Ready) → (take_ready p n).ready ≡ Some ready
    → is_idle p n ≡ false
ready_busy p n ready e = busy ready_request refl p n ready e

-- A connect that is found by the way in which it asks waits for the session.
pub awaits_it : (p : PendingTable) (session : ℤ) (kind : ConnectKind) (n : ℕ) → awaiting p session kind ≡ Some n
    → connecting_to p session ≡ Some n
awaits_it p session kind n = by (connecting_to p session)
  where
    by : (o : Option ℕ) → awaiting_as p kind o ≡ Some n → o ≡ Some n
    by None e = e
    by (Some m) e =
        cond_both (asks_as kind (waiting_connect (queue_of p m))) (Some m) None
        (λ (o : Option ℕ). o ≡ Some n → Some m ≡ Some n) (λ _ e. e) (λ _ e. absurd (true≢false (sym (ap is_some e)))) e

-- Nothing of a dropped connection waits.
pub dropped_queue : (p : PendingTable) (n : ℕ) → queue_of (drop_connection p n) n ≡ []
dropped_queue p n = ap queue_in (get-removed p.queues n)

-- A connection that was closed has no session.
pub closed_has_none : (s : Sessions) (n : ℕ) → finmap.get (close_connection s n).connections n ≡ None
closed_has_none s n = by (finmap.get s.connections n) refl
  where
    by : (o : Option ConnectedClient) → finmap.get s.connections n ≡ o
        → finmap.get (close_as s n o).connections n ≡ None
    by None e = e
    by (Some c) e = get-removed s.connections n

module _ (n : ℕ) (Strict : Type 0) (A : World → Type 0) (Q : Steps) (ground : IsGround n Strict A)
    (r : HoldsOfReplies n A Q) where
  pub ready_makes : (w : World) (ready : Ready) → (Strict → IsOpen n w) → A w → Makes A Q w (answer_ready n w ready)
  ready_makes w (SettledSync xid path) here a =
      let zxid = w.replica.learner.last_zxid in
      send_makes n Strict A Q ground r w (reply_frame xid zxid (look_of_path path))
      (plain_reply w xid zxid (OfPath path) refl (inl refl)) a
  ready_makes w (HeldFrame frame) here a = by (call_of w frame)
    where
      held : (xid : ℤ) (b : CallBody) → Makes A Q w (handle_held n w xid b)
      held xid (bodies.Local c) = local_makes n Strict A Q ground r w xid c here a
      held xid (bodies.Forward kind) = stay_makes n Strict A Q ground r w a
      held xid (bodies.Sync path) = stay_makes n Strict A Q ground r w a
      held xid (bodies.Auth packet) = stay_makes n Strict A Q ground r w a

      by : (c : Result Call Fault) → Makes A Q w (serve_held n w c)
      by (Ok c) = held c.xid c.body
      by (Err e) = close_makes n Strict A Q ground r w a

  -- ---- a session that a client claims

  -- The client that claims it is refused.
  pub refused_makes : (w : World) (o : Option PendingConnect) → A w → Makes A Q w (refuse_as n w o)
  refused_makes w None a = stay_makes n Strict A Q ground r w a
  refused_makes w (Some connect) a = greet_makes n Strict A Q ground r w connect.has_read_only refusal_response a

  -- ---- a session that has ended

  -- The reply is sent, or the connection closes.
  written_makes : (w : World) (frame : Option (List ℕ))
      → ((bytes : List ℕ) → frame ≡ Some bytes → Q w (sent_bytes n bytes w)) → A w
      → Makes A Q w (send_or_close n w frame)
  written_makes w None sends a = close_makes n Strict A Q ground r w a
  written_makes w (Some bytes) sends a = record { keeps = a; is = sends bytes refl }

  pub ended_makes : (w : World) (zxid : ℤ) (o : Option ℤ)
      → ((xid : ℤ) (bytes : List ℕ) → reply_frame xid zxid (without_body OK) ≡ Some bytes → Q w (sent_bytes n bytes w))
      → A w → Makes A Q w (close_ended n w zxid o)
  ended_makes w zxid None ends a = close_makes n Strict A Q ground r w a
  ended_makes w zxid (Some xid) ends a =
      let frame = reply_frame xid zxid (without_body OK) in
      then_makes n Strict A Q ground r w (send_or_close n w frame) (close_client n) (written_makes w frame (ends xid) a)
      (close_makes n Strict A Q ground r (send_or_close n w frame).after)

  -- ---- a session that was created

  module _ (Own : ℤ → Type 0) (q : HoldsOfCalls n A Own Q) where
    next_makes : (session : ℤ) → Own session → (w : World) (frame : List ℕ) → (Strict → IsOpen n w) → A w
        → Makes A Q w (serve_next n session w frame)
    next_makes session own w frame here a =
        cond_both (is_full w.clients.pending n || nat_lt client_frame_limit (length frame)) _ _ (Makes A Q w)
        (λ _. close_makes n Strict A Q ground r w a)
        (λ room. serve_as_makes n Strict A Q ground r Own q w session frame (call_of w frame) own
        (first_false (is_full w.clients.pending n) (nat_lt client_frame_limit (length frame)) room) here a)

    -- A client's address becomes an id of its connection.
    address_makes : (w : World) → A w → Makes A Q w (no_output (with_known_address n w))
    address_makes w a = by (finmap.get w.clients.connections n) refl
      where
        known : (o : Option (List ℕ)) → (Strict → IsOpen n w)
            → Makes A Q w (no_output (with_sessions w (with_address w.clients.sessions n o)))
        known None here = stay_makes n Strict A Q ground r w a
        known (Some address) here = id_makes n Strict A Q ground r w (ip_id address) here a

        by : (o : Option OpenConnection) → finmap.get w.clients.connections n ≡ o
            → Makes A Q w (no_output (with_sessions w (with_address w.clients.sessions n (address_in o))))
        by None e = stay_makes n Strict A Q ground r w a
        by (Some k) e = known k.address (λ _. ap is_some e)

    -- The frames that were held until the connection had its session.
    pub nexts_make : (session : ℤ) → Own session → (w : World) (fs : List (List ℕ)) → A w
        → Makes A Q w (fold_steps (is_unheard n) (serve_next n session) w fs)
    nexts_make session own w [] a = stay_makes n Strict A Q ground r w a
    nexts_make session own w (f ∷ fs) a =
        cond_both (is_unheard n w) _ _ (Makes A Q w) (λ _. stay_makes n Strict A Q ground r w a)
        (λ heard. then_makes n Strict A Q ground r w (serve_next n session w f)
        (λ v. fold_steps (is_unheard n) (serve_next n session) v fs)
        (next_makes session own w f (λ _. heard_open n w heard) a)
        (λ b. nexts_make session own (serve_next n session w f).after fs b))

    admitted_make : (session : ℤ) → Own session → (w : World) (fs : List (List ℕ)) → A w
        → Makes A Q w (serve_admitted n session fs w)
    admitted_make session own w fs a =
        then_makes n Strict A Q ground r w (no_output (with_known_address n w))
        (λ u. fold_steps (is_unheard n) (serve_next n session) u fs) (address_makes w a)
        (nexts_make session own (with_known_address n w) fs)

    -- A connection is admitted that waits for a session of its own.
    pub admit_makes : (May : World → ℤ → Type 0)
        → ((w : World) (session time_out : ℤ) → NoConnect n w → May w session → A w
        → Q w (given n w session time_out))
        → IsAnswerGround n Strict A → ((w : World) → A w → Q w (no_output (unqueued n w))) → (w : World)
        → ((connect : PendingConnect) → waiting_connect (queue_of w.clients.pending n) ≡ Some connect
        → Own connect.session × May (unqueued n w) connect.session)
        → A w → Makes A Q w (admit_client n w)
    admit_makes May gives more drops w may a = by (waiting_connect (queue_of w.clients.pending n)) refl
      where
        p : PendingTable
        p = w.clients.pending

        v : World
        v = unqueued n w

        free : NoConnect n v
        free = ap waiting_connect (dropped_queue p n)

        by : (o : Option PendingConnect) → waiting_connect (queue_of p n) ≡ o
            → let taken = take_connect_as p n o in
            Makes A Q w (admit_as n (with_pending w taken.after) taken.frames taken.connect)
        by None e = stay_makes n Strict A Q ground r w a
        by (Some connect) e =
            let fs = (take_connect_as p n (Some connect)).frames in
            let session = connect.session in
            let response = (give_session v.clients.sessions n session connect.time_out).connected.response in
            let greet : World → StepResult World = send_connect_response n connect.has_read_only response in
            let got = given n v session connect.time_out in
            let all : World → StepResult World = serve_admitted n session fs in
            then_makes n Strict A Q ground r w (no_output v)
            (λ u. and_then (and_then (given n u session connect.time_out) greet) all)
            (record { keeps = more.drops w a; is = drops w a })
            (λ b. then_makes n Strict A Q ground r v (and_then got greet) all
            (then_makes n Strict A Q ground r v got greet
            (record {
              keeps = ground.gives v session connect.time_out (λ _. closed_has_none w.clients.sessions n) free
                  (more.here w (waits_busy p n connect e) a) b;
              is = gives v session connect.time_out free (may connect e).1 b;
            })
            (λ d. greet_makes n Strict A Q ground r got.after connect.has_read_only response d))
            (λ d. admitted_make session (may connect e).0 (and_then got greet).after fs d))

  -- ---- what waited for an answer

  module _ (more : IsAnswerGround n Strict A) (s : HoldsOfAnswers n A Q) where
    up_to_makes : (most : ℕ) (w : World) → A w → Makes A Q w (answer_up_to most n w)
    up_to_makes zero w a = stay_makes n Strict A Q ground r w a
    up_to_makes (suc most) w a = by (take_ready w.clients.pending n).ready refl (up_to_makes most)
      where
        v : World
        v = with_pending w (take_ready w.clients.pending n).after

        taken : Makes A Q w (no_output v)
        taken = record { keeps = more.takes w a; is = s.takes w a }

        by : (o : Option Ready) → (take_ready w.clients.pending n).ready ≡ o
            → ((u : World) → A u → Makes A Q u (answer_up_to most n u))
            → Makes A Q w (answer_if_ready n v o (answer_up_to most n))
        by None e next = taken
        by (Some ready) e next =
            then_makes n Strict A Q ground r w (no_output v)
            (λ u. and_then (answer_ready n u ready) (answer_up_to most n)) taken
            (λ b. then_makes n Strict A Q ground r v (answer_ready n v ready) (answer_up_to most n)
            (ready_makes v ready (more.here w (ready_busy w.clients.pending n ready e) a) b)
            (next (answer_ready n v ready).after))

    pub front_makes : (w : World) → A w → Makes A Q w (answer_front n w)
    front_makes w a = up_to_makes pending_limit w a

    replied_makes : (w : World) (t : Txn) (results : TxnResults) (kind : WriteKind) → HoldsOfTxn Q n w t results → A w
        → Makes A Q w (send_write_reply n w t results kind)
    replied_makes w t results kind writes a =
        let xid = t.header.cxid in
        let v = with_pending w (answer_write w.clients.pending n xid (txn_number t)).after in
        let frame = reply_frame xid t.header.zxid (write_look w.replica.tree kind t.body results) in
        then_makes n Strict A Q ground r w (no_output v)
        (λ u. and_then (send_or_close n u frame) (answer_front n))
        (record { keeps = more.answers w xid (txn_number t) a; is = s.answers w xid (txn_number t) a })
        (λ b. then_makes n Strict A Q ground r v (send_or_close n v frame) (answer_front n)
        (written_makes v frame (λ bytes is. writes.replies kind v bytes refl is) b)
        (front_makes (send_or_close n v frame).after))

    pub write_makes : (w : World) (t : Txn) (results : TxnResults) (kind : WriteKind) → HoldsOfTxn Q n w t results → A w
        → Makes A Q w (answer_write_as n w t results kind)
    write_makes w t results kind writes a =
        cond_both (has_moved w results) _ _ (Makes A Q w) (λ _. close_makes n Strict A Q ground r w a)
        (λ _. replied_makes w t results kind writes a)

-- ---- what the leader's news answer

-- A relation that holds of the steps of every connection.
pub record HoldsOfAll (Strict : Type 0) (A : World → Type 0) (Q : Steps) : Type 0 where
  pub ground : (n : ℕ) → IsGround n Strict A
  pub answer_ground : (n : ℕ) → IsAnswerGround n Strict A
  pub settles_ground : (w : World) → A w → A (with_pending w (settle_sync w.clients.pending).after)
  pub tells_ground : (w : World) (timeout_of : ℤ → Option ℤ) → A w
      → A (with_pending w (take_touched w.clients.pending timeout_of).after)
  pub replies : (n : ℕ) → HoldsOfReplies n A Q
  pub calls : (n : ℕ) → HoldsOfCalls n A (λ session. Unit {0}) Q
  pub connects : (n : ℕ) → HoldsOfConnects n A (λ session. Unit {0}) (λ w session. Unit {0}) Q
  pub answers : (n : ℕ) → HoldsOfAnswers n A Q
  pub settles : (w : World) → A w → Q w (no_output (with_pending w (settle_sync w.clients.pending).after))
  pub tells : (w : World) (ping : QuorumPacket) → A w → Q w (answer_ping w ping)

module _ (Strict : Type 0) (A : World → Type 0) (Q : Steps) (s : HoldsOfAll Strict A Q) where
  nothing_makes : (w : World) → A w → Makes A Q w (no_output w)
  nothing_makes = stay_makes 0 Strict A Q (s.ground 0) (s.replies 0)

  due_admits : (w : World) (n : ℕ) → A w → Makes A Q w (admit_client n w)
  due_admits w n a =
      admit_makes n Strict A Q (s.ground n) (s.replies n) (λ session. Unit {0}) (s.calls n) (λ w session. Unit {0})
      (s.connects n).gives (s.answer_ground n) (s.answers n).drops w (λ connect e. (tt, tt)) a

  due_makes : (w : World) (t : Txn) (results : TxnResults) (due : Due)
      → ((n : ℕ) → HoldsOfTxn Q n w t results) → A w
      → Makes A Q w (give_answer w t results due)
  due_makes w t results dues.Nothing writes a = nothing_makes w a
  due_makes w t results (dues.Admission n) writes a = due_admits w n a
  due_makes w t results (dues.Ending n) writes a =
      ended_makes n Strict A Q (s.ground n) (s.replies n) w t.header.zxid (pending_close w.clients.pending n)
      (writes n).ends a
  due_makes w t results (dues.Reply n write) writes a =
      write_makes n Strict A Q (s.ground n) (s.replies n) (s.answer_ground n) (s.answers n) w t results write.kind
      (writes n) a

  pub txn_makes : (w : World) (t : Txn) (results : TxnResults) → ((n : ℕ) → HoldsOfTxn Q n w t results) → A w
      → Makes A Q w (answer_txn w t results)
  txn_makes w t results writes a = due_makes w t results (answer_due w.clients t) writes a

  optional_makes : (w : World) (results : TxnResults) (o : Option Txn)
      → ((t : Txn) → o ≡ Some t → (n : ℕ) → HoldsOfTxn Q n w t results) → A w → Makes A Q w (answer_optional_txn w results o)
  optional_makes w results None writes a = nothing_makes w a
  optional_makes w results (Some t) writes a = txn_makes w t results (writes t refl) a

  sync_makes : (w : World) → A w → Makes A Q w (answer_sync w)
  sync_makes w a = then_makes 0 Strict A Q (s.ground 0) (s.replies 0) w (no_output v) (λ u. answer_settled u settled)
      (record { keeps = s.settles_ground w a; is = s.settles w a }) (by settled)
    where
      v : World
      v = with_pending w (settle_sync w.clients.pending).after

      settled : Settled
      settled = (settle_sync w.clients.pending).settled

      by : (o : Settled) → A v → Makes A Q v (answer_settled v o)
      by NoSync b = nothing_makes v b
      by Gone b = nothing_makes v b
      by (Of n) b = front_makes n Strict A Q (s.ground n) (s.replies n) (s.answer_ground n) (s.answers n) v b

  -- The leader has said whether the session lives that this connection claims.
  claim_makes : (w : World) (o : Option ℕ) (lives : Bool) → A w → Makes A Q w (answer_claim w o lives)
  claim_makes w None lives a = nothing_makes w a
  claim_makes w (Some n) lives a =
      cond_both lives _ _ (Makes A Q w) (λ _. due_admits w n a)
      (λ _. refused_makes n Strict A Q (s.ground n) (s.replies n) w (waiting_connect (queue_of w.clients.pending n)) a)

  -- Where a transaction's reply is sent, the transaction stands at the place of the log that the news name.
  abbrev pub HoldsOfReply : Option LeaderNews → World → Type 0
  HoldsOfReply (Some (news.Applied place results)) w =
      (t : Txn) → slice_get w.replica.learner.log place ≡ Some t → (n : ℕ) → HoldsOfTxn Q n w t results
  HoldsOfReply o w = Unit {0}

  pub answers_make : (o : Option LeaderNews) (w : World) → HoldsOfReply o w → A w → Makes A Q w (answer_news o w)
  answers_make None w writes a = nothing_makes w a
  answers_make (Some (news.Ping ping)) w writes a =
      record { keeps = s.tells_ground w (timeout_in w) a; is = s.tells w ping a }
  answers_make (Some (news.Applied place results)) w writes a =
      optional_makes w results (slice_get w.replica.learner.log place) writes a
  answers_make (Some news.SyncSettled) w writes a = sync_makes w a
  answers_make (Some (news.Revalidated session lives)) w writes a =
      claim_makes w (awaiting w.clients.pending session Claimed) lives a

  -- The relation holds of every frame.
  pub news_make : ((n : ℕ) (w : World) (bytes : List ℕ) → Q w (sent_bytes n bytes w)) → (o : Option LeaderNews) (w : World)
      → A w → Makes A Q w (answer_news o w)
  news_make sends o w a = answers_make o w (by o) a
    where
      by : (o : Option LeaderNews) → HoldsOfReply o w
      by None = tt
      by (Some (news.Ping ping)) = tt
      by (Some (news.Applied place results)) = λ t e n.
          record { replies = λ kind v bytes same is. sends n v bytes; ends = λ xid bytes is. sends n w bytes }
      by (Some news.SyncSettled) = tt
      by (Some (news.Revalidated session lives)) = tt
