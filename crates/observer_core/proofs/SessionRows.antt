-- The worked rows of sessions: a new one, and one whose client was heard.
use Rattle.std.proofs.Common.{◌≡◌, ◌||◌, ◌&&◌, ℕ, ◌+◌, List, [], ◌∷◌, ◌++◌, length, map, take, drop, replicate, not, Option, Some, None, Ok, Bool, true, false, cond, refl, sym, ap, ◌∙◌, rules}
use Rattle.std.specs.Prelude.{ℤ, pos, negsuc, codes, is_some, nat_lt, int_lt}
use Rattle.std.specs.Str.{bytes_eq}
use Rattle.std.specs.FinMap as finmap
use Rattle.std.specs.FinSet as set
use Rattle.std.specs.Cmp.{nat_cmp_total, int_cmp_total}
use Rattle.std.specs.Ordering.{nat_cmp, int_cmp, eq_by_cmp}
use Rattle.std.specs.List.Sorted.{IsStrictlySortedBy}
use Rattle.std.proofs.lemmas.Map.Lookups.{exact_signed}
use Rattle.sha1.specs.Sha1.{sha1, hash_after, digest_bytes, compress, rounds, schedule, first_words}
use Rattle.values.specs.Hex.{hex_bytes}
use Rattle.settings.specs.Settings.{TimeoutPair, timeout_pair}
use Rattle.jute.specs.Format.{judged_at, buffer_at, vector_at, read_n, number_bytes}
use Rattle.jute.specs.Frame.{frame_at}
use Rattle.jute.specs.Records.{request_header, reply_header}
use Rattle.jute.specs.Stream.{Items, items_within, items_in, place_at}
use Rattle.client_records.specs.declared.codes.TheConstants.{OK, PING_XID}
use Rattle.client_records.specs.declared.connect.ConnectRequest.{ConnectRequest}
use Rattle.client_records.specs.declared.kind.RequestKind.TheVariants as kinds
use Rattle.client_records.specs.Kinds.{kind_of as request_kind_of, request_kind_in}
use Rattle.client_records.specs.Requests.{connect_request}
use Rattle.client_records.specs.Responses.{connect_response}
use Rattle.quorum_packet.specs.declared.item.Item.TheVariants as item
use Rattle.quorum_packet.specs.declared.packet.QuorumPacket.{QuorumPacket}
use Rattle.quorum_packet.specs.declared.phase.Phase.TheVariants.{Packets}
use Rattle.quorum_packet.specs.Kinds.{kind_of}
use Rattle.quorum_packet.specs.Packet.{packet_format}
use Rattle.quorum_packet.specs.Items.{items_shown_at}
use Rattle.settings.specs.declared.dialect.Dialect.{Dialect}
use Rattle.settings.specs.declared.dialect.Dialect.TheVariants.{Zk34}
use Rattle.data_tree.specs.declared.outcome.TxnResults.{TxnResults}
use Rattle.txn_codec.specs.declared.txn.TxnHeader.{TxnHeader}
use Rattle.txn_codec.specs.declared.txn.Body.TheVariants as bodies
use Rattle.txn_codec.specs.declared.txn.Txn.{Txn}
use Rattle.txn_codec.specs.Spelling.{txn_format}
use Rattle.data_tree.specs.Meaning.{effect_of_txn, answer_of, fresh_state}
use Rattle.learner_sync.specs.Answers.{ping_reply, session_rows, session_request}
use Rattle.sessions.specs.declared.request.SessionResponse.{SessionResponse}
use Rattle.sessions.specs.State.{ConnectedClient, SessionTable}
use Rattle.settings.specs.Dialects.{reads_of}
use Rattle.sessions.specs.Credentials.{session_id_of, keyed_password, password_of}
use Rattle.sessions.specs.declared.passwords.Passwords.{Passwords}
use Rattle.sessions.specs.declared.passwords.Passwords.TheVariants.{Keyed}
use Rattle.sessions.specs.Sessions.{session_in, session_of_connection, connection_of, close_as, close_if_some, give_session, ConnectResult, clamped_timeout, claimed_session, session_response, refusal_response, new_connection, with_session_connected}
use Rattle.watch_manager.specs.Watches.{FireResult}
use Rattle.watch_manager.specs.Watching.{no_watch}
use Rattle.forwarding.specs.declared.request.PendingConnect.{PendingConnect}
use Rattle.forwarding.specs.declared.request.PendingRequest.TheVariants.{Connect}
use Rattle.forwarding.specs.declared.request.ConnectKind.TheVariants.{New}
use Rattle.forwarding.specs.Queue.{RequestQueue, pending_limit, waiting_connect, asks_as, held_frames}
use Rattle.forwarding.specs.State.{TouchedSessions, PendingTable}
use Rattle.forwarding.specs.Pending.{nothing_pending, queue_in, queue_of, hold_frame, push_connect, take_connect_as, awaiting_as, drop_connection, sorted_touched, with_timeout, live_rows, touched_limit, touched_rows, TakenTouched, take_touched}
use Rattle.forwarding.proofs.SessionSets.{items-sorted}
use Rattle.four_letter.specs.Words.{word_of}
use Rattle.four_letter.specs.declared.word.Word.{Word}
use Rattle.read_processor.specs.Look.{without_body}
use Rattle.read_processor.specs.Reply.{reply_frame}
use Rattle.client_frames.specs.declared.call.CallBody.TheVariants.{Local}
use Rattle.client_frames.specs.declared.call.LocalCall.TheVariants.{Ping}
use Rattle.client_frames.specs.declared.connecting.Connecting.{Connecting}
use Rattle.client_frames.specs.Call.{call_in, call_after_header, call_body}
use Rattle.client_frames.specs.Connect.{connecting_in, session_request_of, answer_to_connect}
use Rattle.world.specs.declared.world.Settings.{Settings}
use Rattle.world.specs.declared.output.Output.{Output}
use Rattle.world.specs.declared.output.Output.TheVariants.{ToLeader, ToClient}
use Rattle.world.specs.World.{OpenConnection, OpenConnections, World}
use Rattle.world.specs.Steps.{StepResult, no_output}
use Rattle.world.specs.Clients.{idle_connection, heard_in, heard_connection, address_in, with_address, passwords_of}
use Rattle.world.specs.Timeouts.{known_timeout}
use Rattle.world.specs.Sending.{to_leader, close_client, send_or_close, with_sessions, with_pending}
use Rattle.client_service.specs.Serve.{is_live, send_connect_response, claim_or_refuse, finish_connect, handle_connect, touched_as, serve_as, serve_by, is_refused_frame, serve_frame, word_without_session, with_waiting_bytes, frames_of_client, serve_all, tell_or_serve, take_client_bytes}
use Rattle.leader_answers.specs.Answering.{admission_of, admit_as, admit_with, give_answer, answer_applied_txn, answer_ping}
use Rattle.world.proofs.NatMaps.{get-inserted, insert-insert}
use Rattle.observer_core.specs.declared.event.Event.TheVariants.{LeaderBytes, ClientUp, ClientBytes}
use Rattle.observer_core.specs.Machine.{Machine}
use Rattle.observer_core.specs.Leader.{item_step, with_leader}
use Rattle.observer_core.specs.Apart.{completed_frames, IsClaimed}
use Rattle.observer_core.specs.Play.{is_serving_clients, play_event, play, primed_session, first_client}
use Rattle.observer_core.specs.Rows.{claim_frame, session_of_claim, client_ping, reply_of_ping, leader_ping, answer_with_first, answer_with_none, connect_frame, request_of_session, inform_of_session, response_of_session}
use Rattle.observer_core.proofs.Rows.{earlier_machine, ReadAgain, NobodyTold, start, one_packet, packet_of, one_frame, pending_at, idle_at, served_at, handled_at, open_with, at_first, heard, nobody_yet, first_timeout, joined_first, world_with, world_at, beginning, led, one_delivered, told, told_by, inform_comes, in_hand, with_connections, frame_served, first_open}
use Rattle.observer_core.proofs.ForwardedRows.{first_id, IsThird, SessionsStay, id_is, waiting_world, waiting_machine, once_heard, queue_is, one_item_comes}

-- ---- a client is heard, and the leader is told

abbrev ping_frame : List ℕ
ping_frame = hex_bytes (codes "fffffffe 0000000b")

ping_found : items_in frames_of_client (place_at tt client_ping) ≡ one_frame ping_frame
unfolding items_within frame_at judged_at
ping_found = refl

ping_header : request_header.read ping_frame ≡ Ok (record { xid = negsuc 1; kind = pos 11 }, [])
unfolding request_header
ping_header = refl

ping_kind : (dialect : Dialect) → request_kind_in dialect (pos 11) ≡ Some kinds.Ping
unfolding request_kind_of
ping_kind dialect = refl

ping_read : (dialect : Dialect) → call_in dialect ping_frame ≡ Ok (record { xid = negsuc 1; body = Local Ping })
ping_read dialect =
    ap (call_after_header dialect) ping_header
    ∙ ap (λ k. Ok (record { xid = negsuc 1; body = call_body dialect k [] })) (ping_kind dialect)

ping_replied : reply_frame PING_XID (pos 0) (without_body OK) ≡ Some reply_of_ping
unfolding reply_header number_bytes
ping_replied = refl

ping_comes : (settings : Settings)
    → play_event (earlier_machine settings) (ClientBytes 1 client_ping)
    ≡ record { outputs = ToClient 1 reply_of_ping ∷ []; after = waiting_machine settings (once_heard settings) }
ping_comes settings =
    let w = world_at settings (pos 0) [] (start settings) set.empty [] in
    let v = waiting_world settings (once_heard settings) in
    let session = primed_session settings in
    in_hand settings (pos 0) [] (start settings) set.empty [] client_ping
    ∙ frame_served 1 w v client_ping ping_frame (ToClient 1 reply_of_ping) first_open first_open ping_found
    (served_at w set.empty session ping_frame (joined_first settings) refl refl
    ∙ ap (serve_as 1 session v ping_frame) (ping_read settings.dialect)
    ∙ handled_at v (heard settings set.empty) ping_frame (negsuc 1) Ping refl
    ∙ ap (send_or_close 1 v) ping_replied)

abbrev leaders_ping : QuorumPacket
leaders_ping = record { kind = pos 5; zxid = pos 4294967298; bytes = None; authinfo = None }

leaders_ping_found : items_shown_at (place_at (Packets Zk34) leader_ping) ≡ one_packet leaders_ping
unfolding items_within packet_format judged_at buffer_at vector_at read_n number_bytes
leaders_ping_found = refl

-- What the leader is told where these sessions are touched.
abbrev told_of : Settings → PendingTable → TakenTouched
told_of settings pending = take_touched pending (finmap.get (start settings).sessions)

abbrev answer_with : List (ℤ × ℤ) → Output
answer_with rows = to_leader (ping_reply leaders_ping (session_rows rows))

ping_taken : (settings : Settings) (pending : PendingTable) →
    let w = waiting_world settings pending in
    item_step (led w) (item.Packet leaders_ping) ≡ told [] (answer_ping w leaders_ping)
unfolding kind_of
ping_taken settings pending = refl

ping_is_told : (settings : Settings) (pending : PendingTable) → SessionsStay settings
    → play_event (waiting_machine settings pending) (LeaderBytes leader_ping)
    ≡ (record {
      outputs = answer_with (told_of settings pending).rows ∷ [];
      after = waiting_machine settings (told_of settings pending).after;
    })
ping_is_told settings pending stay =
    one_item_comes w leader_ping leaders_ping leaders_ping_found ∙ ap (one_delivered w) (ping_taken settings pending)
    ∙ ap (λ (counts : Bool). one_delivered w (told [] (counting counts))) stay
  where
    w : World
    w = waiting_world settings pending

    -- The answer, by whether the timeouts count that connections were told.
    counting : Bool → StepResult World
    counting counts =
        let sent = take_touched pending
        (λ session. known_timeout counts w.clients.sessions w.replica.tree.sessions session) in
        record { outputs = answer_with sent.rows ∷ []; after = with_pending w sent.after }

pings_are_told : (settings : Settings) → SessionsStay settings →
    let once = told_of settings (once_heard settings) in
    (play (earlier_machine settings)
    (ClientBytes 1 client_ping ∷ LeaderBytes leader_ping ∷ LeaderBytes leader_ping ∷ [])).outputs
    ≡ ToClient 1 reply_of_ping ∷ answer_with once.rows ∷ answer_with (told_of settings once.after).rows ∷ []
pings_are_told settings stay =
    let once = told_of settings (once_heard settings) in
    ap (λ (h : StepResult Machine). h.outputs
    ++ (play h.after (LeaderBytes leader_ping ∷ LeaderBytes leader_ping ∷ [])).outputs) (ping_comes settings)
    ∙ ap (λ (h : StepResult Machine). ToClient 1 reply_of_ping
    ∷ (h.outputs ++ (play h.after (LeaderBytes leader_ping ∷ [])).outputs))
    (ping_is_told settings (once_heard settings) stay)
    ∙ ap (λ (h : StepResult Machine). ToClient 1 reply_of_ping ∷ answer_with once.rows ∷ (h.outputs ++ []))
    (ping_is_told settings once.after stay)

-- ---- one session is touched

none_sorted : IsStrictlySortedBy int_cmp []
unfolding IsStrictlySortedBy
none_sorted = tt

module _ (session longest : ℤ) where
  abbrev timeouts : finmap.FinMap int_cmp ℤ
  timeouts = finmap.insert fresh_state.sessions session longest

  one_touched : set.insert {R = int_cmp} set.empty session ≡ set.from_list (session ∷ [])
  one_touched = set.same_set int_cmp_total exact_signed _ _ (λ q.
      set.contains-insert int_cmp_total set.empty session q
      ∙ ap (λ b. eq_by_cmp int_cmp q session || b) (set.contains-empty int_cmp q)
      ∙ sym (set.contains-from_list int_cmp_total (session ∷ []) q))

  alone : IsStrictlySortedBy int_cmp (session ∷ [])
  unfolding IsStrictlySortedBy
  alone = (tt, tt)

  one_row : eq_by_cmp int_cmp session session ≡ true
      → touched_rows (pending_at (set.insert set.empty session)) (finmap.get timeouts) ≡ (session, longest) ∷ []
  one_row same =
      ap (live_rows (finmap.get timeouts))
      (ap (λ (s : TouchedSessions). sorted_touched s) one_touched ∙ items-sorted (session ∷ []) alone)
      ∙ ap (λ (o : Option ℤ). with_timeout session o [])
      (finmap.get-insert int_cmp_total fresh_state.sessions session longest session
      ∙ ap (λ (b : Bool). cond b (Some longest) (finmap.get fresh_state.sessions session)) same)

  -- The session is told once.
  told_once : eq_by_cmp int_cmp session session ≡ true
      → take_touched (pending_at (set.insert set.empty session)) (finmap.get timeouts)
      ≡ record { rows = (session, longest) ∷ []; after = pending_at (set.from_list []) }
  told_once same = ap (λ (rows : List (ℤ × ℤ)). record {
    rows = take touched_limit rows;
    after = pending_at (set.from_list (map (λ (row : ℤ × ℤ). row.0) (drop touched_limit rows)));
  }) (one_row same)

  none_told : (take_touched (pending_at (set.from_list [])) (finmap.get timeouts)).rows ≡ []
  none_told =
      ap (λ (ids : List ℤ). take touched_limit (live_rows (finmap.get timeouts) ids)) (items-sorted [] none_sorted)

with_first_written : packet_format.written (ping_reply leaders_ping (session_rows ((first_id, pos 40000) ∷ [])))
    ≡ answer_with_first
unfolding packet_format number_bytes
with_first_written = refl

with_none_written : packet_format.written (ping_reply leaders_ping (session_rows [])) ≡ answer_with_none
unfolding packet_format number_bytes
with_none_written = refl

pub first_is_told : (settings : Settings) → SessionsStay settings → IsThird settings
    → settings.timeouts ≡ timeout_pair (pos 4000) (pos 40000) → settings.secret ≡ []
    → (play (earlier_machine settings)
    (ClientBytes 1 client_ping ∷ LeaderBytes leader_ping ∷ LeaderBytes leader_ping ∷ [])).outputs
    ≡ ToClient 1 reply_of_ping ∷ ToLeader answer_with_first ∷ ToLeader answer_with_none ∷ []
first_is_told settings stay three terms secretless =
    pings_are_told settings stay
    ∙ ap (λ (id : ℤ). answers (told_from id settings.timeouts.greatest)) (id_is settings three)
    ∙ ap (λ (bounds : TimeoutPair). answers (told_from first_id bounds.greatest)) terms
    ∙ ap (λ (once : TakenTouched). answers (once, take_touched once.after (finmap.get (timeouts first_id (pos 40000)))))
    (told_once first_id (pos 40000) refl)
    ∙ ap (λ (rows : List (ℤ × ℤ)).
    ToClient 1 reply_of_ping ∷ answer_with ((first_id, pos 40000) ∷ []) ∷ answer_with rows ∷ [])
    (none_told first_id (pos 40000))
    ∙ (λ i. ToClient 1 reply_of_ping ∷ ToLeader (with_first_written i) ∷ ToLeader (with_none_written i) ∷ [])
  where
    -- What the leader is told at the first PING, and at the second.
    told_from : ℤ → ℤ → TakenTouched × TakenTouched
    told_from id longest =
        let once = take_touched (pending_at (set.insert set.empty id)) (finmap.get (timeouts id longest)) in
        (once, take_touched once.after (finmap.get (timeouts id longest)))

    answers : TakenTouched × TakenTouched → List Output
    answers both = ToClient 1 reply_of_ping ∷ answer_with both.0.rows ∷ answer_with both.1.rows ∷ []

-- ---- a new session

abbrev asked : List ℕ
asked = hex_bytes (codes "00000000 0000000000000000 00002710 0000000000000000"
    ++ codes " 00000010 00000000000000000000000000000000")

abbrev request : ConnectRequest
request = record {
  protocol_version = pos 0;
  last_zxid_seen = pos 0;
  time_out = pos 10000;
  session_id = pos 0;
  passwd = Some (replicate 16 0);
}

connect_found : items_in frames_of_client (place_at tt connect_frame) ≡ one_frame asked
unfolding items_within frame_at judged_at
connect_found = refl

connect_read : connecting_in asked ≡ Ok (record { request = request; has_byte = false })
unfolding connect_request buffer_at judged_at
connect_read = refl

-- The id that the server gives out next.
abbrev second_session : ℤ
second_session = pos 216172782113783810

second_is : (settings : Settings) → IsThird settings → session_id_of settings.server_id 2 ≡ second_session
unfolding session_id_of
second_is settings three = ap (λ (n : ℤ). session_id_of n 2) three.0

request_written : packet_format.written (session_request second_session (pos 10000)) ≡ request_of_session
unfolding packet_format number_bytes
request_written = refl

module _ (settings : Settings) where
  -- The sessions once connection 1 has the first one, with so many ids given out.
  abbrev sessions_after : ℕ → SessionTable
  sessions_after counter =
      record (with_session_connected (nobody_yet settings) 1 (primed_session settings) (first_timeout settings))
      { counter = counter }

  primed_sessions : settings.first_counter ≡ 0 → (first_client settings).sessions ≡ sessions_after 1
  primed_sessions begins =
      ap (λ (o : Option ℕ). with_session_connected (close_if_some (nobody_yet settings) o) 1 (primed_session settings)
      (first_timeout settings))
      (finmap.get-empty int_cmp (primed_session settings))
      ∙ ap (λ (first : ℕ). sessions_after (first + 1)) begins

  -- Connection 2 has none.
  second_is_none : (counter : ℕ) → finmap.get (sessions_after counter).connections 2 ≡ None
  second_is_none counter =
      finmap.get-insert nat_cmp_total finmap.empty 1
      (new_connection (primed_session settings) (first_timeout settings)) 2
      ∙ finmap.get-empty nat_cmp 2

  no_second : session_of_connection (sessions_after 1) 2 ≡ None
  no_second = ap session_in (second_is_none 1)

  -- Connections 1 and 2 are open.
  abbrev both_open : OpenConnections
  both_open = finmap.insert (at_first []) 2 (open_with [])

  second_open : finmap.get both_open 2 ≡ Some (open_with [])
  second_open = get-inserted (at_first []) 2 (open_with [])

  abbrev world_of : SessionTable → PendingTable → World
  world_of sessions pending = world_with settings (pos 0) [] (start settings)
      (record { connections = both_open; sessions = sessions; watches = no_watch; pending = pending })

  abbrev machine_of : SessionTable → PendingTable → Machine
  machine_of sessions pending = record { leader = Some beginning; world = world_of sessions pending }

  second_comes : settings.first_counter ≡ 0 → play_event (earlier_machine settings) (ClientUp 2 None)
      ≡ no_output (machine_of (sessions_after 1) nothing_pending)
  second_comes begins =
      ap (λ (o : Option OpenConnection). no_output (record {
        leader = Some beginning;
        world = cond (is_some o) (earlier_machine settings).world
            (world_of (first_client settings).sessions nothing_pending);
      }))
      (finmap.get-insert nat_cmp_total finmap.empty 1 (open_with []) 2 ∙ finmap.get-empty nat_cmp 2)
      ∙ ap (λ (s : SessionTable). no_output (machine_of s nothing_pending)) (primed_sessions begins)

  -- ---- the connect

  abbrev w : World
  w = world_of (sessions_after 1) nothing_pending

  abbrev connecting : Connecting
  connecting = record { request = request; has_byte = false }

  abbrev waiting : PendingConnect
  waiting = record { kind = New; session = second_session; time_out = pos 10000; has_read_only = false }

  abbrev passwords : Passwords
  passwords = passwords_of settings.dialect settings.secret

  abbrev connect_waits : PendingTable
  connect_waits = push_connect nothing_pending 2 waiting

  -- The id and the timeout are those of the session.
  asked_as : IsThird settings → settings.timeouts ≡ timeout_pair (pos 4000) (pos 40000)
      → handle_connect true 2 w (Ok connecting)
      ≡ record { outputs = ToLeader request_of_session ∷ []; after = world_of (sessions_after 2) connect_waits }
  asked_as three terms =
      ap by_claim (and-false (reads_of settings.dialect).moved_sessions)
      ∙ ap (λ (id : ℤ). finishing id (clamped_timeout settings.timeouts (pos 10000))) (second_is settings three)
      ∙ ap (λ (bounds : TimeoutPair). finishing second_session (clamped_timeout bounds (pos 10000))) terms
      ∙ ap (λ (o : Option ℕ). asks (is_some o)) (finmap.get-empty int_cmp second_session)
      ∙ ap (λ (bytes : List ℕ). record {
        outputs = ToLeader bytes ∷ [];
        after = world_of (sessions_after 2) connect_waits;
      }) request_written
    where
      and-false : (b : Bool) → (b && false) ≡ false
      and-false true = refl
      and-false false = refl

      response : ℤ → ℤ → SessionResponse
      response id time_out =
          record { time_out = time_out; session_id = id; password = password_of passwords id }

      finishing : ℤ → ℤ → StepResult World
      finishing id time_out = finish_connect 2 w connecting (record {
        connected = record { response = response id time_out; older = None };
        after = sessions_after 2;
      })

      -- The session 0 is no claim.
      by_claim : Bool → StepResult World
      by_claim claims = cond claims
          (claim_or_refuse 2 false w (claimed_session w.clients.sessions (session_request_of request)))
          (finishing (session_id_of settings.server_id 2) (clamped_timeout settings.timeouts (pos 10000)))

      asks : Bool → StepResult World
      asks taken = cond taken
          (send_connect_response 2 false refusal_response (world_of (sessions_after 2) nothing_pending))
          (record {
            outputs = to_leader (session_request second_session (pos 10000)) ∷ [];
            after = world_of (sessions_after 2) connect_waits;
          })

  connect_served : IsThird settings → settings.timeouts ≡ timeout_pair (pos 4000) (pos 40000)
      → serve_frame true 2 w asked
      ≡ record { outputs = ToLeader request_of_session ∷ []; after = world_of (sessions_after 2) connect_waits }
  connect_served three terms =
      ap (λ (o : Option ℤ). served (touched_as w o)) no_second
      ∙ ap (λ (o : Option RequestQueue). judged (not (nat_lt (length (queue_in o)) pending_limit) || false))
      (finmap.get-empty nat_cmp 2)
      ∙ ap (serve_by true 2 w asked) no_second
      ∙ ap (λ (idle : Bool). held idle) (idle_at set.empty 2)
      ∙ ap (handle_connect true 2 w) connect_read
      ∙ asked_as three terms
    where
      served : World → StepResult World
      served u = cond (is_refused_frame 2 u asked) (close_client 2 u)
          (serve_by true 2 u asked (session_of_connection u.clients.sessions 2))

      judged : Bool → StepResult World
      judged refused = cond refused (close_client 2 w)
          (serve_by true 2 w asked (session_of_connection w.clients.sessions 2))

      held : Bool → StepResult World
      held idle = cond idle (handle_connect true 2 w (connecting_in asked))
          (no_output (with_pending w (hold_frame w.clients.pending 2 asked)))

  connect_comes : IsThird settings → settings.timeouts ≡ timeout_pair (pos 4000) (pos 40000)
      → play_event (machine_of (sessions_after 1) nothing_pending) (ClientBytes 2 connect_frame)
      ≡ record { outputs = ToLeader request_of_session ∷ []; after = machine_of (sessions_after 2) connect_waits }
  connect_comes three terms =
      ap (λ (o : Option OpenConnection). with_leader (Some beginning)
      (take_client_bytes true 2 w (heard_in o) connect_frame)) second_open
      ∙ ap (λ (idle : Bool). said (cond idle (word (session_of_connection (sessions_after 1) 2)) None))
      (idle_at set.empty 2)
      ∙ ap (λ (session : Option ℤ). said (word session)) no_second
      ∙ ap (λ (c : OpenConnections). with_leader (Some beginning)
      (serve_all true 2 (with_connections w c) (items_in frames_of_client (place_at tt connect_frame))))
      (insert-insert (at_first []) 2 (open_with []) (open_with []))
      ∙ frame_served 2 w (world_of (sessions_after 2) connect_waits) connect_frame asked (ToLeader request_of_session)
      second_open second_open connect_found (connect_served three terms)
    where
      word : Option ℤ → Option Word
      word session = word_without_session session (word_of (take 4 connect_frame))

      said : Option Word → StepResult Machine
      said o = with_leader (Some beginning)
          (tell_or_serve true 2 (with_waiting_bytes 2 w (open_with []) []) connect_frame o)

-- ---- the leader creates the session

abbrev session_header : TxnHeader
session_header =
    record { client_id = second_session; cxid = pos 0; zxid = pos 4294967297; time = pos 1000; rules = Zk34 }

abbrev session_txn : Txn
session_txn = record { header = session_header; body = bodies.CreateSession (pos 10000) }

session_fits : txn_format.Fits session_txn
session_fits = ((refl, search rules), ((refl, search rules), (refl, search rules)))

session_found : items_shown_at (place_at (Packets Zk34) inform_of_session)
    ≡ one_packet (packet_of (pos 4294967297) (txn_format.written session_txn))
unfolding items_within packet_format judged_at buffer_at vector_at read_n number_bytes
session_found = refl

abbrev password : List ℕ
password = hex_bytes (codes "5c75ddec095bce05f05804d58decb4ec")

password_is : password_of (Keyed []) second_session ≡ password
unfolding keyed_password sha1 hash_after digest_bytes compress rounds schedule first_words
password_is = refl

response_written : answer_to_connect (record { time_out = pos 10000; session_id = second_session; password = password })
    false
    ≡ response_of_session
unfolding connect_response number_bytes
response_written = refl

module _ (settings : Settings) (three : IsThird settings)
    (terms : settings.timeouts ≡ timeout_pair (pos 4000) (pos 40000)) (secretless : settings.secret ≡ [])
    (earlier : settings.dialect ≡ Zk34) where
  -- The passwords of ZooKeeper 3.4 are made with the secret.
  keyed : passwords settings ≡ Keyed []
  keyed = ap (λ (dialect : Dialect). passwords_of dialect settings.secret) earlier
      ∙ ap (λ (secret : List ℕ). Keyed secret) secretless

  abbrev queue : RequestQueue
  queue = queue_of (connect_waits settings) 2

  -- The connect's world once its session is in the tree.
  abbrev applied : World
  applied = world_with settings (pos 4294967297) (session_txn ∷ []) (effect_of_txn (start settings) session_txn).state
      (world_of settings (sessions_after settings 2) (connect_waits settings)).clients

  abbrev results : TxnResults
  results = (answer_of (effect_of_txn (start settings) session_txn)).results

  -- The connect has left.
  abbrev left : World
  left = with_pending applied (drop_connection (connect_waits settings) 2)

  no_owner : connection_of (sessions_after settings 2) second_session ≡ None
  no_owner =
      ap (λ (id : ℤ). finmap.get {R = int_cmp} (finmap.insert finmap.empty id 1) second_session) (id_is settings three)
      ∙ finmap.get-insert int_cmp_total finmap.empty first_id 1 second_session
      ∙ finmap.get-empty int_cmp second_session

  abbrev admitted : World
  admitted =
      with_sessions left
      (with_session_connected (sessions_after settings 2) 2 second_session
      (clamped_timeout settings.timeouts (pos 10000)))

  abbrev responded : List ℕ → StepResult World
  responded frame = record { outputs = ToClient 2 frame ∷ []; after = admitted }

  abbrev response : TimeoutPair → Passwords → List ℕ
  response bounds made = answer_to_connect (record {
    time_out = clamped_timeout bounds (pos 10000);
    session_id = second_session;
    password = password_of made second_session;
  }) false

  session_given : admit_as 2 left [] (Some (waiting settings)) ≡ responded response_of_session
  session_given =
      ap (λ (o : Option ConnectedClient). admit_with 2 left (waiting settings) []
      (give_session (close_as (sessions_after settings 2) 2 o) 2 second_session (pos 10000)))
      (second_is_none settings 2)
      ∙ ap (λ (o : Option ℕ). admit_with 2 left (waiting settings) [] (given o)) no_owner
      ∙ ap (λ (o : Option OpenConnection). shown (address_in o)) (second_open settings)
      ∙ ap (λ (bounds : TimeoutPair). responded (response bounds (passwords settings))) terms
      ∙ ap (λ (made : Passwords). responded (response (timeout_pair (pos 4000) (pos 40000)) made)) keyed
      ∙ ap (λ (p : List ℕ). responded (answer_to_connect
      (record { time_out = pos 10000; session_id = second_session; password = p }) false)) password_is
      ∙ ap responded response_written
    where
      -- The client of connection 2 has no address that were an id.
      shown : Option (List ℕ) → StepResult World
      shown address = record {
        outputs = ToClient 2 (response settings.timeouts (passwords settings)) ∷ [];
        after = with_sessions left (with_address admitted.clients.sessions 2 address);
      }

      given : Option ℕ → ConnectResult
      given older = record {
        connected = record {
          response = session_response left.clients.sessions.terms second_session (pos 10000);
          older = older;
        };
        after = with_session_connected (close_if_some (sessions_after settings 2) older) 2 second_session
            (clamped_timeout settings.timeouts (pos 10000));
      }

  connect_answered : answer_applied_txn applied 0 results ≡ responded response_of_session
  connect_answered =
      ap (λ (o : Option ℕ). give_answer applied session_txn results
      (admission_of (awaiting_as (connect_waits settings) New o)))
      (finmap.get-insert int_cmp_total finmap.empty second_session 2 second_session)
      ∙ ap (λ (q : RequestQueue). give_answer applied session_txn results
      (admission_of (cond (asks_as New (waiting_connect q)) (Some 2) None))) (queue_is 2 (Connect (waiting settings)))
      ∙ ap (λ (q : RequestQueue). taking (waiting_connect q)) (queue_is 2 (Connect (waiting settings)))
      ∙ ap (λ (q : RequestQueue). admit_as 2 left (held_frames q) (Some (waiting settings)))
      (queue_is 2 (Connect (waiting settings)))
      ∙ session_given
    where
      taking : Option PendingConnect → StepResult World
      taking o =
          let taken = take_connect_as (connect_waits settings) 2 o in
          admit_as 2 (with_pending applied taken.after) taken.frames taken.connect

  session_comes : (again : ReadAgain) (nobody : NobodyTold)
      → play_event (machine_of settings (sessions_after settings 2) (connect_waits settings))
      (LeaderBytes inform_of_session)
      ≡ (record {
        outputs = ToClient 2 response_of_session ∷ [];
        after = record { leader = Some beginning; world = admitted };
      })
  session_comes again nobody =
      let before = world_of settings (sessions_after settings 2) (connect_waits settings) in
      inform_comes again settings (pos 0) [] (start settings) before.clients inform_of_session (pos 4294967297)
      session_txn session_fits session_found
      ∙ ap (λ (f : FireResult). one_delivered before (told_by applied results f))
      (nobody (effect_of_txn (start settings) session_txn).triggers)
      ∙ ap (λ (h : StepResult World). one_delivered before (told [] h)) connect_answered

  session_played : (again : ReadAgain) (nobody : NobodyTold)
      → (play (earlier_machine settings)
      (ClientUp 2 None ∷ ClientBytes 2 connect_frame ∷ LeaderBytes inform_of_session ∷ [])).outputs
      ≡ ToLeader request_of_session ∷ ToClient 2 response_of_session ∷ []
  session_played again nobody =
      ap (λ (h : StepResult Machine). h.outputs
      ++ (play h.after (ClientBytes 2 connect_frame ∷ LeaderBytes inform_of_session ∷ [])).outputs)
      (second_comes settings three.1)
      ∙ ap (λ (h : StepResult Machine). h.outputs ++ (play h.after (LeaderBytes inform_of_session ∷ [])).outputs)
      (connect_comes settings three terms)
      ∙ ap (λ (h : StepResult Machine). ToLeader request_of_session ∷ (h.outputs ++ [])) (session_comes again nobody)

pub session_is_created : (again : ReadAgain) (nobody : NobodyTold) (settings : Settings) → settings.dialect ≡ Zk34
    → IsThird settings → settings.timeouts ≡ timeout_pair (pos 4000) (pos 40000) → settings.secret ≡ []
    → (play (earlier_machine settings)
    (ClientUp 2 None ∷ ClientBytes 2 connect_frame ∷ LeaderBytes inform_of_session ∷ [])).outputs
    ≡ ToLeader request_of_session ∷ ToClient 2 response_of_session ∷ []
session_is_created again nobody settings earlier three terms secretless =
    session_played settings three terms secretless earlier again nobody

-- ---- a session that is claimed

abbrev claim : List ℕ
claim = hex_bytes (codes "00000000 0000000000000000 00002710 0300000000000002"
    ++ codes " 00000010 5c75ddec095bce05f05804d58decb4ec")

abbrev claiming_request : ConnectRequest
claiming_request = record {
  protocol_version = pos 0;
  last_zxid_seen = pos 0;
  time_out = pos 10000;
  session_id = second_session;
  passwd = Some password;
}

claim_found : items_in frames_of_client (place_at tt claim_frame) ≡ one_frame claim
unfolding items_within frame_at judged_at
claim_found = refl

claim_read : connecting_in claim ≡ Ok (record { request = claiming_request; has_byte = false })
unfolding connect_request buffer_at judged_at
claim_read = refl

pub claim_names : (n : ℕ) (w : World) → heard_connection n w.clients ≡ Some (idle_connection None)
    → w.clients.sessions.terms.passwords ≡ Keyed [] → w.replica.learner.last_zxid ≡ pos 0
    → is_serving_clients w ≡ true → is_live session_of_claim w ≡ true → IsClaimed n w claim_frame session_of_claim
claim_names n w there keyed zxid serving live = record {
  frame = claim;
  others = [];
  first = ap (λ (o : Option OpenConnection). completed_frames o claim_frame) there
      ∙ ap (λ (i : Items (Unit {0}) (List ℕ)). i.found) claim_found;
  claims = record {
    connect = record { request = claiming_request; has_byte = false };
    reads = claim_read;
    may = ap (λ (b : Bool). b && not (int_lt w.replica.learner.last_zxid (pos 0))) serving
        ∙ ap (λ (z : ℤ). not (int_lt z (pos 0))) zxid;
    names = refl;
    nonzero = refl;
    password = ap (λ (rule : Passwords). bytes_eq password (password_of rule second_session)) keyed
        ∙ ap (bytes_eq password) password_is;
    lives = λ _. live;
  };
}
