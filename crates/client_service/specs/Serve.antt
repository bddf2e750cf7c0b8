-- What the bytes of a client do.
use Rattle.std.specs.Prelude.{ℕ, ℤ, pos, List, [], ◌∷◌, ◌++◌, map, take, Option, Some, None, Result, Ok, Err, Bool, true, not, is_some, length, nat_lt, int_lt, ◌&&◌, ◌||◌, if◌then◌else◌}
use Rattle.std.specs.Option.{unwrap_or}
use Rattle.std.specs.Ordering.{int_eq}
use Rattle.std.specs.FinMap as finmap
use Rattle.std.specs.FinSet as set
use Rattle.values.specs.declared.fault.Fault.{Fault}
use Rattle.jute.specs.Frame.{frame_format}
use Rattle.jute.specs.Stream.{PhasedStream, Items, Unread, stream_of, place_at, items_in}
use Rattle.jute.specs.declared.codes.TheConstants.{BAD_ARGUMENTS}
use Rattle.client_records.specs.declared.codes.TheConstants.{OK, UNIMPLEMENTED, AUTH_FAILED, NOT_READ_ONLY, NO_WATCHER, PING_XID}
use Rattle.client_records.specs.declared.connect.ConnectRequest.{ConnectRequest}
use Rattle.client_records.specs.declared.request.AuthPacket.{AuthPacket}
use Rattle.sessions.specs.State.{SessionTable as Sessions}
use Rattle.settings.specs.declared.dialect.Dialect.{Dialect}
use Rattle.settings.specs.declared.dialect.Dialect.TheVariants.{Zk34, Zk38}
use Rattle.settings.specs.Dialects.{reads_of}
use Rattle.sessions.specs.Sessions.{session_of_connection, connection_of, ids_of, ConnectResult, connect_session, claimed_session, refusal_response, AuthResult, add_auth, expire_owner}
use Rattle.sessions.specs.declared.request.Connected.{Connected}
use Rattle.sessions.specs.declared.request.SessionResponse.{SessionResponse}
use Rattle.watch_manager.specs.Watching.{WatchTables, with_lasting_watch}
use Rattle.watch_manager.specs.Kinds.{has_watch, without_watch}
use Rattle.watch_manager.specs.declared.kind.WatchKind.{WatchKind}
use Rattle.watch_manager.specs.declared.kind.WatchKind.TheVariants as kinds
use Rattle.watch_manager.specs.declared.mode.WatchMode.{WatchMode}
use Rattle.watch_manager.specs.declared.mode.WatchMode.TheVariants.{Persistent, Recursive}
use Rattle.watch_manager.specs.Counts.{counts_of}
use Rattle.watch_manager.specs.declared.counts.WatchCounts.{WatchCounts}
use Rattle.watch_manager.specs.Summary.{summary}
use Rattle.watch_manager.specs.declared.watched.Watched.{Watched}
use Rattle.four_letter.specs.Words.{word_of}
use Rattle.four_letter.specs.Texts.{reply_text}
use Rattle.four_letter.specs.declared.figures.Figures.{Figures}
use Rattle.four_letter.specs.declared.figures.WatchRow.{WatchRow}
use Rattle.four_letter.specs.declared.word.Word.{Word}
use Rattle.read_processor.specs.declared.request.Request.{Request}
use Rattle.read_processor.specs.declared.shown.Look.{Look}
use Rattle.read_processor.specs.declared.watch.SoughtWatch.{SoughtWatch}
use Rattle.read_processor.specs.declared.watch.Watch.{Watch}
use Rattle.read_processor.specs.declared.watch.Watch.TheVariants as tables
use Rattle.read_processor.specs.declared.renewal.Renewal.{Renewal}
use Rattle.read_processor.specs.Look.{look_at_state, without_body}
use Rattle.read_processor.specs.Watch.{watch_of, watch_to_add, look_of_added, watch_sought}
use Rattle.read_processor.specs.Renewal.{renew_watches, renew_all_watches}
use Rattle.read_processor.specs.Reply.{reply_frame}
use Rattle.client_frames.specs.declared.call.Call.{Call}
use Rattle.client_frames.specs.declared.call.CallBody.{CallBody}
use Rattle.client_frames.specs.declared.call.CallBody.TheVariants as bodies
use Rattle.client_frames.specs.declared.call.LocalCall.{LocalCall}
use Rattle.client_frames.specs.declared.call.LocalCall.TheVariants as locals
use Rattle.forwarding.specs.State.{PendingTable}
use Rattle.forwarding.specs.declared.request.ConnectKind.TheVariants.{New, Claimed}
use Rattle.forwarding.specs.declared.request.WriteKind.{WriteKind}
use Rattle.forwarding.specs.Queue.{is_close}
use Rattle.forwarding.specs.Pending.{is_idle, is_full, connecting_to, push_connect, push_write, push_sync, hold_frame, touch_session}
use Rattle.learner_sync.specs.Answers.{request_of, session_request, session_question}
use Rattle.client_frames.specs.declared.connecting.Connecting.{Connecting}
use Rattle.world.specs.World.{OpenConnection, Clients, World}
use Rattle.client_frames.specs.Call.{call_in}
use Rattle.client_frames.specs.Connect.{connecting_in, session_request_of, answer_to_connect}
use Rattle.client_service.specs.LaterReads.{answer_multi_read, answer_ephemerals, answer_below, answer_who_am_i, answer_sasl, answer_unreadable, answer_unknown}
use Rattle.world.specs.Steps.{StepResult, prepend_outputs, no_output, and_then, fold_steps}
use Rattle.world.specs.Sending.{to_leader, close_client, send_or_close, send_last, send_reply, send_reply_last, with_watches, with_sessions, with_pending, close_client_if_some}
use Rattle.world.specs.Clients.{idle_connection, is_open, heard_connection, is_heard, with_connection, without_client, notices_to}

-- ---- reads and watches

-- The kind of the lasting watches that aren't of this mode.
abbrev pub kind_of_other : WatchMode → WatchKind
kind_of_other Persistent = kinds.Recursive
kind_of_other Recursive = kinds.Persistent

abbrev pub with_watch : ℕ → WatchTables → Watch → WatchTables
with_watch n w (tables.Data path) = record w { data_watches = set.insert w.data_watches (path, n) }
with_watch n w (tables.Child path) = record w { child = set.insert w.child (path, n) }
with_watch n w (tables.Lasting path mode) = with_lasting_watch n path mode w
with_watch n w (tables.LastingAlone path mode) =
    without_watch (kind_of_other mode) n path (with_lasting_watch n path mode w)

abbrev pub with_each_watch : ℕ → WatchTables → List Watch → WatchTables
with_each_watch n w [] = w
with_each_watch n w (watch ∷ others) = with_each_watch n (with_watch n w watch) others

abbrev pub with_watch_if : ℕ → WatchTables → Option Watch → WatchTables
with_watch_if n w None = w
with_watch_if n w (Some watch) = with_watch n w watch

-- A read is answered at the present state, and leaves its watch.
abbrev pub answer_read : ℕ → World → ℤ → Request → StepResult World
answer_read n w xid r =
    let seen = look_at_state w.replica.tree (ids_of w.clients.sessions n) r in
    send_reply n (with_watches w (with_watch_if n w.clients.watches (watch_of r seen.error))) xid seen

-- The events that the client missed are sent first, then the reply.
abbrev pub answer_set_watches : ℕ → World → ℤ → Option Renewal → StepResult World
answer_set_watches n w xid None = send_reply n w xid (without_body BAD_ARGUMENTS)
answer_set_watches n w xid (Some r) =
    prepend_outputs (notices_to n r.events)
    (send_reply n (with_watches w (with_each_watch n w.clients.watches r.watches)) xid (without_body OK))

-- The watch to add is set, whether or not there is a node. Without one the request counts as one that can't be read.
abbrev pub answer_add_watch : ℕ → World → ℤ → Option Watch → StepResult World
answer_add_watch n w xid None = answer_unreadable n w xid
answer_add_watch n w xid (Some watch) =
    send_reply n (with_watches w (with_watch n w.clients.watches watch)) xid (look_of_added w.settings.dialect)

abbrev pub has_sought_watch : ℕ → World → SoughtWatch → Bool
has_sought_watch n w sought = has_watch sought.kind n sought.path w.clients.watches

-- The error says whether the watch is there.
abbrev pub look_of_sought : Bool → Look
look_of_sought is_there = without_body (if is_there then OK else NO_WATCHER)

-- A request that names no watch, with a null path or another kind, counts as one that can't be read.
abbrev pub answer_check_watches : ℕ → World → ℤ → Option SoughtWatch → StepResult World
answer_check_watches n w xid None = answer_unreadable n w xid
answer_check_watches n w xid (Some sought) = send_reply n w xid (look_of_sought (has_sought_watch n w sought))

-- The watch is gone then, and the reply says whether it was there.
abbrev pub answer_remove_watches : ℕ → World → ℤ → Option SoughtWatch → StepResult World
answer_remove_watches n w xid None = answer_unreadable n w xid
answer_remove_watches n w xid (Some sought) =
    send_reply n (with_watches w (without_watch sought.kind n sought.path w.clients.watches)) xid
    (look_of_sought (has_sought_watch n w sought))

-- ---- sessions

abbrev pub touched_as : World → Option ℤ → World
touched_as w None = w
touched_as w (Some session) = with_pending w (touch_session w.clients.pending session)

-- The session of the connection, if it has one, is touched: the leader will be told that its client was heard.
abbrev pub touch_client : ℕ → World → World
touch_client n w = touched_as w (session_of_connection w.clients.sessions n)

-- An id is added; its reply has the zxid 0. If the id is refused, the connection is closed.
abbrev pub send_auth_result : ℕ → World → ℤ → AuthResult → StepResult World
send_auth_result n w xid shows =
    if shows.is_accepted
    then send_or_close n (with_sessions w shows.after) (reply_frame xid (pos 0) (without_body OK))
    else send_last n (with_sessions w shows.after) (reply_frame xid (pos 0) (without_body AUTH_FAILED))

abbrev pub show_id : ℕ → World → ℤ → AuthPacket → StepResult World
show_id n w xid packet = send_auth_result n w xid (add_auth w.clients.sessions n packet.scheme packet.auth)

abbrev pub answer_auth : ℕ → World → ℤ → Option AuthPacket → StepResult World
answer_auth n w xid None = answer_unreadable n w xid
answer_auth n w xid (Some packet) = show_id n w xid packet

-- Sends the ConnectResponse; after a refusal the connection is closed.
abbrev pub send_connect_response : ℕ → Bool → SessionResponse → World → StepResult World
send_connect_response n has_byte response w =
    let frame = Some (answer_to_connect response has_byte) in
    if int_eq response.session_id (pos 0) then send_last n w frame else send_or_close n w frame

abbrev pub refuse_connect : ℕ → Bool → World → StepResult World
refuse_connect n has_byte w = send_connect_response n has_byte refusal_response w

-- The response to a connect. An older connection of its session is closed first.
abbrev pub answer_connect : ℕ → Bool → World → Connected → StepResult World
answer_connect n has_byte w connected =
    and_then (close_client_if_some w connected.older) (send_connect_response n has_byte connected.response)

-- The leader is asked to create the session, and the connect waits until it has. No two connects wait for one session.
abbrev pub ask_for_session : ℕ → Bool → World → SessionResponse → StepResult World
ask_for_session n has_byte w response =
    if is_some (connecting_to w.clients.pending response.session_id)
    then refuse_connect n has_byte w
    else record {
      outputs = to_leader (session_request response.session_id response.time_out) ∷ [];
      after =
          with_pending w
          (push_connect w.clients.pending n
          (record {
            kind = New;
            session = response.session_id;
            time_out = response.time_out;
            has_read_only = has_byte;
          }));
    }

-- The client wants a new session, and there is an id for it.
abbrev pub is_new_session : ConnectRequest → SessionResponse → Bool
is_new_session request response = int_eq request.session_id (pos 0) && not (int_eq response.session_id (pos 0))

-- A new session is asked for. One that lives is taken up at once, which touches it; a refusal is sent at once.
abbrev pub ask_or_answer : ℕ → Connecting → Connected → World → StepResult World
ask_or_answer n asked connected w =
    if is_new_session asked.request connected.response
    then ask_for_session n asked.has_byte w connected.response
    else answer_connect n asked.has_byte (touch_client n w) connected

abbrev pub finish_connect : ℕ → World → Connecting → ConnectResult → StepResult World
finish_connect n w asked c = ask_or_answer n asked c.connected (with_sessions w c.after)

-- The leader is asked whether the session lives, and the connect waits for its answer.
abbrev pub ask_about_session : ℕ → Bool → SessionResponse → World → StepResult World
ask_about_session n has_byte response w = record {
  outputs = to_leader (session_question response.session_id response.time_out) ∷ [];
  after =
      with_pending w
      (push_connect w.clients.pending n
      (record {
        kind = Claimed;
        session = response.session_id;
        time_out = response.time_out;
        has_read_only = has_byte;
      }));
}

-- The connection that has the session is closed.
abbrev pub close_holder : ℤ → World → StepResult World
close_holder session w = close_client_if_some w (connection_of w.clients.sessions session)

-- The connection whose connect waits for the session is closed.
abbrev pub close_waiting : ℤ → World → StepResult World
close_waiting session w = close_client_if_some w (connecting_to w.clients.pending session)

abbrev pub close_others : ℤ → World → StepResult World
close_others session w = and_then (close_holder session w) (close_waiting session)

-- The client takes the place of others that have the session, or ask for it.
abbrev pub claim_session : ℕ → Bool → World → SessionResponse → StepResult World
claim_session n has_byte w response =
    and_then (close_others response.session_id w) (ask_about_session n has_byte response)

-- A client that claims a session without its password is refused.
abbrev pub claim_or_refuse : ℕ → Bool → World → Option SessionResponse → StepResult World
claim_or_refuse n has_byte w None = refuse_connect n has_byte w
claim_or_refuse n has_byte w (Some response) = claim_session n has_byte w response

-- Where sessions move between servers, a client that names a session claims it: only the leader knows whether it lives,
-- and which server has it.
abbrev pub is_claim : World → ConnectRequest → Bool
is_claim w request = (reads_of w.settings.dialect).moved_sessions && not (int_eq request.session_id (pos 0))

-- A client may connect where clients are served, if it hasn't seen a zxid above the last one.
abbrev pub may_connect : Bool → World → ConnectRequest → Bool
may_connect serving w request = serving && not (int_lt w.replica.learner.last_zxid request.last_zxid_seen)

-- A session lives while the tree has it.
abbrev pub is_live : ℤ → World → Bool
is_live session w = finmap.contains_key w.replica.tree.sessions session

-- What the sessions make of a connect.
abbrev pub connect_result : ℕ → World → ConnectRequest → ConnectResult
connect_result n w request =
    connect_session w.clients.sessions n (is_live request.session_id w) (session_request_of request)

-- A client that may connect claims the session that it names, or is connected by what this server knows.
abbrev pub connect_client : ℕ → World → Connecting → StepResult World
connect_client n w c =
    if is_claim w c.request
    then claim_or_refuse n c.has_byte w (claimed_session w.clients.sessions (session_request_of c.request))
    else finish_connect n w c (connect_result n w c.request)

abbrev pub handle_connect : Bool → ℕ → World → Result Connecting Fault → StepResult World
handle_connect serving n w (Err e) = close_client n w
handle_connect serving n w (Ok c) =
    if may_connect serving w c.request then connect_client n w c else close_client n w

-- ---- requests that this server answers

-- A request is answered at the present state.
abbrev pub handle_local : ℕ → World → ℤ → LocalCall → StepResult World
handle_local n w xid (locals.Read r) = answer_read n w xid r
handle_local n w xid (locals.SetWatches r) =
    answer_set_watches n w xid (renew_watches w.settings.dialect w.replica.tree r)
handle_local n w xid (locals.SetWatches2 r) =
    answer_set_watches n w xid (Some (renew_all_watches w.replica.tree r))
handle_local n w xid (locals.AddWatch r) = answer_add_watch n w xid (watch_to_add w.settings.dialect r)
handle_local n w xid (locals.CheckWatches r) = answer_check_watches n w xid (watch_sought r)
handle_local n w xid (locals.RemoveWatches r) = answer_remove_watches n w xid (watch_sought r)
handle_local n w xid (locals.MultiRead parts) = answer_multi_read n w xid parts
handle_local n w xid (locals.GetEphemerals r) = answer_ephemerals n w xid r.path
handle_local n w xid (locals.GetAllChildrenNumber r) = answer_below n w xid r.path
handle_local n w xid locals.WhoAmI = answer_who_am_i n w xid
handle_local n w xid (locals.Sasl r) = answer_sasl n w xid r.token
handle_local n w xid locals.InvalidPath = send_reply n w xid (without_body BAD_ARGUMENTS)
handle_local n w xid locals.Unreadable = answer_unreadable n w xid
handle_local n w xid locals.Ping = send_reply n w PING_XID (without_body OK)
handle_local n w xid locals.Refused = send_reply n w xid (without_body NOT_READ_ONLY)
handle_local n w xid locals.Unknown = answer_unknown n w xid

-- It is answered in its turn: while an earlier request of the connection waits, the frame is held.
abbrev pub handle_or_hold : ℕ → World → List ℕ → ℤ → LocalCall → StepResult World
handle_or_hold n w frame xid call =
    if is_idle w.clients.pending n then handle_local n w xid call
    else no_output (with_pending w (hold_frame w.clients.pending n frame))

-- ---- requests for the leader

-- The frame goes to the leader as it came, with the ids of the connection, and waits for the leader's answer.
abbrev pub forward_frame : ℕ → ℤ → World → List ℕ → PendingTable → StepResult World
forward_frame n session w frame pending = record {
  outputs = to_leader (request_of session frame (ids_of w.clients.sessions n)) ∷ [];
  after = with_pending w pending;
}

abbrev pub with_leaving : ℕ → World → Option OpenConnection → World
with_leaving n w None = w
with_leaving n w (Some connection) =
    record w { clients = with_connection n (record connection { is_leaving = true }) w.clients }

-- After a closeSession nothing more is taken of the connection.
abbrev pub leave_if_closing : ℕ → WriteKind → World → World
leave_if_closing n kind w = if is_close kind then with_leaving n w (finmap.get w.clients.connections n) else w

-- ---- frames

-- Writes and syncs are forwarded at once, and an id is added at once, whatever waits.
abbrev pub handle_call : ℕ → ℤ → World → List ℕ → ℤ → CallBody → StepResult World
handle_call n session w frame xid (bodies.Forward kind) =
    forward_frame n session (leave_if_closing n kind w) frame (push_write w.clients.pending n xid kind)
handle_call n session w frame xid (bodies.Sync path) =
    forward_frame n session w frame (push_sync w.clients.pending n xid path)
handle_call n session w frame xid (bodies.Auth packet) = answer_auth n w xid packet
handle_call n session w frame xid (bodies.Local call) = handle_or_hold n w frame xid call

-- A frame whose header can't be read closes the connection.
abbrev pub serve_as : ℕ → ℤ → World → List ℕ → Result Call Fault → StepResult World
serve_as n session w frame (Ok c) = handle_call n session w frame c.xid c.body
serve_as n session w frame (Err e) = close_client n w

-- The first frame is a ConnectRequest. While that waits for its session, the frames after it are held whole.
abbrev pub connect_or_hold : Bool → ℕ → World → List ℕ → StepResult World
connect_or_hold serving n w frame =
    if is_idle w.clients.pending n then handle_connect serving n w (connecting_in frame)
    else no_output (with_pending w (hold_frame w.clients.pending n frame))

-- The call of a frame, in the dialect of the clients.
abbrev pub call_of : World → List ℕ → Result Call Fault
call_of w frame = call_in w.settings.dialect frame

abbrev pub serve_by : Bool → ℕ → World → List ℕ → Option ℤ → StepResult World
serve_by serving n w frame None = connect_or_hold serving n w frame
serve_by serving n w frame (Some session) = serve_as n session w frame (call_of w frame)

-- The bytes of a request's header.
abbrev pub header_len : ℕ
header_len = 8

-- A frame that is too short for a header closes the connection, and so does one that comes while as many requests wait
-- as may.
abbrev pub is_refused_frame : ℕ → World → List ℕ → Bool
is_refused_frame n w frame = is_full w.clients.pending n || nat_lt (length frame) header_len

abbrev pub serve_frame : Bool → ℕ → World → List ℕ → StepResult World
serve_frame serving n w frame =
    let v = touch_client n w in
    if is_refused_frame n v frame then close_client n v
    else serve_by serving n v frame (session_of_connection v.clients.sessions n)

-- ---- words

-- A watch with the session of its connection. The session is 0 if the connection has none.
abbrev pub watch_row_of : Sessions → Watched → WatchRow
watch_row_of sessions watched = record {
  path = watched.path;
  connection = watched.connection;
  session = unwrap_or (session_of_connection sessions watched.connection) (pos 0);
  table = watched.table;
}

-- All watches, in the order of their paths.
abbrev pub watch_rows : Clients → List WatchRow
watch_rows c = map (watch_row_of c.sessions) (summary c.watches)

-- The figures that the answers to words are made of, with these counts, and these watches listed.
abbrev pub figures_with : Bool → World → WatchCounts → List WatchRow → Figures
figures_with serving w watched watches = record {
  serving = serving;
  last = w.replica.learner.last_zxid;
  connections = finmap.len w.clients.sessions.connections;
  paths = finmap.len w.replica.tree.nodes;
  pairs = set.len w.replica.tree.pairs;
  watched = watched;
  watches = watches;
  timeouts = w.replica.tree.sessions;
  ephemerals = w.replica.tree.pairs;
}

abbrev pub figures_of : Bool → World → Figures
figures_of serving w = figures_with serving w (counts_of w.clients.watches) (watch_rows w.clients)

-- A word is answered, and the connection is closed.
abbrev pub tell_word : Bool → ℕ → World → Word → StepResult World
tell_word serving n w word = send_last n w (Some (reply_text word (figures_of serving w)))

-- A connection that has a session, or whose connect waits, can't send a word.
abbrev pub word_without_session : Option ℤ → Option Word → Option Word
word_without_session None word = word
word_without_session (Some session) word = None

-- The word in a connection's first four bytes; fewer bytes are none.
abbrev pub word_at : ℕ → World → List ℕ → Option Word
word_at n w bytes =
    if is_idle w.clients.pending n
    then word_without_session (session_of_connection w.clients.sessions n) (word_of (take 4 bytes)) else None

-- ---- bytes

-- Nothing more is taken of the connection.
abbrev pub is_unheard : ℕ → World → Bool
is_unheard n w = not (is_heard n w.clients)

abbrev pub with_waiting_bytes : ℕ → World → OpenConnection → List ℕ → World
with_waiting_bytes n w connection rest =
    record w { clients = with_connection n (record connection { rest = rest }) w.clients }

-- The bytes after the last whole frame wait for more. A length out of bounds closes the connection.
abbrev pub wait_or_close : ℕ → World → OpenConnection → Unread → StepResult World
wait_or_close n w connection (Ok rest) = no_output (with_waiting_bytes n w connection rest)
wait_or_close n w connection (Err e) = close_client n w

abbrev pub wait_if_heard : ℕ → World → Option OpenConnection → Unread → StepResult World
wait_if_heard n w None left = no_output w
wait_if_heard n w (Some connection) left = wait_or_close n w connection left

-- The longest frame that a client may send, in bytes.
abbrev pub client_frame_limit : ℕ
client_frame_limit = 1048575

-- A client's stream is a sequence of frames.
abbrev pub frames_of_client : PhasedStream (Unit {0}) (List ℕ)
frames_of_client = stream_of (frame_format client_frame_limit)

-- Keeps the bytes after the frames, if the connection is still heard.
abbrev pub wait_at : ℕ → Unread → World → StepResult World
wait_at n left w = wait_if_heard n w (heard_connection n w.clients) left

-- Serves all frames found, as long as the connection is heard, and keeps the bytes after them.
abbrev pub serve_all : Bool → ℕ → World → Items (Unit {0}) (List ℕ) → StepResult World
serve_all serving n w found = and_then (fold_steps (is_unheard n) (serve_frame serving n) w found.found)
    (wait_at n found.left.unread)

-- A connection's bytes are a four-letter word, or frames.
abbrev pub tell_or_serve : Bool → ℕ → World → List ℕ → Option Word → StepResult World
tell_or_serve serving n w bytes None = serve_all serving n w (items_in frames_of_client (place_at tt bytes))
tell_or_serve serving n w bytes (Some word) = tell_word serving n w word

-- The bytes of a connection that isn't open, or that is leaving, are ignored.
abbrev pub take_client_bytes : Bool → ℕ → World → Option OpenConnection → List ℕ → StepResult World
take_client_bytes serving n w None bytes = no_output w
take_client_bytes serving n w (Some connection) bytes =
    let came = connection.rest ++ bytes in
    tell_or_serve serving n (with_waiting_bytes n w connection []) came (word_at n w came)

-- ---- connecting and leaving

-- The address of a client counts where the leader's dialect is a later one.
abbrev pub address_for : Option (List ℕ) → Dialect → Option (List ℕ)
address_for None dialect = None
address_for (Some address) Zk34 = None
address_for (Some address) Zk38 = Some address

-- A connection that is already open stays as it is, with its client's address.
abbrev pub open_client : ℕ → Option (List ℕ) → World → World
open_client n address w =
    if is_open n w.clients then w
    else record w { clients = with_connection n (idle_connection (address_for address w.settings.dialect)) w.clients }

-- The client is gone, and nothing is sent to it.
abbrev pub end_client : ℕ → World → World
end_client n w = if is_open n w.clients then record w { clients = without_client n w.clients } else w

-- The connection of the session closes; an id that no connection has is ignored. The session itself is the leader's.
abbrev pub expire_session : World → ℤ → StepResult World
expire_session w session =
    let e = expire_owner w.clients.sessions session in
    close_client_if_some (with_sessions w e.after) e.closed
