-- What the leader's stream answers: connects, writes and syncs that wait, and the frames that are held until then.
use Rattle.std.specs.List.{slice_get}
use Rattle.std.specs.Option.{option_or}
use Rattle.std.specs.Ordering.{int_eq}
use Rattle.settings.specs.Dialects.{reads_of}
use Rattle.std.specs.Prelude.{ℕ, zero, suc, ℤ, List, [], ◌∷◌, Option, Some, None, Result, Ok, Err, Bool, true, false, ◌&&◌, ◌||◌, length, nat_lt, if◌then◌else◌}
use Rattle.values.specs.declared.fault.Fault.{Fault}
use Rattle.txn_codec.specs.declared.txn.Txn.{Txn}
use Rattle.txn_codec.specs.declared.row.SessionChange.{SessionChange}
use Rattle.txn_codec.specs.declared.row.SessionChange.TheVariants as changes
use Rattle.txn_codec.specs.Row.{session_change}
use Rattle.txn_codec.specs.Kinds.{code_of, body_kind}
use Rattle.data_tree.specs.declared.outcome.TxnResults.{TxnResults}
use Rattle.quorum_packet.specs.declared.packet.QuorumPacket.{QuorumPacket}
use Rattle.learner_sync.specs.Answers.{ping_reply, session_rows}
use Rattle.sessions.specs.Sessions.{connection_of, ConnectResult, close_connection, give_session}
use Rattle.client_records.specs.declared.codes.TheConstants.{OK, SESSION_MOVED}
use Rattle.read_processor.specs.Look.{look_of_path, without_body}
use Rattle.read_processor.specs.Reply.{reply_frame}
use Rattle.client_frames.specs.declared.call.Call.{Call}
use Rattle.client_frames.specs.declared.call.CallBody.{CallBody}
use Rattle.client_frames.specs.declared.call.CallBody.TheVariants as calls
use Rattle.write_replies.specs.Replies.{write_look}
use Rattle.forwarding.specs.declared.request.WriteKind.{WriteKind}
use Rattle.forwarding.specs.declared.request.AnsweredWrite.{AnsweredWrite}
use Rattle.forwarding.specs.declared.request.ConnectKind.TheVariants.{New, Claimed}
use Rattle.forwarding.specs.declared.request.PendingConnect.{PendingConnect}
use Rattle.forwarding.specs.declared.request.Ready.{Ready}
use Rattle.forwarding.specs.declared.request.Ready.TheVariants.{SettledSync, HeldFrame}
use Rattle.forwarding.specs.declared.request.Settled.{Settled}
use Rattle.forwarding.specs.declared.request.Settled.TheVariants.{NoSync, Gone, Of}
use Rattle.forwarding.specs.Queue.{pending_limit, found_write, waiting_connect}
use Rattle.forwarding.specs.Pending.{queue_of, is_full, take_ready, answer_write, pending_close, settle_sync, take_connect, awaiting, take_touched}
use Rattle.world.specs.World.{Clients, World}
use Rattle.world.specs.Clients.{with_address_id}
use Rattle.world.specs.Timeouts.{known_timeout}
use Rattle.world.specs.Steps.{StepResult, no_output, and_then, fold_steps}
use Rattle.world.specs.Sending.{to_leader, close_client, send_or_close, send_last, send_reply, with_sessions, with_pending}
use Rattle.client_service.specs.Serve.{answer_connect, refuse_connect, call_of, handle_local, serve_as, client_frame_limit, is_unheard}
use Rattle.leader_answers.specs.declared.due.Due.{Due}
use Rattle.leader_answers.specs.declared.due.Due.TheVariants.{Nothing, Admission, Ending, Reply}

-- ---- what is ready

-- Only requests that this server answers are held.
abbrev pub handle_held : ℕ → World → ℤ → CallBody → StepResult World
handle_held n w xid (calls.Local call) = handle_local n w xid call
handle_held n w xid body = no_output w

abbrev pub serve_held : ℕ → World → Result Call Fault → StepResult World
serve_held n w (Ok c) = handle_held n w c.xid c.body
serve_held n w (Err e) = close_client n w

-- A sync is answered with its path, and a held frame as if it came now.
abbrev pub answer_ready : ℕ → World → Ready → StepResult World
answer_ready n w (SettledSync xid path) = send_reply n w xid (look_of_path path)
answer_ready n w (HeldFrame frame) = serve_held n w (call_of w frame)

abbrev pub answer_if_ready : ℕ → World → Option Ready → (World → StepResult World) → StepResult World
answer_if_ready n w None next = no_output w
answer_if_ready n w (Some ready) next = and_then (answer_ready n w ready) next

-- The requests in front are answered one after the other, up to the first that isn't ready, and at most so many.
abbrev pub answer_up_to : ℕ → ℕ → World → StepResult World
answer_up_to zero n w = no_output w
answer_up_to (suc most) n w =
    let taken = take_ready w.clients.pending n in
    answer_if_ready n (with_pending w taken.after) taken.ready (answer_up_to most n)

-- All requests in front that are ready are answered: a connection has no more than the limit.
abbrev pub answer_front : ℕ → World → StepResult World
answer_front n w = answer_up_to pending_limit n w

-- ---- whom a transaction answers

-- The type of a transaction, as a number.
abbrev pub txn_number : Txn → ℤ
txn_number t = code_of (body_kind t.body)

-- The connection waits for this session.
abbrev pub admission_of : Option ℕ → Due
admission_of None = Nothing
admission_of (Some n) = Admission n

-- The connection that has the session, or the one that claims it.
abbrev pub connection_with : Clients → ℤ → Option ℕ
connection_with c session = option_or (connection_of c.sessions session) (awaiting c.pending session Claimed)

-- The connection loses the session that ends.
abbrev pub ending_of : Option ℕ → Due
ending_of None = Nothing
ending_of (Some n) = Ending n

abbrev pub reply_as : ℕ → Option AnsweredWrite → Due
reply_as n None = Nothing
reply_as n (Some write) = Reply n write

-- The oldest write of the connection that has the transaction's session is answered, if it is this one.
abbrev pub reply_of : Clients → Txn → Option ℕ → Due
reply_of c t None = Nothing
reply_of c t (Some n) = reply_as n (found_write (queue_of c.pending n) t.header.cxid (txn_number t))

abbrev pub due_by : Clients → Txn → SessionChange → Due
due_by c t (changes.Begins time_out) = admission_of (awaiting c.pending t.header.client_id New)
due_by c t changes.Ends = ending_of (connection_with c t.header.client_id)
due_by c t changes.Nothing = reply_of c t (connection_of c.sessions t.header.client_id)

-- What the transaction brings to a client here. Neither the tree nor the watches matter for that.
abbrev pub answer_due : Clients → Txn → Due
answer_due c t = due_by c t (session_change t.body)

abbrev pub is_due : Due → Bool
is_due Nothing = false
is_due (Admission n) = true
is_due (Ending n) = true
is_due (Reply n write) = true

-- Whether the transaction answers a client.
abbrev pub lets_answer : Clients → Txn → Bool
lets_answer c t = is_due (answer_due c t)

-- ---- a write

-- The leader refuses the write, since another server has the session now.
abbrev pub has_moved : World → TxnResults → Bool
has_moved w results = (reads_of w.settings.dialect).moved_sessions && int_eq results.err SESSION_MOVED

-- The reply has the zxid of the transaction. The requests that waited only for this write are answered after it.
abbrev pub send_write_reply : ℕ → World → Txn → TxnResults → WriteKind → StepResult World
send_write_reply n w t results kind =
    let v = with_pending w (answer_write w.clients.pending n t.header.cxid (txn_number t)).after in
    let seen = write_look w.replica.tree kind t.body results in
    and_then (send_or_close n v (reply_frame t.header.cxid t.header.zxid seen)) (answer_front n)

-- Where the session has moved there is no reply, and the connection closes.
abbrev pub answer_write_as : ℕ → World → Txn → TxnResults → WriteKind → StepResult World
answer_write_as n w t results kind =
    if has_moved w results then close_client n w else send_write_reply n w t results kind

-- ---- a session that was created

-- A frame that was held until its connection had a session. None is longer than a client's may be.
abbrev pub serve_next : ℕ → ℤ → World → List ℕ → StepResult World
serve_next n session w frame =
    if is_full w.clients.pending n || nat_lt client_frame_limit (length frame) then close_client n w
    else serve_as n session w frame (call_of w frame)

-- The address of the connection's client is an id of the connection.
abbrev pub with_known_address : ℕ → World → World
with_known_address n w = record w { clients = with_address_id n w.clients }

-- A client that was admitted: its address is an id of the connection, and the frames that were held are served, as if
-- they came now.
abbrev pub serve_admitted : ℕ → ℤ → List (List ℕ) → World → StepResult World
serve_admitted n session frames w =
    fold_steps (is_unheard n) (serve_next n session) (with_known_address n w) frames

-- The connection has the session that it asked for, and is answered. Then the frames that were held are served.
abbrev pub admit_with : ℕ → World → PendingConnect → List (List ℕ) → ConnectResult → StepResult World
admit_with n w connect frames given =
    and_then (answer_connect n connect.has_read_only (with_sessions w given.after) given.connected)
    (serve_admitted n connect.session frames)

-- A connection whose connect waits has no session; one that had a session would lose it.
abbrev pub admit_as : ℕ → World → List (List ℕ) → Option PendingConnect → StepResult World
admit_as n w frames None = no_output w
admit_as n w frames (Some connect) =
    admit_with n w connect frames
    (give_session (close_connection w.clients.sessions n) n connect.session connect.time_out)

abbrev pub admit_client : ℕ → World → StepResult World
admit_client n w =
    let taken = take_connect w.clients.pending n in
    admit_as n (with_pending w taken.after) taken.frames taken.connect

-- ---- a session that a client claims

-- The connect that waits is refused.
abbrev pub refuse_as : ℕ → World → Option PendingConnect → StepResult World
refuse_as n w None = no_output w
refuse_as n w (Some connect) = refuse_connect n connect.has_read_only w

abbrev pub refuse_client : ℕ → World → StepResult World
refuse_client n w = refuse_as n w (waiting_connect (queue_of w.clients.pending n))

abbrev pub answer_claim : World → Option ℕ → Bool → StepResult World
answer_claim w None lives = no_output w
answer_claim w (Some n) lives = if lives then admit_client n w else refuse_client n w

-- The leader says whether the session lives, and is this server's now. The client that claims it, if there is one, is
-- admitted or refused.
abbrev pub answer_revalidated : World → ℤ → Bool → StepResult World
answer_revalidated w session lives = answer_claim w (awaiting w.clients.pending session Claimed) lives

-- ---- a session that has ended

-- A closeSession that waits is answered, whatever waits before it, and the connection closes.
abbrev pub close_ended : ℕ → World → ℤ → Option ℤ → StepResult World
close_ended n w zxid None = close_client n w
close_ended n w zxid (Some xid) = send_last n w (reply_frame xid zxid (without_body OK))

-- ---- a transaction

abbrev pub give_answer : World → Txn → TxnResults → Due → StepResult World
give_answer w t results Nothing = no_output w
give_answer w t results (Admission n) = admit_client n w
give_answer w t results (Ending n) = close_ended n w t.header.zxid (pending_close w.clients.pending n)
give_answer w t results (Reply n write) = answer_write_as n w t results write.kind

-- A transaction that was applied, with these results, answers the client that it concerns.
abbrev pub answer_txn : World → Txn → TxnResults → StepResult World
answer_txn w t results = give_answer w t results (answer_due w.clients t)

-- What the transaction brings, if there is one.
abbrev pub due_of : Clients → Option Txn → Due
due_of c None = Nothing
due_of c (Some t) = answer_due c t

-- What the transaction at this place of the log brings.
abbrev pub due_in_log : World → ℕ → Due
due_in_log w place = due_of w.clients (slice_get w.replica.learner.log place)

abbrev pub answer_optional_txn : World → TxnResults → Option Txn → StepResult World
answer_optional_txn w results None = no_output w
answer_optional_txn w results (Some t) = answer_txn w t results

-- The transaction at this place of the log was applied, with these results.
abbrev pub answer_applied_txn : World → ℕ → TxnResults → StepResult World
answer_applied_txn w place results = answer_optional_txn w results (slice_get w.replica.learner.log place)

-- ---- a sync

abbrev pub answer_settled : World → Settled → StepResult World
answer_settled w NoSync = no_output w
answer_settled w Gone = no_output w
answer_settled w (Of n) = answer_front n w

-- The leader has done the oldest sync that was forwarded.
abbrev pub answer_sync : World → StepResult World
answer_sync w =
    let s = settle_sync w.clients.pending in
    answer_settled (with_pending w s.after) s.settled

-- ---- a PING

-- The timeout of a session: where sessions move between servers, the one that its connection was told here comes before
-- the tree's.
abbrev pub timeout_in : World → ℤ → Option ℤ
timeout_in w session =
    known_timeout (reads_of w.settings.dialect).moved_sessions w.clients.sessions w.replica.tree.sessions session

-- A PING is answered with the sessions that were touched and live, each with its timeout. They are no longer touched
-- then, but for those that the table has no room for.
abbrev pub answer_ping : World → QuorumPacket → StepResult World
answer_ping w ping =
    let told = take_touched w.clients.pending (timeout_in w) in
    record {
      outputs = to_leader (ping_reply ping (session_rows told.rows)) ∷ [];
      after = with_pending w told.after;
    }
