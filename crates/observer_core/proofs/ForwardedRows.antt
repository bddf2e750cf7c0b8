-- The worked rows of requests that are forwarded to the leader by a server 3, and answered by its stream.
use Rattle.std.proofs.Common.{◌≡◌, ◌&&◌, ℕ, ◌+◌, suc, List, [], ◌∷◌, ◌++◌, Option, Some, None, Ok, Bool, true, false, cond, refl, ap, ◌∙◌, arith, rules}
use Rattle.std.specs.Prelude.{ℤ, pos, negsuc, codes}
use Rattle.std.specs.FinMap as finmap
use Rattle.std.specs.FinSet as set
use Rattle.std.specs.Ordering.{nat_cmp, int_cmp, int_eq}
use Rattle.std.proofs.lemmas.Cmp.{int_cmp_total}
use Rattle.std.proofs.lemmas.Str.{is_utf8-from_IsUtf8}
use Rattle.values.specs.Hex.{hex_bytes}
use Rattle.jute.specs.Format.{judged_at, buffer_at, vector_at, read_n, number_bytes}
use Rattle.jute.specs.Frame.{frame_at}
use Rattle.jute.specs.Owned.{id_in, acl_in}
use Rattle.jute.specs.Records.{request_header, reply_header}
use Rattle.jute.specs.declared.owned.Id.{Id}
use Rattle.jute.specs.Stream.{Items, items_within, items_in, place_at}
use Rattle.client_records.specs.declared.codes.TheConstants.{SESSION_MOVED}
use Rattle.client_records.specs.declared.kind.RequestKind.TheVariants as kinds
use Rattle.client_records.specs.Kinds.{kind_of as request_kind_of, request_kind_in}
use Rattle.client_records.specs.Requests.{path_alone}
use Rattle.client_records.specs.Responses.{path_response}
use Rattle.quorum_packet.specs.declared.item.Item.{Item}
use Rattle.quorum_packet.specs.declared.item.Item.TheVariants as item
use Rattle.quorum_packet.specs.declared.packet.QuorumPacket.{QuorumPacket}
use Rattle.quorum_packet.specs.declared.phase.Phase.{Phase}
use Rattle.quorum_packet.specs.declared.phase.Phase.TheVariants.{Packets}
use Rattle.quorum_packet.specs.Kinds.{kind_of}
use Rattle.quorum_packet.specs.Packet.{packet_format}
use Rattle.quorum_packet.specs.Items.{items_shown_at}
use Rattle.settings.specs.Dialects.{reads_of}
use Rattle.settings.specs.declared.dialect.Dialect.{Dialect}
use Rattle.settings.specs.declared.dialect.Dialect.TheVariants.{Zk34}
use Rattle.data_tree.specs.declared.outcome.TxnResults.{TxnResults}
use Rattle.txn_codec.specs.declared.txn.TxnHeader.{TxnHeader}
use Rattle.txn_codec.specs.declared.txn.Body.TheVariants as bodies
use Rattle.txn_codec.specs.declared.txn.Operation.{Operation}
use Rattle.txn_codec.specs.declared.txn.Operation.TheVariants as operations
use Rattle.txn_codec.specs.declared.txn.Txn.{Txn}
use Rattle.txn_codec.specs.Spelling.{txn_format}
use Rattle.node_map.specs.declared.node.Node.{Node}
use Rattle.data_tree.specs.Meaning.{effect_of_txn, answer_of, create_new, create_taken, create_under, of_effect}
use Rattle.learner_sync.specs.Answers.{request_of}
use Rattle.sessions.specs.State.{SessionOwners}
use Rattle.sessions.specs.Sessions.{close_if_some, connection_of}
use Rattle.sessions.specs.Credentials.{session_id_of}
use Rattle.watch_manager.specs.Watches.{FireResult}
use Rattle.forwarding.specs.declared.request.PendingRequest.{PendingRequest}
use Rattle.forwarding.specs.declared.request.PendingRequest.TheVariants.{Write}
use Rattle.forwarding.specs.declared.request.AnsweredWrite.{AnsweredWrite}
use Rattle.forwarding.specs.declared.request.WriteKind.TheVariants as writes
use Rattle.forwarding.specs.Queue.{RequestQueue, found_write, after_answer, settled_request, with_oldest_settled, ready_request, without_front_if}
use Rattle.forwarding.specs.State.{PendingTable}
use Rattle.forwarding.specs.Pending.{queue_in, queue_of, put_queue, push_write, push_sync, unsettled_sync, answer_write, take_ready}
use Rattle.read_processor.specs.Look.{look_of_path, without_body}
use Rattle.read_processor.specs.Reply.{reply_frame}
use Rattle.client_frames.specs.declared.call.CallBody.TheVariants.{Forward, Sync}
use Rattle.client_frames.specs.Call.{call_in, call_after_header, call_body, sync_of, value_if_read}
use Rattle.world.specs.declared.world.Settings.{Settings}
use Rattle.world.specs.declared.output.Output.TheVariants.{ToLeader, ToClient}
use Rattle.world.specs.World.{World}
use Rattle.world.specs.Steps.{StepResult, prepend_outputs, no_output, and_then, fold_steps}
use Rattle.world.specs.Sending.{close_client, send_or_close, with_pending}
use Rattle.client_service.specs.Serve.{forward_frame, serve_as, serve_frame, frames_of_client}
use Rattle.leader_answers.specs.Answering.{answer_up_to, answer_front, answer_if_ready, txn_number, reply_as, reply_of, send_write_reply, give_answer, answer_applied_txn, answer_sync}
use Rattle.write_replies.specs.Replies.{write_look}
use Rattle.world.proofs.NatMaps.{get-inserted, get-removed}
use Rattle.observer_core.specs.declared.event.Event.TheVariants.{LeaderBytes, ClientBytes}
use Rattle.observer_core.specs.Machine.{Machine}
use Rattle.observer_core.specs.Leader.{item_step, deliver_item, is_refused, part_reader, leader_at, with_leader_or_fault, place_after, take_leader_bytes}
use Rattle.observer_core.specs.Play.{play_event, play, primed_session, first_client}
use Rattle.observer_core.specs.Rows.{framed_create, request_of_create, inform_of_forwarded, reply_of_forwarded, inform_of_error, reply_of_error, sync_frame, request_of_sync, sync_packet, reply_of_sync}
use Rattle.observer_core.proofs.Rows.{earlier_machine, ReadAgain, NobodyTold, path_is_text, world_is_text, anyone_is_text, text_fits, create_body, root, root_there, name_free, start, packet_of, one_packet, one_frame, pending_at, heard, nobody_yet, clients_at, joined_first, no_ids_first, world_with, world_at, beginning, led, one_delivered, told, told_by, inform_comes, in_hand, frame_served, first_open, served_at}

-- ---- the session of connection 1

abbrev pub first_id : ℤ
first_id = pos 216172782113783809

-- Those of server 3, whose session ids begin with the counter 1.
abbrev pub IsThird : Settings → Type 0
IsThird settings = (settings.server_id ≡ pos 3) × (settings.first_counter ≡ 0)

-- Sessions don't move between servers.
abbrev pub SessionsStay : Settings → Type 0
SessionsStay settings = (reads_of settings.dialect).moved_sessions ≡ false

pub id_is : (settings : Settings) → IsThird settings → primed_session settings ≡ first_id
unfolding session_id_of
id_is settings three = λ i. session_id_of (three.0 i) (three.1 i + 1)

connected : (settings : Settings) → IsThird settings
    → connection_of (first_client settings).sessions first_id ≡ Some 1
connected settings three =
    let owners : ℤ → SessionOwners = λ (id : ℤ). (close_if_some (nobody_yet settings)
    (connection_of (nobody_yet settings) id)).owners in
    ap (λ (id : ℤ). finmap.get {R = int_cmp} (finmap.insert (owners id) id 1) first_id) (id_is settings three)
    ∙ finmap.get-insert int_cmp_total (owners first_id) first_id 1 first_id

-- ---- a request is forwarded

-- A world in which connection 1 waits.
abbrev pub waiting_world : Settings → PendingTable → World
waiting_world settings pending =
    world_with settings (pos 0) [] (start settings) (record (clients_at settings set.empty []) { pending = pending })

abbrev pub waiting_machine : Settings → PendingTable → Machine
waiting_machine settings pending = record { leader = Some beginning; world = waiting_world settings pending }

-- Nothing waits, and the first session was touched.
abbrev pub once_heard : Settings → PendingTable
once_heard settings = pending_at (heard settings set.empty)

abbrev asking_leader : List ℕ → World → StepResult World
asking_leader request w = record { outputs = ToLeader request ∷ []; after = w }

forwarded_as : (settings : Settings) (frame request : List ℕ) (pending : PendingTable) → IsThird settings
    → packet_format.written (request_of first_id frame []) ≡ request
    → forward_frame 1 (primed_session settings) (waiting_world settings (once_heard settings)) frame pending
    ≡ asking_leader request (waiting_world settings pending)
forwarded_as settings frame request pending three written =
    let w = waiting_world settings pending in
    ap (λ (ids : List Id). asking_leader (packet_format.written (request_of (primed_session settings) frame ids)) w)
    (no_ids_first settings)
    ∙ ap (λ (id : ℤ). asking_leader (packet_format.written (request_of id frame [])) w) (id_is settings three)
    ∙ ap (λ (bytes : List ℕ). asking_leader bytes w) written

frame_comes : (settings : Settings) (bytes frame request : List ℕ) (pending : PendingTable)
    → items_in frames_of_client (place_at tt bytes) ≡ one_frame frame
    → serve_frame true 1 (world_at settings (pos 0) [] (start settings) set.empty []) frame
    ≡ asking_leader request (waiting_world settings pending)
    → play_event (earlier_machine settings) (ClientBytes 1 bytes)
    ≡ record { outputs = ToLeader request ∷ []; after = waiting_machine settings pending }
frame_comes settings bytes frame request pending found served =
    in_hand settings (pos 0) [] (start settings) set.empty [] bytes
    ∙ frame_served 1 (world_at settings (pos 0) [] (start settings) set.empty []) (waiting_world settings pending)
    bytes frame (ToLeader request) first_open first_open found served

-- The requests of a connection after one was added to none.
pub queue_is : (n : ℕ) (r : PendingRequest) → queue_in (finmap.get (finmap.insert {R = nat_cmp} finmap.empty n
    (queue_in (finmap.get {K = ℕ} {X = RequestQueue} {R = nat_cmp} finmap.empty n) ++ r ∷ [])) n) ≡ r ∷ []
queue_is n r =
    let none = queue_in (finmap.get {K = ℕ} {X = RequestQueue} {R = nat_cmp} finmap.empty n) in
    ap queue_in (get-inserted {X = RequestQueue} finmap.empty n (none ++ r ∷ []))
    ∙ ap (λ (o : Option RequestQueue). queue_in o ++ r ∷ []) (finmap.get-empty nat_cmp n)

-- The leader's event, after the client's.
both_come : (settings : Settings) (bytes more : List ℕ) (request reply : List ℕ) (pending : PendingTable)
    (end : Machine)
    → play_event (earlier_machine settings) (ClientBytes 1 bytes)
    ≡ record { outputs = ToLeader request ∷ []; after = waiting_machine settings pending }
    → play_event (waiting_machine settings pending) (LeaderBytes more)
    ≡ record { outputs = ToClient 1 reply ∷ []; after = end }
    → (play (earlier_machine settings) (ClientBytes 1 bytes ∷ LeaderBytes more ∷ [])).outputs
    ≡ ToLeader request ∷ ToClient 1 reply ∷ []
both_come settings bytes more request reply pending end first second =
    ap (λ (h : StepResult Machine). h.outputs ++ (play h.after (LeaderBytes more ∷ [])).outputs) first
    ∙ ap (λ (h : StepResult Machine). ToLeader request ∷ (h.outputs ++ [])) second

-- ---- a create

abbrev header : TxnHeader
header = record { client_id = first_id; cxid = pos 4; zxid = pos 4294967297; time = pos 1000; rules = Zk34 }

abbrev create_txn : Txn
create_txn = record { header = header; body = bodies.Single (operations.Create create_body) }

abbrev error_txn : Txn
error_txn = record { header = header; body = bodies.Single (operations.Error (negsuc 109)) }

create_fits : txn_format.Fits create_txn
unfolding acl_in id_in
create_fits =
    let path = text_fits (codes "/a") path_is_text (omega arith) in
    let world = text_fits (codes "world") world_is_text (omega arith) in
    let anyone = text_fits (codes "anyone") anyone_is_text (omega arith) in (
      (refl, search rules),
      (
        (refl, search rules),
        (
          refl,
          (
            refl,
            (
              refl,
              (
                (refl, path),
                (
                  omega arith,
                  (
                    (omega arith, ((search rules, ((refl, world), (refl, anyone))), tt)),
                    (refl, (tt, search rules)),
                  ),
                ),
              ),
            ),
          ),
        ),
      ),
    )

error_fits : txn_format.Fits error_txn
error_fits = ((refl, search rules), ((refl, search rules), (refl, (refl, search rules))))

create_found : items_shown_at (place_at (Packets Zk34) inform_of_forwarded)
    ≡ one_packet (packet_of (pos 4294967297) (txn_format.written create_txn))
unfolding items_within packet_format judged_at buffer_at vector_at read_n number_bytes acl_in id_in
create_found = refl

error_found : items_shown_at (place_at (Packets Zk34) inform_of_error)
    ≡ one_packet (packet_of (pos 4294967297) (txn_format.written error_txn))
unfolding items_within packet_format judged_at buffer_at vector_at read_n number_bytes
error_found = refl

create_error : (settings : Settings) → (answer_of (effect_of_txn (start settings) create_txn)).results.err ≡ pos 0
create_error settings =
    let s = start settings in
    ap (λ (o : Option Node). (of_effect (create_under header create_body o) s).err) root_there
    ∙ ap (λ b. (of_effect (cond b (create_taken header create_body root) (create_new header create_body root))
    s).err) name_free

abbrev frame : List ℕ
frame = hex_bytes (codes "00000004 00000001 00000002 2f61 00000002 6869 ffffffff 00000000")

abbrev frame_body : List ℕ
frame_body = hex_bytes (codes "00000002 2f61 00000002 6869 ffffffff 00000000")

frame_found : items_in frames_of_client (place_at tt framed_create) ≡ one_frame frame
unfolding items_within frame_at judged_at
frame_found = refl

header_read : request_header.read frame ≡ Ok (record { xid = pos 4; kind = pos 1 }, frame_body)
unfolding request_header
header_read = refl

kind_read : (dialect : Dialect) → request_kind_in dialect (pos 1) ≡ Some kinds.Create
unfolding request_kind_of
kind_read dialect = refl

call_read : (dialect : Dialect) → call_in dialect frame ≡ Ok (record { xid = pos 4; body = Forward writes.Create })
call_read dialect =
    ap (call_after_header dialect) header_read
    ∙ ap (λ k. Ok (record { xid = pos 4; body = call_body dialect k frame_body })) (kind_read dialect)

request_written : packet_format.written (request_of first_id frame []) ≡ request_of_create
unfolding packet_format number_bytes
request_written = refl

abbrev create_waits : Settings → PendingTable
create_waits settings = push_write (once_heard settings) 1 (pos 4) writes.Create

create_comes : (settings : Settings) → IsThird settings
    → play_event (earlier_machine settings) (ClientBytes 1 framed_create)
    ≡ record { outputs = ToLeader request_of_create ∷ []; after = waiting_machine settings (create_waits settings) }
create_comes settings three =
    let w = world_at settings (pos 0) [] (start settings) set.empty [] in
    let v = waiting_world settings (once_heard settings) in
    let session = primed_session settings in
    frame_comes settings framed_create frame request_of_create (create_waits settings) frame_found
    (served_at w set.empty session frame (joined_first settings) refl refl
    ∙ ap (serve_as 1 session v frame) (call_read settings.dialect)
    ∙ forwarded_as settings frame request_of_create (create_waits settings) three request_written)

-- No request is left.
front_over : (w : World) (most : ℕ) → queue_of w.clients.pending 1 ≡ []
    → answer_up_to (suc most) 1 w ≡ no_output (with_pending w (take_ready w.clients.pending 1).after)
front_over w most none =
    ap (λ (q : RequestQueue). answer_if_ready 1 (with_pending w (take_ready w.clients.pending 1).after)
    (ready_request q) (answer_up_to most 1)) none

abbrev replying : List ℕ → World → StepResult World
replying reply w = record { outputs = ToClient 1 reply ∷ []; after = w }

-- A transaction of the create answers it.
module _ (settings : Settings) (stay : SessionsStay settings) (three : IsThird settings) (operation : Operation)
    (reply : List ℕ) where
  abbrev t : Txn
  t = record { header = header; body = bodies.Single operation }

  abbrev applied : World
  applied = world_with settings (pos 4294967297) (t ∷ []) (effect_of_txn (start settings) t).state
      (record (clients_at settings set.empty []) { pending = create_waits settings })

  abbrev left : PendingTable
  left = (answer_write (create_waits settings) 1 (pos 4) (txn_number t)).after

  answered : (results : TxnResults)
      → found_write (queue_of (create_waits settings) 1) (pos 4) (txn_number t)
      ≡ Some (record { place = 0; kind = writes.Create })
      → after_answer (queue_of (create_waits settings) 1) (pos 4) (txn_number t) ≡ []
      → reply_frame (pos 4) (pos 4294967297) (write_look applied.replica.tree writes.Create t.body results) ≡ Some reply
      → answer_applied_txn applied 0 results ≡ replying reply (with_pending applied (take_ready left 1).after)
  answered results answers none replies =
      ap (λ (o : Option ℕ). give_answer applied t results (reply_of applied.clients t o)) (connected settings three)
      ∙ ap (λ (write : Option AnsweredWrite). give_answer applied t results (reply_as 1 write)) answers
      ∙ ap (λ (moves : Bool). cond (moves && int_eq results.err SESSION_MOVED) (close_client 1 applied)
      (send_write_reply 1 applied t results writes.Create)) stay
      ∙ ap (λ (f : Option (List ℕ)). and_then (send_or_close 1 (with_pending applied left) f) (answer_front 1)) replies
      ∙ ap (prepend_outputs (ToClient 1 reply ∷ [])) (front_over (with_pending applied left) 1023 empty)
    where
      empty : queue_of left 1 ≡ []
      empty =
          ap (λ (q : RequestQueue). queue_of (put_queue (create_waits settings) 1 q) 1) none
          ∙ ap queue_in (get-removed (create_waits settings).queues 1)

  txn_comes : (again : ReadAgain) (nobody : NobodyTold) (bytes : List ℕ) → txn_format.Fits t
      → items_shown_at (place_at (Packets Zk34) bytes) ≡ one_packet (packet_of (pos 4294967297) (txn_format.written t))
      → answer_applied_txn applied 0 (answer_of (effect_of_txn (start settings) t)).results
      ≡ replying reply (with_pending applied (take_ready left 1).after)
      → play_event (waiting_machine settings (create_waits settings)) (LeaderBytes bytes)
      ≡ (record {
        outputs = ToClient 1 reply ∷ [];
        after = record { leader = Some beginning; world = with_pending applied (take_ready left 1).after };
      })
  txn_comes again nobody bytes fits found replies =
      let w = waiting_world settings (create_waits settings) in
      inform_comes again settings (pos 0) [] (start settings) w.clients bytes (pos 4294967297) t fits found
      ∙ ap (λ (f : FireResult).
      one_delivered w (told_by applied (answer_of (effect_of_txn (start settings) t)).results f))
      (nobody (effect_of_txn (start settings) t).triggers)
      ∙ ap (λ (h : StepResult World). one_delivered w (told [] h)) replies

abbrev waiting_write : PendingRequest
waiting_write = Write (record { xid = pos 4; kind = writes.Create })

create_replied : reply_frame (pos 4) (pos 4294967297) (look_of_path (codes "/a")) ≡ Some reply_of_forwarded
unfolding reply_header path_response number_bytes
create_replied = refl

error_replied : reply_frame (pos 4) (pos 4294967297) (without_body (negsuc 109)) ≡ Some reply_of_error
unfolding reply_header number_bytes
error_replied = refl

pub create_answered : (again : ReadAgain) (nobody : NobodyTold) (settings : Settings) → SessionsStay settings
    → IsThird settings
    → (play (earlier_machine settings) (ClientBytes 1 framed_create ∷ LeaderBytes inform_of_forwarded ∷ [])).outputs
    ≡ ToLeader request_of_create ∷ ToClient 1 reply_of_forwarded ∷ []
create_answered again nobody settings stay three =
    let results = (answer_of (effect_of_txn (start settings) create_txn)).results in
    let tree = (effect_of_txn (start settings) create_txn).state in
    both_come settings framed_create inform_of_forwarded request_of_create reply_of_forwarded (create_waits settings) _
    (create_comes settings three)
    (txn_comes settings stay three (operations.Create create_body) reply_of_forwarded again nobody inform_of_forwarded
    create_fits create_found
    (answered settings stay three (operations.Create create_body) reply_of_forwarded results
    (ap (λ (q : RequestQueue). found_write q (pos 4) (txn_number create_txn)) (queue_is 1 waiting_write))
    (ap (λ (q : RequestQueue). after_answer q (pos 4) (txn_number create_txn)) (queue_is 1 waiting_write))
    (ap (λ (e : ℤ). reply_frame (pos 4) (pos 4294967297)
    (write_look tree writes.Create create_txn.body (record { err = e; parts = [] })))
    (create_error settings) ∙ create_replied)))

pub error_answered : (again : ReadAgain) (nobody : NobodyTold) (settings : Settings) → SessionsStay settings
    → IsThird settings
    → (play (earlier_machine settings) (ClientBytes 1 framed_create ∷ LeaderBytes inform_of_error ∷ [])).outputs
    ≡ ToLeader request_of_create ∷ ToClient 1 reply_of_error ∷ []
error_answered again nobody settings stay three =
    both_come settings framed_create inform_of_error request_of_create reply_of_error (create_waits settings) _
    (create_comes settings three)
    (txn_comes settings stay three (operations.Error (negsuc 109)) reply_of_error again nobody inform_of_error
    error_fits error_found
    (answered settings stay three (operations.Error (negsuc 109)) reply_of_error (record { err = negsuc 109; parts = [] })
    (ap (λ (q : RequestQueue). found_write q (pos 4) (txn_number error_txn)) (queue_is 1 waiting_write))
    (ap (λ (q : RequestQueue). after_answer q (pos 4) (txn_number error_txn)) (queue_is 1 waiting_write))
    error_replied))

-- ---- a sync

abbrev a_sync : List ℕ
a_sync = hex_bytes (codes "00000005 00000009 00000002 2f61")

abbrev sync_body : List ℕ
sync_body = hex_bytes (codes "00000002 2f61")

sync_found : items_in frames_of_client (place_at tt sync_frame) ≡ one_frame a_sync
unfolding items_within frame_at judged_at
sync_found = refl

sync_header : request_header.read a_sync ≡ Ok (record { xid = pos 5; kind = pos 9 }, sync_body)
unfolding request_header
sync_header = refl

sync_kind : (dialect : Dialect) → request_kind_in dialect (pos 9) ≡ Some kinds.Sync
unfolding request_kind_of
sync_kind dialect = refl

path_read : path_alone.read sync_body ≡ Ok (record { path = Some (codes "/a") }, [])
unfolding path_alone judged_at buffer_at
path_read = rw (is_utf8-from_IsUtf8 (codes "/a") path_is_text)

sync_read : (dialect : Dialect) → call_in dialect a_sync ≡ Ok (record { xid = pos 5; body = Sync (codes "/a") })
sync_read dialect =
    ap (call_after_header dialect) sync_header
    ∙ ap (λ k. Ok (record { xid = pos 5; body = call_body dialect k sync_body })) (sync_kind dialect)
    ∙ ap (λ r. Ok (record { xid = pos 5; body = sync_of (value_if_read r) })) path_read

sync_written : packet_format.written (request_of first_id a_sync []) ≡ request_of_sync
unfolding packet_format number_bytes
sync_written = refl

abbrev sync_waits : Settings → PendingTable
sync_waits settings = push_sync (once_heard settings) 1 (pos 5) (codes "/a")

sync_comes : (settings : Settings) → IsThird settings
    → play_event (earlier_machine settings) (ClientBytes 1 sync_frame)
    ≡ (record { outputs = ToLeader request_of_sync ∷ []; after = waiting_machine settings (sync_waits settings) })
sync_comes settings three =
    let w = world_at settings (pos 0) [] (start settings) set.empty [] in
    let v = waiting_world settings (once_heard settings) in
    let session = primed_session settings in
    frame_comes settings sync_frame a_sync request_of_sync (sync_waits settings) sync_found
    (served_at w set.empty session a_sync (joined_first settings) refl refl
    ∙ ap (serve_as 1 session v a_sync) (sync_read settings.dialect)
    ∙ forwarded_as settings a_sync request_of_sync (sync_waits settings) three sync_written)

abbrev leaders_sync : QuorumPacket
leaders_sync = record { kind = pos 7; zxid = pos 0; bytes = None; authinfo = None }

packet_found : items_shown_at (place_at (Packets Zk34) sync_packet) ≡ one_packet leaders_sync
unfolding items_within packet_format judged_at buffer_at vector_at read_n number_bytes
packet_found = refl

sync_replied : reply_frame (pos 5) (pos 0) (look_of_path (codes "/a")) ≡ Some reply_of_sync
unfolding reply_header path_response number_bytes
sync_replied = refl

-- One packet comes.
pub one_item_comes : (w : World) (bytes : List ℕ) (p : QuorumPacket)
    → items_shown_at (place_at (Packets Zk34) bytes) ≡ one_packet p
    → take_leader_bytes part_reader (Some beginning) w bytes ≡ one_delivered w (item_step (led w) (item.Packet p))
one_item_comes w bytes p found =
    ap (λ (i : Items Phase Item). let h =
    fold_steps is_refused (deliver_item item_step) (record { left = led w; fault = None }) i.found in
    prepend_outputs h.outputs (with_leader_or_fault h.after.left.world
    (leader_at h.after.left.loading (place_after i.left h.after.fault)))) found

module _ (settings : Settings) where
  abbrev w : World
  w = waiting_world settings (sync_waits settings)

  sync_taken : item_step (led w) (item.Packet leaders_sync) ≡ told [] (answer_sync w)
  unfolding kind_of
  sync_taken = refl

  packet_comes : take_leader_bytes part_reader (Some beginning) w sync_packet
      ≡ one_delivered w (told [] (answer_sync w))
  packet_comes = one_item_comes w sync_packet leaders_sync packet_found ∙ ap (one_delivered w) sync_taken

  abbrev settled : RequestQueue
  settled = settled_request (unsettled_sync (pos 5) (codes "/a")) ∷ []

  abbrev after_sync : RequestQueue → PendingTable
  after_sync q = record (put_queue (sync_waits settings) 1 q) { syncs = [] }

  abbrev taken : World
  taken = with_pending w (take_ready (after_sync settled) 1).after

  sync_answered : answer_sync w ≡ replying reply_of_sync (with_pending taken (take_ready taken.clients.pending 1).after)
  sync_answered =
      ap (λ (q : RequestQueue). answer_front 1 (with_pending w (after_sync (with_oldest_settled q))))
      (queue_is 1 (unsettled_sync (pos 5) (codes "/a")))
      ∙ ap (λ (q : RequestQueue). answer_if_ready 1 taken (ready_request q) (answer_up_to 1023 1)) settled_front
      ∙ ap (λ (f : Option (List ℕ)). and_then (send_or_close 1 taken f) (answer_up_to 1023 1)) sync_replied
      ∙ ap (prepend_outputs (ToClient 1 reply_of_sync ∷ [])) (front_over taken 1022 none_left)
    where
      settled_front : queue_of (after_sync settled) 1 ≡ settled
      settled_front = ap queue_in (get-inserted (sync_waits settings).queues 1 settled)

      none_left : queue_of taken.clients.pending 1 ≡ []
      none_left =
          ap
          (λ (q : RequestQueue). queue_of (put_queue (after_sync settled) 1 (without_front_if (ready_request q) q)) 1)
          settled_front
          ∙ ap queue_in (get-removed (after_sync settled).queues 1)

pub sync_answers : (settings : Settings) → IsThird settings
    → (play (earlier_machine settings) (ClientBytes 1 sync_frame ∷ LeaderBytes sync_packet ∷ [])).outputs
    ≡ ToLeader request_of_sync ∷ ToClient 1 reply_of_sync ∷ []
sync_answers settings three =
    both_come settings sync_frame sync_packet request_of_sync reply_of_sync (sync_waits settings) _
    (sync_comes settings three)
    (packet_comes settings
    ∙ ap (λ (h : StepResult World). one_delivered (w settings) (told [] h)) (sync_answered settings))
