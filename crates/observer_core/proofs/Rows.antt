-- The worked rows: what the bytes read as, the state after each transaction, and the reply to each request.
use Rattle.std.proofs.Common.{◌≡◌, ◌≤◌, ◌||◌, ℕ, ◌+◌, ◌-◌, List, [], ◌∷◌, ◌++◌, length, slice_get, map, take, not, Option, Some, None, Result, Ok, Bool, true, false, cond, refl, sym, ap, subst, ◌∙◌, arith, rules}
use Rattle.std.specs.Prelude.{ℤ, pos, codes, is_some, nat_lt}
use Rattle.std.specs.List.{AllByRecursion}
use Rattle.std.specs.Cmp.{nat_cmp_total}
use mathlib.Core.Bool.{true≢false}
use Rattle.data_tree.specs.declared.outcome.TxnResults.{TxnResults}
use Rattle.world.proofs.Steps.{goes_on}
use Rattle.std.specs.FinMap as finmap
use Rattle.std.specs.FinSet as set
use Rattle.std.specs.Cmp.Lexicographic.{slice_cmp, nat_list_cmp_total}
use Rattle.std.specs.Str.{IsUtf8}
use lib.Utf8.{encode}
use Rattle.std.proofs.lemmas.Str.{is_utf8-from_IsUtf8}
use Rattle.std.specs.Ordering.{nat_cmp}
use Rattle.values.specs.declared.fault.Fault.{Fault}
use Rattle.values.specs.declared.fault.Fault.TheVariants.{OutOfOrder}
use Rattle.jute.specs.Format.{◌>>=◌, judged_at, buffer_at, buffer_limit, vector_at, text_format, read_n, number_bytes}
use Rattle.jute.specs.Codes.{open_acl}
use Rattle.jute.specs.Frame.{frame_at}
use Rattle.jute.specs.Owned.{id_in, acl_in}
use Rattle.jute.specs.Records.{stat_format, request_header, reply_header}
use Rattle.client_records.specs.declared.kind.ReadKind.TheVariants.{GetData}
use Rattle.client_records.specs.declared.kind.RequestKind.TheVariants as kinds
use Rattle.client_records.specs.Kinds.{kind_of as request_kind_of, request_kind_in}
use Rattle.client_records.specs.Requests.{path_and_watch}
use Rattle.client_records.specs.Responses.{get_data_response}
use Rattle.jute.specs.Stream.{items_within, items_in, Items, Unread, place_at}
use Rattle.quorum_packet.specs.declared.item.Item.{Item}
use Rattle.quorum_packet.specs.declared.item.Item.TheVariants as item
use Rattle.quorum_packet.specs.declared.packet.QuorumPacket.{QuorumPacket}
use Rattle.quorum_packet.specs.declared.phase.Phase.{Phase}
use Rattle.quorum_packet.specs.declared.phase.Phase.TheVariants.{Packets}
use Rattle.quorum_packet.specs.Kinds.{kind_of}
use Rattle.quorum_packet.specs.Packet.{packet_format}
use Rattle.quorum_packet.specs.Items.{items_shown_at}
use Rattle.settings.specs.declared.dialect.Dialect.TheVariants.{Zk34}
use Rattle.txn_codec.specs.declared.txn.TxnHeader.{TxnHeader}
use Rattle.txn_codec.specs.declared.txn.Owner.TheVariants.{Nobody}
use Rattle.txn_codec.specs.declared.txn.Create.{Create}
use Rattle.txn_codec.specs.declared.txn.SetData.{SetData}
use Rattle.txn_codec.specs.declared.txn.Operation.{Operation}
use Rattle.txn_codec.specs.declared.txn.Operation.TheVariants as operations
use Rattle.txn_codec.specs.declared.txn.Body.TheVariants as bodies
use Rattle.txn_codec.specs.declared.txn.Txn.{Txn}
use Rattle.txn_codec.specs.Spelling.{txn_format, value_of_whole}
use Rattle.node_map.specs.Updates.{preset_node, new_node, with_data}
use Rattle.node_map.specs.Stats.{shown_stat, java_int, length_or_zero}
use Rattle.node_map.specs.declared.node.Node.{Node}
use Rattle.data_tree.specs.State.{State}
use Rattle.data_tree.specs.Making.{with_session}
use Rattle.data_tree.specs.Meaning.{effect_of_txn, answer_of, fresh_state, after_changes, create_new, create_taken, create_under, set_data_at, of_effect}
use Rattle.data_tree.specs.declared.outcome.Trigger.{Trigger}
use Rattle.jute.specs.declared.owned.Id.{Id}
use Rattle.sessions.specs.State.{ConnectedClient as SessionConnection, SessionTable}
use Rattle.sessions.specs.Sessions.{session_in, session_of_connection, connection_of, ids_in, ids_of, close_if_some, clamped_timeout, new_connection}
use Rattle.watch_manager.specs.declared.event.Event.{Event as NodeEvent}
use Rattle.watch_manager.specs.Pairs.{watch_cmp}
use Rattle.watch_manager.specs.Watching.{no_watch}
use Rattle.watch_manager.specs.Watches.{FireResult, fire}
use Rattle.watch_manager.specs.Laws.{AllPass, OnlyWatchersAreTold, NoEventKeepsWatches}
use Rattle.read_processor.specs.Watch.{watch_of}
use Rattle.settings.specs.declared.dialect.Dialect.{Dialect}
use Rattle.world.specs.declared.world.Settings.{Settings}
use Rattle.client_frames.specs.declared.call.Call.{Call}
use Rattle.client_frames.specs.declared.call.CallBody.TheVariants.{Local}
use Rattle.client_frames.specs.declared.call.LocalCall.{LocalCall}
use Rattle.client_frames.specs.declared.call.LocalCall.TheVariants.{Read}
use Rattle.forwarding.specs.Queue.{RequestQueue, pending_limit, found_write}
use Rattle.forwarding.specs.State.{TouchedSessions, PendingTable}
use Rattle.forwarding.specs.Pending.{nothing_pending, queue_in, is_idle, hold_frame, touch_session}
use Rattle.leader_answers.specs.Answering.{txn_number, reply_as, reply_of, is_due, lets_answer, answer_optional_txn, answer_applied_txn}
use Rattle.observer_core.specs.declared.event.Event.{Event}
use Rattle.world.specs.declared.output.Output.{Output}
use Rattle.observer_core.proofs.Batches.{no_answer}
use Rattle.observer_core.specs.declared.event.Event.TheVariants.{ClientBytes}
use Rattle.world.specs.declared.output.Output.TheVariants.{ToClient, CloseLeader, CloseClient}
use Rattle.read_processor.specs.declared.shown.Look.{Look}
use Rattle.read_processor.specs.declared.request.Request.{Request}
use Rattle.read_processor.specs.Kinds.{reply_body as shown_body}
use Rattle.read_processor.specs.Look.{look_at_state, look_at_node, shown_look}
use Rattle.read_processor.specs.Reply.{reply_frame}
use Rattle.values.specs.Hex.{hex_bytes}
use Rattle.observer_core.specs.Rows.{inform_of_create, inform_of_set_data, get_data_frame_start, get_data_frame_end, reply_of_create, reply_of_set_data, create_inform_event, set_data_inform_event, get_data_event}
use Rattle.world.specs.World.{OpenConnection, OpenConnections, Clients, World}
use Rattle.observer_core.specs.Machine.{Leader, Machine}
use Rattle.client_frames.specs.Call.{call_in, call_after_header, call_body, read_as, read_with_flag, value_if_read}
use Rattle.world.specs.Steps.{StepResult, prepend_outputs, no_output, and_then, fold_steps}
use Rattle.world.specs.Clients.{heard_in, without_client, close_clients, no_clients, notices_of}
use Rattle.replica.specs.Replica.{Replica, primed_replica}
use Rattle.replica.specs.Taking.{nothing_loaded, no_effect as unled, with_learner, carry_out_all, without_leader}
use Rattle.learner_sync.specs.Learn.{LearnerStep, apply_txn}
use Rattle.learner_sync.specs.declared.phase.Phase.TheVariants.{Serving}
use Rattle.observer_core.specs.Leader.{WorldAndLoading, step_with_loading, send_effect, item_step, delivery_of, deliver_item, is_refused, part_reader, leader_at, with_leader_or_fault, place_after, with_leader, take_leader_bytes}
use Rattle.four_letter.specs.Words.{word_of}
use Rattle.four_letter.specs.declared.word.Word.{Word}
use Rattle.world.specs.Sending.{close_client, send_or_close, send_reply, with_watches, with_pending}
use Rattle.client_service.specs.Serve.{with_watch_if, handle_local, handle_or_hold, touched_as, call_of, serve_as, serve_by, header_len, is_refused_frame, serve_frame, word_without_session, is_unheard, with_waiting_bytes, wait_if_heard, wait_at, frames_of_client, serve_all, tell_or_serve, take_client_bytes}
use Rattle.observer_core.specs.Play.{play_event, play, initial_machine, primed_session, first_client, primed_machine}
use Rattle.world.proofs.NatMaps.{get-inserted, insert-insert, insert-same, entries-empty}

-- ---- texts

pub path_is_text : IsUtf8 (codes "/a")
unfolding encode
path_is_text = (codes "/a", (refl, refl))

pub world_is_text : IsUtf8 (codes "world")
unfolding encode
world_is_text = (codes "world", (refl, refl))

pub anyone_is_text : IsUtf8 (codes "anyone")
unfolding encode
anyone_is_text = (codes "anyone", (refl, refl))

-- ---- the transactions

abbrev pub create_header : TxnHeader
create_header = record { client_id = pos 7; cxid = pos 1; zxid = pos 4294967297; time = pos 1000; rules = Zk34 }

abbrev pub create_body : Create
create_body = record {
  path = codes "/a";
  bytes = Some (codes "hi");
  acl = Some open_acl;
  owner = Nobody;
  asks_stat = false;
  parent_cversion = pos 1;
}

abbrev pub create_txn : Txn
create_txn = record { header = create_header; body = bodies.Single (operations.Create create_body) }

abbrev set_header : TxnHeader
set_header = record { client_id = pos 7; cxid = pos 2; zxid = pos 4294967298; time = pos 2000; rules = Zk34 }

abbrev set_body : SetData
set_body = record { path = codes "/a"; bytes = None; version = pos 1; is_reconfig = false }

abbrev set_txn : Txn
set_txn = record { header = set_header; body = bodies.Single (operations.SetData set_body) }

pub text_fits : (t : List ℕ) → IsUtf8 t → length t ≤ buffer_limit → text_format.Fits (Some t)
text_fits t is short = (rw (is_utf8-from_IsUtf8 t is) refl, short)

pub create_fits : txn_format.Fits create_txn
unfolding acl_in id_in
create_fits =
    let path = text_fits (codes "/a") path_is_text (omega arith) in
    let world = text_fits (codes "world") world_is_text (omega arith) in
    let anyone = text_fits (codes "anyone") anyone_is_text (omega arith) in (
      (refl, search rules),
      (
        (refl, search rules),
        (
          refl,
          (
            refl,
            (
              refl,
              (
                (refl, path),
                (
                  omega arith,
                  (
                    (omega arith, ((search rules, ((refl, world), (refl, anyone))), tt)),
                    (refl, (tt, search rules)),
                  ),
                ),
              ),
            ),
          ),
        ),
      ),
    )

set_fits : txn_format.Fits set_txn
set_fits =
    let path = text_fits (codes "/a") path_is_text (omega arith) in
    ((refl, search rules), ((refl, search rules), (refl, (refl, (refl, ((refl, path), (tt, search rules)))))))

-- ---- the states

abbrev pub root : Node
root = preset_node (set.insert set.empty (codes "zookeeper"))

pub root_there : finmap.get fresh_state.nodes (codes "/") ≡ Some root
root_there = simp (finmap.get-insert {X = Node} nat_list_cmp_total)

pub name_free : set.contains root.children (codes "a") ≡ false
name_free = set.contains-insert nat_list_cmp_total set.empty (codes "zookeeper") (codes "a")
    ∙ set.contains-empty (slice_cmp nat_cmp) (codes "a")

-- The tree at the start: the first session lives.
abbrev pub start : Settings → State
start settings = with_session fresh_state (primed_session settings) settings.timeouts.greatest

abbrev pub made : Settings → State
made settings = after_changes (start settings) (create_new create_header create_body root).changes

pub made-is : (settings : Settings) → (effect_of_txn (start settings) create_txn).state ≡ made settings
made-is settings =
    let s = start settings in
    ap (λ (o : Option Node). (of_effect (create_under create_header create_body o) s).state) root_there
    ∙ ap (λ (b : Bool). (of_effect
    (cond b (create_taken create_header create_body root) (create_new create_header create_body root))
    s).state)
    name_free

abbrev node : Node
node = new_node create_header create_body

node_there : (settings : Settings) → finmap.get (made settings).nodes (codes "/a") ≡ Some node
node_there settings = simp (finmap.get-insert {X = Node} nat_list_cmp_total)

abbrev written : Settings → State
written settings = after_changes (made settings) (set_data_at set_header set_body (Some node)).changes

written-is : (settings : Settings) → (effect_of_txn (made settings) set_txn).state ≡ written settings
written-is settings =
    ap (λ (o : Option Node). (of_effect (set_data_at set_header set_body o) (made settings)).state)
    (node_there settings)

abbrev written_node : Node
written_node = with_data set_header set_body node

written_there : (settings : Settings) → finmap.get (written settings).nodes (codes "/a") ≡ Some written_node
written_there settings = simp (finmap.get-insert {X = Node} nat_list_cmp_total)

-- ---- the leader's packets

abbrev pub packet_of : ℤ → List ℕ → QuorumPacket
packet_of zxid bytes = record { kind = pos 8; zxid = zxid; bytes = Some bytes; authinfo = None }

abbrev pub one_packet : QuorumPacket → Items Phase Item
one_packet p = record { found = item.Packet p ∷ []; left = place_at (Packets Zk34) [] }

pub create_found : items_shown_at (place_at (Packets Zk34) inform_of_create) ≡ one_packet
    (packet_of (pos 4294967297) (txn_format.written create_txn))
unfolding items_within packet_format judged_at buffer_at vector_at read_n number_bytes acl_in id_in
create_found = refl

set_found : items_shown_at (place_at (Packets Zk34) inform_of_set_data)
    ≡ one_packet (packet_of (pos 4294967298) (txn_format.written set_txn))
unfolding items_within packet_format judged_at buffer_at vector_at read_n number_bytes
set_found = refl

-- ---- the client's frames

abbrev pub one_frame : List ℕ → Items (Unit {0}) (List ℕ)
one_frame f = record { found = f ∷ []; left = place_at tt [] }

abbrev get_frame : List ℕ
get_frame = hex_bytes (codes "00000001 00000004 00000002 2f61 00")

abbrev get_body : List ℕ
get_body = hex_bytes (codes "00000002 2f61 00")

pub get_found : items_in frames_of_client (place_at tt (get_data_frame_start ++ get_data_frame_end))
    ≡ one_frame get_frame
unfolding items_within frame_at judged_at
get_found = refl

get_waits : items_in frames_of_client (place_at tt get_data_frame_start)
    ≡ (record { found = []; left = place_at tt get_data_frame_start })
unfolding items_within frame_at judged_at
get_waits = refl

header_read : request_header.read get_frame ≡ Ok (record { xid = pos 1; kind = pos 4 }, get_body)
unfolding request_header
header_read = refl

kind_read : (dialect : Dialect) → request_kind_in dialect (pos 4) ≡ Some (kinds.Read GetData)
unfolding request_kind_of
kind_read dialect = refl

body_read : path_and_watch.read get_body ≡ Ok (record { path = Some (codes "/a"); watch = false }, [])
unfolding path_and_watch judged_at buffer_at
body_read = rw (is_utf8-from_IsUtf8 (codes "/a") path_is_text)

-- The reply to a read of a node, with its number of children.
abbrev reply_by : ℤ → Node → ℕ → Option (List ℕ)
reply_by zxid n children =
    let shown = shown_stat n.stat (java_int children) (java_int (length_or_zero n.bytes)) in
    reply_frame (pos 1) zxid (shown_look (get_data_response.written (record { bytes = n.bytes; stat = shown })))

no_children : set.len (set.empty {R = slice_cmp nat_cmp}) ≡ 0
no_children = set.len-empty (slice_cmp nat_cmp)

create_replied : reply_by (pos 4294967297) node 0 ≡ Some reply_of_create
unfolding reply_header get_data_response stat_format number_bytes
create_replied = refl

set_replied : reply_by (pos 4294967298) written_node 0 ≡ Some reply_of_set_data
unfolding reply_header get_data_response stat_format number_bytes
set_replied = refl

abbrev wanted : Dialect → Request
wanted dialect = record { kind = GetData; path = Some (codes "/a"); watch = false; rules = dialect }

abbrev asking : Dialect → Call
asking dialect = record { xid = pos 1; body = Local (Read (wanted dialect)) }

call_read : (dialect : Dialect) → call_in dialect get_frame ≡ Ok (asking dialect)
call_read dialect =
    ap (call_after_header dialect) header_read
    ∙ ap (λ k. Ok (record { xid = pos 1; body = call_body dialect k get_body })) (kind_read dialect)
    ∙ ap (λ r. Ok (record { xid = pos 1; body = Local (read_as (read_with_flag dialect GetData) (value_if_read r)) })) body_read

-- ---- where no request waits

-- No request waits, and these sessions were touched.
abbrev pub pending_at : TouchedSessions → PendingTable
pending_at touched = record { queues = finmap.empty; syncs = []; connects = finmap.empty; touched = touched }

pub idle_at : (touched : TouchedSessions) (n : ℕ) → is_idle (pending_at touched) n ≡ true
idle_at touched n = ap (λ (o : Option RequestQueue). not (is_some o)) (finmap.get-empty nat_cmp n)

-- The world when a frame of the session has come.
abbrev pub heard_in_world : World → TouchedSessions → ℤ → World
heard_in_world w touched session = with_pending w (pending_at (set.insert touched session))

-- A frame of a connection that has a session.
pub served_at : (w : World) (touched : TouchedSessions) (session : ℤ) (frame : List ℕ)
    → session_of_connection w.clients.sessions 1 ≡ Some session → w.clients.pending ≡ pending_at touched
    → nat_lt (length frame) header_len ≡ false
    → serve_frame true 1 w frame ≡ serve_as 1 session (heard_in_world w touched session) frame (call_of w frame)
served_at w touched session frame joined none long =
    let v = heard_in_world w touched session in
    let served : World → StepResult World =
    λ (u : World). cond (is_refused_frame 1 u frame) (close_client 1 u)
    (serve_by true 1 u frame (session_of_connection u.clients.sessions 1)) in
    let judged : Bool → StepResult World =
    λ (refused : Bool). cond refused (close_client 1 v)
    (serve_by true 1 v frame (session_of_connection w.clients.sessions 1)) in
    ap (λ (o : Option ℤ). served (touched_as w o)) joined
    ∙ ap (λ (p : PendingTable). served (with_pending w (touch_session p session))) none
    ∙ ap (λ (o : Option RequestQueue).
    judged (not (nat_lt (length (queue_in o)) pending_limit) || nat_lt (length frame) header_len))
    (finmap.get-empty nat_cmp 1)
    ∙ ap judged long
    ∙ ap (serve_by true 1 v frame) joined

-- A request isn't held.
pub handled_at : (w : World) (touched : TouchedSessions) (frame : List ℕ) (xid : ℤ) (call : LocalCall)
    → w.clients.pending ≡ pending_at touched → handle_or_hold 1 w frame xid call ≡ handle_local 1 w xid call
handled_at w touched frame xid call none =
    let handled : Bool → StepResult World =
    λ idle. cond idle (handle_local 1 w xid call)
    (no_output (with_pending w (hold_frame w.clients.pending 1 frame))) in
    ap (λ (p : PendingTable). handled (is_idle p 1)) none ∙ ap handled (idle_at touched 1)

-- An operation answers nobody.
module _ (header : TxnHeader) (operation : Operation) where
  abbrev txn_of : Txn
  txn_of = record { header = header; body = bodies.Single operation }

  nobody_asked : (c : Clients) (touched : TouchedSessions) → c.pending ≡ pending_at touched
      → lets_answer c txn_of ≡ false
  nobody_asked c touched none = by (connection_of c.sessions header.client_id)
    where
      answered : ℕ → Option RequestQueue → Bool
      answered n o = is_due (reply_as n (found_write (queue_in o) header.cxid (txn_number txn_of)))

      by : (o : Option ℕ) → is_due (reply_of c txn_of o) ≡ false
      by None = refl
      by (Some n) =
          ap (λ (p : PendingTable). answered n (finmap.get p.queues n)) none
          ∙ ap (answered n) (finmap.get-empty nat_cmp n)

  pub unasked : (w : World) (touched : TouchedSessions) (place : ℕ) (results : TxnResults)
      → w.clients.pending ≡ pending_at touched → slice_get w.replica.learner.log place ≡ Some txn_of
      → answer_applied_txn w place results ≡ no_output w
  unasked w touched place results none at =
      ap (answer_optional_txn w results) at ∙ no_answer w txn_of results (nobody_asked w.clients touched none)

-- ---- the reply to a read

-- A reply is sent, and its watch is set.
abbrev shown_by : World → Look → StepResult World
shown_by w seen = send_reply 1 (with_watches w (with_watch_if 1 w.clients.watches (watch_of (wanted w.settings.dialect) seen.error)))
    (pos 1) seen

-- The reply in a world whose tree has the node.
answered_by : (w : World) (touched : TouchedSessions) (session : ℤ) (n : Node) (frame : List ℕ)
    → session_of_connection w.clients.sessions 1 ≡ Some session
    → ids_of w.clients.sessions 1 ≡ [] → w.clients.pending ≡ pending_at touched
    → finmap.get w.replica.tree.nodes (codes "/a") ≡ Some n → look_at_node [] (wanted w.settings.dialect) (Some n) ≡ shown_look
    (shown_body GetData n) → n.children ≡ set.empty
    → reply_by w.replica.learner.last_zxid n 0 ≡ Some frame
    → serve_frame true 1 w get_frame
    ≡ record { outputs = ToClient 1 frame ∷ []; after = heard_in_world w touched session }
answered_by w touched session n frame joined no_ids none there shows childless is =
    let v = heard_in_world w touched session in
    served_at w touched session get_frame joined none refl
    ∙ ap (serve_as 1 session v get_frame) (call_read w.settings.dialect)
    ∙ handled_at v (set.insert touched session) get_frame (pos 1) (Read (wanted w.settings.dialect)) refl
    ∙ ap (λ (ids : List Id). shown_by v (look_at_state w.replica.tree ids (wanted w.settings.dialect))) no_ids
    ∙ ap (λ (o : Option Node). shown_by v (look_at_node [] (wanted w.settings.dialect) o)) there
    ∙ ap (shown_by v) shows
    ∙ ap (λ (c : set.FinSet (slice_cmp nat_cmp)). send_or_close 1 v
    (reply_by w.replica.learner.last_zxid n (set.len c)))
    childless
    ∙ ap (λ (k : ℕ). send_or_close 1 v (reply_by w.replica.learner.last_zxid n k)) no_children
    ∙ ap (send_or_close 1 v) is

-- ---- watches

-- Where nothing is watched, no event is sent.
abbrev pub NobodyTold : Type 0
NobodyTold = (triggers : List Trigger) → fire no_watch triggers ≡ (record { events = []; left = no_watch })

no_event : (events : List (ℕ × NodeEvent)) → AllByRecursion (λ (e : ℕ × NodeEvent). false ≡ true) events → events ≡ []
no_event [] h = refl
no_event (e ∷ events) h = absurd (true≢false (sym h.0))

pub unwatched : OnlyWatchersAreTold → NoEventKeepsWatches → NobodyTold
unwatched only silent triggers =
    let nobody : AllPass (λ (n : ℕ). false) set.empty =
    λ path n there. sym (set.contains-empty watch_cmp (path, n)) ∙ there in
    let none = no_event (fire no_watch triggers).events
    (only (λ (n : ℕ). false) no_watch triggers (nobody, nobody, (nobody, nobody))).0 in
    λ i. record { events = none i; left = sym (silent no_watch triggers none) i }

-- ---- events

-- A transaction that was written reads back as itself.
abbrev pub ReadAgain : Type 0
ReadAgain = (t : Txn) → txn_format.Fits t → value_of_whole txn_format (txn_format.written t) ≡ Ok t

-- An open connection with these waiting bytes.
abbrev pub open_with : List ℕ → OpenConnection
open_with rest = record { rest = rest; is_leaving = false; address = None }

abbrev pub at_first : List ℕ → OpenConnections
at_first rest = finmap.insert finmap.empty 1 (open_with rest)

-- Connection 1 is open and has the first session, and nothing is watched.
abbrev pub clients_at : Settings → TouchedSessions → List ℕ → Clients
clients_at settings touched rest = record {
  connections = at_first rest;
  sessions = (first_client settings).sessions;
  watches = no_watch;
  pending = pending_at touched;
}

-- The first session is touched.
abbrev pub heard : Settings → TouchedSessions → TouchedSessions
heard settings touched = set.insert touched (primed_session settings)

-- The sessions before connection 1 has one.
abbrev pub nobody_yet : Settings → SessionTable
nobody_yet settings = record (no_clients settings).sessions { counter = settings.first_counter + 1 }

-- The timeout that the client of connection 1 was told.
abbrev pub first_timeout : Settings → ℤ
first_timeout settings = clamped_timeout settings.timeouts settings.timeouts.greatest

first_is : (settings : Settings) → finmap.get (first_client settings).sessions.connections 1
    ≡ Some (new_connection (primed_session settings) (first_timeout settings))
first_is settings =
    get-inserted {X = SessionConnection}
    (close_if_some (nobody_yet settings) (connection_of (nobody_yet settings) (primed_session settings))).connections 1
    (new_connection (primed_session settings) (first_timeout settings))

pub joined_first : (settings : Settings)
    → session_of_connection (first_client settings).sessions 1 ≡ Some (primed_session settings)
joined_first settings = ap session_in (first_is settings)

pub no_ids_first : (settings : Settings) → ids_of (first_client settings).sessions 1 ≡ []
no_ids_first settings = ap ids_in (first_is settings)

abbrev replica_at : Settings → ℤ → List Txn → State → Replica
replica_at settings zxid log s = record {
  learner = record {
    dialect = Zk34;
    phase = Serving;
    accepted_epoch = pos 1;
    current_epoch = pos 1;
    last_zxid = zxid;
    base_zxid = pos 0;
    log = log;
    proposals = [];
    is_complete = true;
  };
  base = start settings;
  tree = s;
}

abbrev pub world_with : Settings → ℤ → List Txn → State → Clients → World
world_with settings zxid log s clients =
    record { settings = settings; replica = replica_at settings zxid log s; clients = clients }

-- A world in epoch 1, with connection 1 open.
abbrev pub world_at : Settings → ℤ → List Txn → State → TouchedSessions → List ℕ → World
world_at settings zxid log s touched rest = world_with settings zxid log s (clients_at settings touched rest)

-- A leader's stream without waiting bytes.
abbrev pub beginning : Leader
beginning = part_reader.opened Zk34

-- The primed machine in this dialect.
abbrev machine_in : Dialect → Settings → Machine
machine_in dialect settings =
    initial_machine settings
    (primed_replica dialect (primed_session settings) settings.timeouts.greatest) (Some (part_reader.opened dialect))
    (first_client settings)

-- The primed machine in the dialect of ZooKeeper 3.4.
abbrev pub earlier_machine : Settings → Machine
earlier_machine settings = machine_in Zk34 settings

-- It is the machine of settings that have this dialect.
pub in_earlier : (settings : Settings) (events : List Event) (outputs : List Output) → settings.dialect ≡ Zk34
    → (play (earlier_machine settings) events).outputs ≡ outputs
    → (play (primed_machine settings) events).outputs ≡ outputs
in_earlier settings events outputs is answers =
    subst (λ (d : Dialect). (play (machine_in d settings) events).outputs ≡ outputs) (sym is) answers

-- A machine that follows a leader, in this world.
abbrev pub following : Settings → ℤ → List Txn → State → TouchedSessions → List ℕ → Machine
following settings zxid log s touched rest =
    record { leader = Some beginning; world = world_at settings zxid log s touched rest }

abbrev pub led : World → WorldAndLoading
led w = record { loading = nothing_loaded Zk34; world = w }

-- The effect of what was learnt from an item.
abbrev done : World → Result LearnerStep Fault → Result (StepResult WorldAndLoading) Fault
done w r =
    (r >>= λ x. carry_out_all (unled (nothing_loaded Zk34) (with_learner w.replica x)) x.acts) >>= λ t. Ok
    (step_with_loading t.loading (send_effect w t))

informed_of : (again : ReadAgain) (settings : Settings) (last : ℤ) (log : List Txn) (s : State) (clients : Clients)
    (zxid : ℤ) (t : Txn) → txn_format.Fits t →
    let w = world_with settings last log s clients in
    item_step (led w) (item.Packet (packet_of zxid (txn_format.written t))) ≡ done w (apply_txn w.replica.learner t)
unfolding kind_of
informed_of again settings last log s clients zxid t fits =
    let w = world_with settings last log s clients in
    ap (λ (r : Result Txn Fault). done w (r >>= λ u. apply_txn w.replica.learner u)) (again t fits)

-- The machine after one packet.
abbrev pub one_delivered : World → Result (StepResult WorldAndLoading) Fault → StepResult Machine
one_delivered w r =
    let h = delivery_of r (led w) in
    prepend_outputs (h.outputs ++ []) (with_leader_or_fault h.after.left.world
    (leader_at h.after.left.loading (place_after (place_at (Packets Zk34) []) h.after.fault)))

pub inform_comes : (again : ReadAgain) (settings : Settings) (last : ℤ) (log : List Txn) (s : State) (clients : Clients)
    (bytes : List ℕ) (zxid : ℤ) (t : Txn) → txn_format.Fits t →
    let w = world_with settings last log s clients in
    items_shown_at (place_at (Packets Zk34) bytes) ≡ one_packet (packet_of zxid (txn_format.written t))
    → take_leader_bytes part_reader (Some beginning) w bytes ≡ one_delivered w (done w (apply_txn w.replica.learner t))
inform_comes again settings last log s clients bytes zxid t fits found =
    let w = world_with settings last log s clients in
    ap (λ (i : Items Phase Item). let h =
    fold_steps is_refused (deliver_item item_step) (record { left = led w; fault = None }) i.found in
    prepend_outputs h.outputs (with_leader_or_fault h.after.left.world
    (leader_at h.after.left.loading (place_after i.left h.after.fault)))) found
    ∙ ap (one_delivered w) (informed_of again settings last log s clients zxid t fits)

abbrev pub after_create : Settings → TouchedSessions → List ℕ → Machine
after_create settings touched rest =
    following settings (pos 4294967297) (create_txn ∷ []) (made settings) touched rest

abbrev pub after_set : Settings → TouchedSessions → Machine
after_set settings touched =
    following settings (pos 4294967298) (create_txn ∷ set_txn ∷ []) (written settings) touched []

-- Events are sent, and then answers.
abbrev pub told : List Output → StepResult World → Result (StepResult WorldAndLoading) Fault
told events answers = Ok (step_with_loading (nothing_loaded Zk34) (prepend_outputs events answers))

-- The events of the last transaction's triggers are sent, and then its client is answered.
abbrev pub told_by : World → TxnResults → FireResult → Result (StepResult WorldAndLoading) Fault
told_by w results fired =
    told (notices_of fired.events)
    (answer_applied_txn (with_watches w fired.left) (length w.replica.learner.log - 1) results)

-- The create takes effect, and the setData after it.
abbrev pub meant_create : Settings → Clients → World
meant_create settings clients = world_with settings (pos 4294967297) (create_txn ∷ [])
    (effect_of_txn (start settings) create_txn).state clients

abbrev meant_set : Settings → Clients → World
meant_set settings clients = world_with settings (pos 4294967298) (create_txn ∷ set_txn ∷ [])
    (effect_of_txn (made settings) set_txn).state clients

abbrev pub create_results : Settings → TxnResults
create_results settings = (answer_of (effect_of_txn (start settings) create_txn)).results

abbrev set_results : Settings → TxnResults
set_results settings = (answer_of (effect_of_txn (made settings) set_txn)).results

pub create_comes : (again : ReadAgain) (nobody : NobodyTold) (settings : Settings) (touched : TouchedSessions)
    (rest : List ℕ)
    → play_event (following settings (pos 0) [] (start settings) touched rest) create_inform_event
    ≡ no_output (after_create settings touched rest)
create_comes again nobody settings touched rest =
    let clients = clients_at settings touched rest in
    let w = world_with settings (pos 0) [] (start settings) clients in
    let results = create_results settings in
    inform_comes again settings (pos 0) [] (start settings) clients inform_of_create (pos 4294967297) create_txn
    create_fits create_found
    ∙ ap (λ (f : FireResult). one_delivered w (told_by (meant_create settings clients) results f))
    (nobody (effect_of_txn (start settings) create_txn).triggers)
    ∙ ap (λ (h : StepResult World). one_delivered w (told [] h))
    (unasked create_header (operations.Create create_body) (meant_create settings clients) touched 0 results refl refl)
    ∙ ap (λ (s : State). no_output (following settings (pos 4294967297) (create_txn ∷ []) s touched rest))
    (made-is settings)

pub set_comes : (again : ReadAgain) (nobody : NobodyTold) (settings : Settings) (touched : TouchedSessions)
    → play_event (after_create settings touched []) set_data_inform_event
    ≡ no_output (after_set settings touched)
set_comes again nobody settings touched =
    let clients = clients_at settings touched [] in
    let w = (after_create settings touched []).world in
    let results = set_results settings in
    inform_comes again settings (pos 4294967297) (create_txn ∷ []) (made settings) clients inform_of_set_data
    (pos 4294967298) set_txn set_fits set_found
    ∙ ap (λ (f : FireResult). one_delivered w (told_by (meant_set settings clients) results f))
    (nobody (effect_of_txn (made settings) set_txn).triggers)
    ∙ ap (λ (h : StepResult World). one_delivered w (told [] h))
    (unasked set_header (operations.SetData set_body) (meant_set settings clients) touched 1 results refl refl)
    ∙ ap (λ (s : State). no_output (following settings (pos 4294967298) (create_txn ∷ set_txn ∷ []) s touched []))
    (written-is settings)

abbrev pub closed : Settings → Machine
closed settings =
    let w = (after_create settings set.empty []).world in
    record {
      leader = None;
      world =
          record w {
            replica = without_leader w.replica;
            clients = record (without_client 1 (clients_at settings set.empty [])) { pending = nothing_pending };
          };
    }

abbrev pub refusing : Settings → StepResult Machine
refusing settings = record { outputs = CloseLeader OutOfOrder ∷ CloseClient 1 ∷ []; after = closed settings }

keys-first : finmap.keys (at_first []) ≡ 1 ∷ []
keys-first = ap (λ (es : List (ℕ × OpenConnection)). map (λ (e : ℕ × OpenConnection). e.0) es)
    (finmap.entries-insert nat_cmp_total finmap.empty 1 (open_with [])
    ∙ ap (finmap.put nat_cmp 1 (open_with [])) (entries-empty OpenConnection))

-- The zxid isn't above the last one.
pub create_comes_again : (again : ReadAgain) (settings : Settings)
    → play_event (after_create settings set.empty []) create_inform_event ≡ refusing settings
create_comes_again again settings =
    let clients = clients_at settings set.empty [] in
    inform_comes again settings (pos 4294967297) (create_txn ∷ []) (made settings) clients inform_of_create
    (pos 4294967297) create_txn create_fits create_found
    ∙ ap (λ (ks : List ℕ). lost (close_clients ks clients)) keys-first
  where
    w : World
    w = (after_create settings set.empty []).world

    lost : StepResult Clients → StepResult Machine
    lost h = prepend_outputs (CloseLeader OutOfOrder ∷ [])
        (with_leader {L = Leader} None
        (record {
          outputs = h.outputs;
          after =
              record w
              { replica = without_leader w.replica; clients = record h.after { pending = nothing_pending } };
        }))

abbrev pub replying : List ℕ → Machine → StepResult Machine
replying frame m = record { outputs = ToClient 1 frame ∷ []; after = m }

-- The machine after the frames of connection 1.
abbrev pub at_frames : World → Items (Unit {0}) (List ℕ) → StepResult Machine
at_frames w i = with_leader (Some beginning) (serve_all true 1 w i)

-- The waiting bytes of connection 1 are joined with those that come.
pub in_hand : (settings : Settings) (zxid : ℤ) (log : List Txn) (s : State) (touched : TouchedSessions)
    (rest bytes : List ℕ)
    → play_event (following settings zxid log s touched rest) (ClientBytes 1 bytes)
    ≡ at_frames (world_at settings zxid log s touched [])
    (items_in frames_of_client (place_at tt (rest ++ bytes)))
in_hand settings zxid log s touched rest bytes =
    let w = world_at settings zxid log s touched rest in
    let v = with_waiting_bytes 1 w (open_with rest) [] in
    let came = rest ++ bytes in
    let word : Option ℤ → Option Word = λ (session : Option ℤ). word_without_session session (word_of (take 4 came)) in
    let said : Bool → Option ℤ → StepResult Machine =
    λ (idle : Bool) (session : Option ℤ). with_leader (Some beginning)
    (tell_or_serve true 1 v came (cond idle (word session) None)) in
    ap (λ (o : Option OpenConnection). with_leader (Some beginning) (take_client_bytes true 1 w (heard_in o) bytes))
    (get-inserted finmap.empty 1 (open_with rest))
    ∙ ap (λ (session : Option ℤ). said (is_idle (pending_at touched) 1) session) (joined_first settings)
    ∙ ap (λ (idle : Bool). said idle (Some (primed_session settings))) (idle_at touched 1)
    ∙ ap (λ (c : OpenConnections). at_frames (record w { clients = record w.clients { connections = c } })
    (items_in frames_of_client (place_at tt came)))
    (insert-insert finmap.empty 1 (open_with []) (open_with rest))

-- The world with other open connections.
abbrev pub with_connections : World → OpenConnections → World
with_connections w c = record w { clients = record w.clients { connections = c } }

-- What the bytes after the frames do, where the connection is this.
abbrev pub left_at : ℕ → World → Unread → Option OpenConnection → StepResult World
left_at n w unread o = wait_if_heard n w (heard_in o) unread

-- A connection that is open and has no waiting bytes.
module _ (n : ℕ) (w : World) (open_ : finmap.get w.clients.connections n ≡ Some (open_with [])) where
  pub left_waiting : (rest : List ℕ)
      → wait_at n (Ok rest) w
      ≡ no_output (with_connections w (finmap.insert w.clients.connections n (open_with rest)))
  left_waiting rest = ap (left_at n w (Ok rest)) open_

  -- No bytes are left.
  none_waiting : wait_at n (Ok []) w ≡ no_output w
  none_waiting =
      left_waiting [] ∙ ap (λ (c : OpenConnections). no_output (with_connections w c))
      (insert-same w.clients.connections n (open_with []) open_)

  heard_now : is_unheard n w ≡ false
  heard_now = ap (λ (o : Option OpenConnection). not (is_some (heard_in o))) open_

-- One frame comes, is served with one output, and nothing is left of the bytes.
pub frame_served : (n : ℕ) (w v : World) (bytes frame : List ℕ) (output : Output)
    → finmap.get w.clients.connections n ≡ Some (open_with [])
    → finmap.get v.clients.connections n ≡ Some (open_with [])
    → items_in frames_of_client (place_at tt bytes) ≡ one_frame frame
    → serve_frame true n w frame ≡ record { outputs = output ∷ []; after = v }
    → with_leader (Some beginning) (serve_all true n w (items_in frames_of_client (place_at tt bytes)))
    ≡ (record { outputs = output ∷ []; after = record { leader = Some beginning; world = v } })
frame_served n w v bytes frame output open_before open_after found served =
    let waits : StepResult World → StepResult Machine =
    λ (h : StepResult World). with_leader (Some beginning) (and_then h (wait_at n (Ok []))) in
    ap (λ (i : Items (Unit {0}) (List ℕ)). with_leader (Some beginning) (serve_all true n w i)) found
    ∙ ap waits (goes_on (is_unheard n) (serve_frame true n) w frame [] (heard_now n w open_before))
    ∙ ap (λ (h : StepResult World). waits (prepend_outputs h.outputs (no_output h.after))) served
    ∙ ap (λ (h : StepResult World). with_leader (Some beginning) (prepend_outputs (output ∷ []) h))
    (none_waiting n v open_after)

pub first_open : finmap.get (at_first []) 1 ≡ Some (open_with [])
first_open = get-inserted finmap.empty 1 (open_with [])

-- The last byte of a request comes.
get_comes : (settings : Settings) (zxid : ℤ) (log : List Txn) (s : State) (touched : TouchedSessions)
    (rest bytes frame : List ℕ)
    → items_in frames_of_client (place_at tt (rest ++ bytes)) ≡ one_frame get_frame
    → serve_frame true 1 (world_at settings zxid log s touched []) get_frame
    ≡ (record { outputs = ToClient 1 frame ∷ []; after = world_at settings zxid log s (heard settings touched) [] })
    → play_event (following settings zxid log s touched rest) (ClientBytes 1 bytes)
    ≡ replying frame (following settings zxid log s (heard settings touched) [])
get_comes settings zxid log s touched rest bytes frame found replies =
    in_hand settings zxid log s touched rest bytes
    ∙ frame_served 1 (world_at settings zxid log s touched [])
    (world_at settings zxid log s (heard settings touched) []) (rest ++ bytes) get_frame (ToClient 1 frame) first_open
    first_open found replies

-- The first part of a request comes.
pub front_comes : (settings : Settings)
    → play_event (following settings (pos 0) [] (start settings) set.empty []) (ClientBytes 1 get_data_frame_start)
    ≡ no_output (following settings (pos 0) [] (start settings) set.empty get_data_frame_start)
front_comes settings =
    let w = world_at settings (pos 0) [] (start settings) set.empty [] in
    in_hand settings (pos 0) [] (start settings) set.empty [] get_data_frame_start
    ∙ ap (at_frames w) get_waits
    ∙ ap (λ (h : StepResult World). with_leader (Some beginning) h) (left_waiting 1 w first_open get_data_frame_start)
    ∙ ap (λ (c : OpenConnections). no_output (record { leader = Some beginning; world = with_connections w c }))
    (insert-insert finmap.empty 1 (open_with get_data_frame_start) (open_with []))

pub get_after_create : (settings : Settings) (touched : TouchedSessions) (rest bytes : List ℕ)
    → items_in frames_of_client (place_at tt (rest ++ bytes)) ≡ one_frame get_frame
    → play_event (after_create settings touched rest) (ClientBytes 1 bytes)
    ≡ replying reply_of_create (after_create settings (heard settings touched) [])
get_after_create settings touched rest bytes found =
    get_comes settings (pos 4294967297) (create_txn ∷ []) (made settings) touched rest bytes reply_of_create found
    (answered_by (after_create settings touched []).world touched (primed_session settings) node reply_of_create
    (joined_first settings) (no_ids_first settings) refl (node_there settings) refl refl create_replied)

pub get_after_set : (settings : Settings) (touched : TouchedSessions)
    → play_event (after_set settings touched) get_data_event
    ≡ replying reply_of_set_data (after_set settings (heard settings touched))
get_after_set settings touched =
    get_comes settings (pos 4294967298) (create_txn ∷ set_txn ∷ []) (written settings) touched []
    (get_data_frame_start ++ get_data_frame_end)
    reply_of_set_data get_found
    (answered_by (after_set settings touched).world touched (primed_session settings) written_node reply_of_set_data
    (joined_first settings) (no_ids_first settings) refl (written_there settings) refl refl set_replied)
