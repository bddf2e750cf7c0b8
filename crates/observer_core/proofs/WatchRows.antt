-- The worked rows of watches, and all rows that no leader answers.
use Rattle.std.proofs.Common.{◌≡◌, ℕ, List, [], ◌∷◌, ◌++◌, Option, Some, None, Ok, Bool, true, false, cond, refl, ap, ◌∙◌}
use Rattle.std.specs.Prelude.{ℤ, pos, negsuc, codes}
use Rattle.std.specs.FinMap as finmap
use Rattle.std.specs.FinSet as set
use Rattle.std.specs.Cmp.Lexicographic.{slice_cmp, nat_list_cmp_total}
use Rattle.std.proofs.lemmas.Str.{is_utf8-from_IsUtf8}
use Rattle.std.specs.Ordering.{nat_cmp}
use Rattle.values.specs.declared.fault.Fault.TheVariants.{OutOfOrder}
use Rattle.jute.specs.Format.{judged_at, buffer_at, number_bytes}
use Rattle.jute.specs.Frame.{frame_at}
use Rattle.jute.specs.Records.{request_header, reply_header}
use Rattle.client_records.specs.declared.kind.ReadKind.TheVariants.{Exists}
use Rattle.client_records.specs.declared.kind.RequestKind.TheVariants as kinds
use Rattle.settings.specs.declared.dialect.Dialect.{Dialect}
use Rattle.client_records.specs.Kinds.{kind_of as request_kind_of, request_kind_in}
use Rattle.client_records.specs.Requests.{path_and_watch}
use Rattle.client_records.specs.Responses.{watcher_event}
use Rattle.client_records.specs.declared.codes.TheConstants.{NOTIFICATION_XID}
use Rattle.jute.specs.declared.codes.TheConstants.{NO_NODE}
use Rattle.jute.specs.Stream.{items_within, items_in, place_at}
use Rattle.node_map.specs.declared.node.Node.{Node}
use Rattle.data_tree.specs.State.{State}
use Rattle.txn_codec.specs.declared.txn.Operation.TheVariants as operations
use Rattle.forwarding.specs.State.{TouchedSessions}
use Rattle.data_tree.specs.Meaning.{effect_of_txn, fresh_state, create_new, create_taken, create_under, of_effect}
use Rattle.data_tree.specs.declared.outcome.Trigger.TheVariants.{Created, ChildrenChanged}
use Rattle.jute.specs.declared.owned.Id.{Id}
use Rattle.watch_manager.specs.declared.event.Event.{Event as NodeEvent}
use Rattle.watch_manager.specs.declared.event.EventKind.TheVariants.{NodeCreated}
use Rattle.watch_manager.specs.Watching.{WatchTables, no_watch}
use Rattle.watch_manager.specs.Rows.{watches_on, WorkedRows as FiringRows}
use Rattle.watch_manager.specs.Watches.{FireResult, fire}
use Rattle.read_processor.specs.Watch.{watch_of}
use Rattle.world.specs.declared.world.Settings.{Settings}
use Rattle.client_frames.specs.declared.call.CallBody.TheVariants.{Local}
use Rattle.client_frames.specs.declared.call.LocalCall.TheVariants.{Read}
use Rattle.observer_core.specs.declared.event.Event.{Event}
use Rattle.observer_core.specs.declared.event.Event.TheVariants.{ClientBytes}
use Rattle.world.specs.declared.output.Output.TheVariants.{ToClient, CloseLeader, CloseClient}
use Rattle.read_processor.specs.declared.shown.Look.{Look}
use Rattle.read_processor.specs.declared.request.Request.{Request}
use Rattle.read_processor.specs.Events.{look_of_event}
use Rattle.read_processor.specs.Look.{look_at_state, without_body, look_at_node}
use Rattle.read_processor.specs.Reply.{reply_frame}
use Rattle.values.specs.Hex.{hex_bytes}
use Rattle.observer_core.specs.Rows.{inform_of_create, get_data_frame_start, get_data_frame_end, reply_of_create, reply_of_set_data, exists_watch_frame, reply_of_missing, event_of_create, create_inform_event, set_data_inform_event, get_data_event, exists_watch_event}
use Rattle.world.specs.World.{OpenConnection, World}
use Rattle.observer_core.specs.Machine.{Leader, Machine}
use Rattle.client_frames.specs.Call.{call_in, call_after_header, call_body, read_as, read_with_flag, value_if_read}
use Rattle.world.specs.Steps.{StepResult, prepend_outputs, no_output}
use Rattle.world.specs.Clients.{heard_in, sent_to, notices_of}
use Rattle.observer_core.specs.Leader.{with_leader}
use Rattle.world.specs.Sending.{send_or_close, send_reply, with_watches}
use Rattle.client_service.specs.Serve.{with_watch_if, serve_as, serve_frame, frames_of_client, take_client_bytes}
use Rattle.observer_core.specs.Play.{play_event, play, primed_session, new_machine}
use Rattle.world.proofs.NatMaps.{get-removed}
use Rattle.observer_core.proofs.Rows.{earlier_machine, path_is_text, create_header, create_body, create_txn, create_fits, root, root_there, name_free, start, made-is, create_found, one_frame, get_found, heard_in_world, served_at, handled_at, unasked, NobodyTold, ReadAgain, at_first, heard, joined_first, no_ids_first, world_at, beginning, following, one_delivered, inform_comes, after_create, after_set, told, told_by, meant_create, create_results, create_comes, set_comes, closed, refusing, create_comes_again, replying, in_hand, frame_served, first_open, front_comes, get_after_create, get_after_set}

-- ---- a watch

abbrev exists_frame : List ℕ
exists_frame = hex_bytes (codes "00000002 00000003 00000002 2f61 01")

abbrev exists_body : List ℕ
exists_body = hex_bytes (codes "00000002 2f61 01")

exists_found : items_in frames_of_client (place_at tt exists_watch_frame) ≡ one_frame exists_frame
unfolding items_within frame_at judged_at
exists_found = refl

exists_header : request_header.read exists_frame ≡ Ok (record { xid = pos 2; kind = pos 3 }, exists_body)
unfolding request_header
exists_header = refl

exists_kind : (dialect : Dialect) → request_kind_in dialect (pos 3) ≡ Some (kinds.Read Exists)
unfolding request_kind_of
exists_kind dialect = refl

exists_body_read : path_and_watch.read exists_body ≡ Ok (record { path = Some (codes "/a"); watch = true }, [])
unfolding path_and_watch judged_at buffer_at
exists_body_read = rw (is_utf8-from_IsUtf8 (codes "/a") path_is_text)

abbrev watch_wanted : Dialect → Request
watch_wanted dialect = record { kind = Exists; path = Some (codes "/a"); watch = true; rules = dialect }

exists_read : (dialect : Dialect) → call_in dialect exists_frame
    ≡ Ok (record { xid = pos 2; body = Local (Read (watch_wanted dialect)) })
exists_read dialect =
    ap (call_after_header dialect) exists_header
    ∙ ap (λ k. Ok (record { xid = pos 2; body = call_body dialect k exists_body })) (exists_kind dialect)
    ∙ ap (λ r. Ok (record { xid = pos 2; body = Local (read_as (read_with_flag dialect Exists) (value_if_read r)) }))
    exists_body_read

nothing_there : finmap.get fresh_state.nodes (codes "/a") ≡ None
nothing_there = simp (finmap.get-insert {X = Node} nat_list_cmp_total, finmap.get-empty {X = Node} (slice_cmp nat_cmp))

missing_replied : reply_frame (pos 2) (pos 0) (without_body NO_NODE) ≡ Some reply_of_missing
unfolding reply_header number_bytes
missing_replied = refl

-- Connection 1 watches /a.
abbrev one_watch : WatchTables
one_watch = watches_on ((codes "/a", 1) ∷ []) []

abbrev waiting : Settings → World
waiting settings =
    with_watches (world_at settings (pos 0) [] (start settings) (heard settings set.empty) []) one_watch

exists_served : (settings : Settings)
    → serve_frame true 1 (world_at settings (pos 0) [] (start settings) set.empty []) exists_frame
    ≡ record { outputs = ToClient 1 reply_of_missing ∷ []; after = waiting settings }
exists_served settings =
    served_at w set.empty session exists_frame (joined_first settings) refl refl
    ∙ ap (serve_as 1 session v exists_frame) (exists_read settings.dialect)
    ∙ handled_at v (heard settings set.empty) exists_frame (pos 2) (Read (watch_wanted settings.dialect)) refl
    ∙ ap (λ (ids : List Id). looked (look_at_state w.replica.tree ids (watch_wanted settings.dialect))) (no_ids_first settings)
    ∙ ap (λ (o : Option Node). looked (look_at_node [] (watch_wanted settings.dialect) o)) nothing_there
    ∙ ap (send_or_close 1 (waiting settings)) missing_replied
  where
    session : ℤ
    session = primed_session settings

    w : World
    w = world_at settings (pos 0) [] (start settings) set.empty []

    v : World
    v = heard_in_world w set.empty session

    looked : Look → StepResult World
    looked seen = send_reply 1 (with_watches v (with_watch_if 1 v.clients.watches (watch_of (watch_wanted settings.dialect) seen.error)))
        (pos 2) seen

abbrev awaiting : Settings → Machine
awaiting settings = record { leader = Some beginning; world = waiting settings }

exists_comes : (settings : Settings)
    → play_event (earlier_machine settings) exists_watch_event ≡ replying reply_of_missing (awaiting settings)
exists_comes settings =
    in_hand settings (pos 0) [] (start settings) set.empty [] exists_watch_frame
    ∙ frame_served 1 (world_at settings (pos 0) [] (start settings) set.empty []) (waiting settings) exists_watch_frame
    exists_frame (ToClient 1 reply_of_missing) first_open first_open exists_found (exists_served settings)

-- The triggers of the create.
create_triggers : (settings : Settings) → (effect_of_txn (start settings) create_txn).triggers
    ≡ Created (codes "/a") ∷ ChildrenChanged (codes "/") ∷ []
create_triggers settings =
    let s = start settings in
    ap (λ (o : Option Node). (of_effect (create_under create_header create_body o) s).triggers) root_there
    ∙ ap (λ (b : Bool). (of_effect
    (cond b (create_taken create_header create_body root) (create_new create_header create_body root))
    s).triggers) name_free

abbrev node_created : NodeEvent
node_created = record { kind = NodeCreated; path = codes "/a" }

event_sent : reply_frame NOTIFICATION_XID (negsuc 0) (look_of_event node_created) ≡ Some event_of_create
unfolding reply_header watcher_event number_bytes
event_sent = refl

watched_create_comes : (again : ReadAgain) (rows : FiringRows) (settings : Settings)
    → play_event (awaiting settings) create_inform_event
    ≡ replying event_of_create (after_create settings (heard settings set.empty) [])
watched_create_comes again rows settings =
    let w = waiting settings in
    let clients = w.clients in
    let touched = heard settings set.empty in
    let results = create_results settings in
    let unwatching = with_watches (meant_create settings clients) no_watch in
    inform_comes again settings (pos 0) [] (start settings) clients inform_of_create (pos 4294967297) create_txn
    create_fits create_found
    ∙ ap (λ (f : FireResult). one_delivered w (told_by (meant_create settings clients) results f))
    (ap (fire one_watch) (create_triggers settings) ∙ rows.created)
    ∙ ap (λ (h : StepResult World). one_delivered w (told (notices_of ((1, node_created) ∷ [])) h))
    (unasked create_header (operations.Create create_body) unwatching touched 0 results refl refl)
    ∙ ap (λ (frame : Option (List ℕ)). one_delivered w (told (sent_to 1 frame ++ []) (no_output unwatching)))
    event_sent
    ∙ ap (λ (s : State). replying event_of_create
    (following settings (pos 4294967297) (create_txn ∷ []) s touched [])) (made-is settings)

-- ---- the rows

step : (m : Machine) (e : Event) (events : List Event) (h : StepResult Machine) → play_event m e ≡ h
    → play m (e ∷ events) ≡ prepend_outputs h.outputs (play h.after events)
step m e events h is = ap (λ (g : StepResult Machine). prepend_outputs g.outputs (play g.after events)) is

pub create_get : (again : ReadAgain) (nobody : NobodyTold) (settings : Settings) (events : List Event)
    → play (earlier_machine settings) (create_inform_event ∷ get_data_event ∷ events)
    ≡ prepend_outputs (ToClient 1 reply_of_create ∷ [])
    (play (after_create settings (heard settings set.empty) []) events)
create_get again nobody settings events =
    let before = after_create settings set.empty [] in
    step (earlier_machine settings) create_inform_event (get_data_event ∷ events) (no_output before)
    (create_comes again nobody settings set.empty [])
    ∙ step before get_data_event events
    (replying reply_of_create (after_create settings (heard settings set.empty) []))
    (get_after_create settings set.empty [] (get_data_frame_start ++ get_data_frame_end) get_found)

pub set_get : (again : ReadAgain) (nobody : NobodyTold) (settings : Settings) (touched : TouchedSessions)
    → play (after_create settings touched []) (set_data_inform_event ∷ get_data_event ∷ [])
    ≡ replying reply_of_set_data (after_set settings (heard settings touched))
set_get again nobody settings touched =
    step (after_create settings touched []) set_data_inform_event (get_data_event ∷ [])
    (no_output (after_set settings touched)) (set_comes again nobody settings touched)
    ∙ step (after_set settings touched) get_data_event []
    (replying reply_of_set_data (after_set settings (heard settings touched))) (get_after_set settings touched)

pub cut_get : (again : ReadAgain) (nobody : NobodyTold) (settings : Settings)
    → play (earlier_machine settings)
    (ClientBytes 1 get_data_frame_start ∷ create_inform_event ∷ ClientBytes 1 get_data_frame_end ∷ [])
    ≡ replying reply_of_create (after_create settings (heard settings set.empty) [])
cut_get again nobody settings =
    let begun = following settings (pos 0) [] (start settings) set.empty get_data_frame_start in
    step (earlier_machine settings) (ClientBytes 1 get_data_frame_start)
    (create_inform_event ∷ ClientBytes 1 get_data_frame_end ∷ [])
    (no_output begun) (front_comes settings)
    ∙ step begun create_inform_event (ClientBytes 1 get_data_frame_end ∷ [])
    (no_output (after_create settings set.empty get_data_frame_start))
    (create_comes again nobody settings set.empty get_data_frame_start)
    ∙ step (after_create settings set.empty get_data_frame_start) (ClientBytes 1 get_data_frame_end) []
    (replying reply_of_create (after_create settings (heard settings set.empty) []))
    (get_after_create settings set.empty get_data_frame_start get_data_frame_end get_found)

pub create_twice : (again : ReadAgain) (nobody : NobodyTold) (settings : Settings)
    → play (earlier_machine settings)
    (create_inform_event ∷ create_inform_event ∷ set_data_inform_event ∷ get_data_event ∷ []) ≡ prepend_outputs
    (CloseLeader OutOfOrder ∷ CloseClient 1 ∷ []) (play (closed settings) (set_data_inform_event ∷ get_data_event ∷ []))
create_twice again nobody settings =
    step (earlier_machine settings) create_inform_event
    (create_inform_event ∷ set_data_inform_event ∷ get_data_event ∷ []) (no_output (after_create settings set.empty []))
    (create_comes again nobody settings set.empty [])
    ∙ step (after_create settings set.empty []) create_inform_event (set_data_inform_event ∷ get_data_event ∷ [])
    (refusing settings)
    (create_comes_again again settings)

pub watch_told : (again : ReadAgain) (nobody : NobodyTold) (rows : FiringRows) (settings : Settings)
    → play (earlier_machine settings) (exists_watch_event ∷ create_inform_event ∷ set_data_inform_event ∷ [])
    ≡ (record {
      outputs = ToClient 1 reply_of_missing ∷ ToClient 1 event_of_create ∷ [];
      after = after_set settings (heard settings set.empty);
    })
watch_told again nobody rows settings =
    let touched = heard settings set.empty in
    step (earlier_machine settings) exists_watch_event (create_inform_event ∷ set_data_inform_event ∷ [])
    (replying reply_of_missing (awaiting settings))
    (exists_comes settings)
    ∙ ap (prepend_outputs (ToClient 1 reply_of_missing ∷ []))
    (step (awaiting settings) create_inform_event (set_data_inform_event ∷ [])
    (replying event_of_create (after_create settings touched []))
    (watched_create_comes again rows settings)
    ∙ ap (prepend_outputs (ToClient 1 event_of_create ∷ []))
    (step (after_create settings touched []) set_data_inform_event [] (no_output (after_set settings touched))
    (set_comes again nobody settings touched)))

pub idle_is : (settings : Settings)
    → (play (new_machine settings) (create_inform_event ∷ get_data_event ∷ [])).outputs ≡ []
idle_is settings = ap (λ (o : Option OpenConnection).
    (with_leader {L = Leader} None (take_client_bytes false 1 (new_machine settings).world (heard_in o)
    (get_data_frame_start ++ get_data_frame_end))).outputs
    ++ []) (finmap.get-empty nat_cmp 1)

pub closed_passes : (settings : Settings)
    → (prepend_outputs (CloseLeader OutOfOrder ∷ CloseClient 1 ∷ [])
    (play (closed settings) (set_data_inform_event ∷ get_data_event ∷ []))).outputs
    ≡ CloseLeader OutOfOrder ∷ CloseClient 1 ∷ []
closed_passes settings =
    ap (λ (o : Option OpenConnection). (CloseLeader OutOfOrder ∷ CloseClient 1 ∷ [])
    ++ ((with_leader {L = Leader} None
    (take_client_bytes false 1 (closed settings).world (heard_in o)
    (get_data_frame_start ++ get_data_frame_end))).outputs ++ []))
    (get-removed (at_first []) 1)
