-- Without a leader an observer rests, and nothing goes out for one until a leader comes.
use Rattle.std.proofs.Common.{◌≡◌, ℕ, ℤ, negsuc, Bool, true, false, cond, ◌||◌, List, [], ◌∷◌, ◌++◌, map, Option, Some, None, Result, Ok, Err, refl, sym, ap, subst, ◌∙◌}
use Rattle.std.specs.Prelude.{is_some}
use Rattle.std.specs.List.{AllByRecursion, list_any}
use Rattle.std.specs.Ordering.{nat_cmp}
use Rattle.std.proofs.lemmas.Bool.{cond_both}
use Rattle.std.specs.FinMap as finmap
use mathlib.Core.Bool.{true≢false}
use Rattle.values.specs.declared.fault.Fault.{Fault}
use Rattle.jute.specs.Format.{◌>>=◌}
use Rattle.jute.specs.Stream.{Items, Unread, items_in, place_at, with_more_bytes}
use Rattle.quorum_packet.specs.declared.item.Item.{Item}
use Rattle.quorum_packet.specs.declared.packet.QuorumPacket.{QuorumPacket}
use Rattle.quorum_packet.specs.declared.phase.Phase.{Phase as FeedPhase}
use Rattle.quorum_packet.specs.Feed.{end_of}
use Rattle.quorum_packet.specs.Items.{items_shown_at}
use Rattle.learner_sync.specs.Learn.{start_in}
use Rattle.learner_sync.specs.Answers.{observer_info}
use Rattle.learner_sync.specs.declared.phase.Phase.{Phase}
use Rattle.learner_sync.specs.declared.phase.Phase.TheVariants.{Down}
use Rattle.replica.specs.Replica.{Replica}
use Rattle.replica.specs.Taking.{ItemEffect, take_item, is_serving_in, checkpoint_if, packets_of_act}
use Rattle.std.specs.List.{flat_map}
use Rattle.client_frames.specs.declared.connecting.Connecting.{Connecting}
use Rattle.client_frames.specs.Connect.{connecting_in}
use Rattle.four_letter.specs.declared.word.Word.{Word}
use Rattle.forwarding.specs.Pending.{is_idle, nothing_pending}
use Rattle.sessions.specs.Sessions.{session_in, session_of_connection, connection_of, give_session}
use Rattle.watch_manager.specs.Watches.{fire}
use Rattle.watch_manager.specs.declared.event.Event.{Event as NodeEvent}
use Rattle.client_records.specs.declared.codes.TheConstants.{NOTIFICATION_XID}
use Rattle.read_processor.specs.Events.{look_of_event}
use Rattle.read_processor.specs.Reply.{reply_frame}
use Rattle.world.specs.declared.output.Output.{Output}
use Rattle.world.specs.World.{OpenConnection, World}
use Rattle.world.specs.Steps.{StepResult, no_output, fold_steps}
use Rattle.world.specs.Clients.{idle_connection, is_open, heard_connection, with_connection, sent_to, notice_to, notices_of}
use Rattle.world.specs.Sending.{to_leader, close_client, close_client_if_some, with_sessions}
use Rattle.client_service.specs.Serve.{address_for, touched_as, handle_connect, serve_by, is_refused_frame, serve_frame, word_at, is_unheard, with_waiting_bytes, wait_if_heard, wait_at, frames_of_client, tell_or_serve, take_client_bytes}
use Rattle.observer_core.specs.declared.event.Event.{Event}
use Rattle.observer_core.specs.declared.event.Event.TheVariants as event
use Rattle.observer_core.specs.Machine.{Leader, Machine}
use Rattle.observer_core.specs.Leader.{WorldAndLoading, step_with_loading, tell_effect, answer_news, send_effect, item_step, Delivery, delivery_of, deliver_item, is_refused, deliver_all, place_after, part_reader, leader_at, meet_leader, disconnect_all, with_leader_or_fault, take_leader_bytes, on_stream_end, end_leader}
use Rattle.observer_core.specs.Play.{is_serving_clients, play_event, play}
use Rattle.observer_core.specs.Agreement.{ClientsAgree}
use Rattle.observer_core.specs.Leaderless.{is_for_leader, is_leader_close, NothingForLeader, is_leader_up, NoLeaderComes, IsResting, RestsWithoutLeader, SilentWithoutLeader}
use Rattle.observer_core.proofs.Keeping.{happening_keeps}
use Rattle.observer_core.proofs.Walking.{Steps, HoldsOfReplies, HoldsOfCalls, HoldsOfConnects, client_makes}
use Rattle.observer_core.proofs.Answered.{HoldsOfAll, news_make}
use Rattle.observer_core.proofs.Plain.{Always, plain_ground, plain_answer_ground}
use Rattle.observer_core.proofs.Apart.{all_joined}
use Rattle.observer_core.proofs.Events.{expired_is_closed, deliver_keeps, event_keeps}
use Rattle.observer_core.proofs.Agreeing.{Agreeing, LowerLaws}
use Rattle.observer_core.proofs.Agreed.{agreeing_kept}
use Rattle.observer_core.proofs.Unmoved.{client_same}
use Rattle.observer_core.proofs.Served.{IsQuiet, none_has, nobody_has, none_waits, nothing_waits, nothing_pending_waits, closed_quiet, serve_quiet, client_quiet, gone_nobody}

-- ---- a world that rests

resting_quiet : (w : World) → IsResting w → IsQuiet w.clients
resting_quiet w rests = record {
  nobody = nobody_has w.clients.sessions rests.none;
  nothing = nothing_waits w.clients.pending rests.idle;
}

quiet_rests : (w : World) → w.replica.learner.phase ≡ Down → IsQuiet w.clients → IsResting w
quiet_rests w down q = record {
  down = down;
  none = none_has w.clients.sessions q.nobody;
  idle = none_waits w.clients.pending q.nothing;
}

unserved : (w : World) → IsResting w → is_serving_clients w ≡ false
unserved w rests = ap is_serving_in rests.down

-- ---- a client that isn't served gets words and is closed

abbrev Silent : {S : Type 0} → StepResult S → Type 0
Silent h = NothingForLeader h.outputs

abbrev IsSilent : Output → Type 0
IsSilent output = is_for_leader output ≡ false

connect_silent : (n : ℕ) (w : World) (c : Result Connecting Fault) → Silent (handle_connect false n w c)
connect_silent n w (Err e) = (refl, tt)
connect_silent n w (Ok c) = (refl, tt)

by_silent : (n : ℕ) (w : World) (frame : List ℕ) (o : Option ℤ) → o ≡ None → IsQuiet w.clients
    → Silent (serve_by false n w frame o)
by_silent n w frame None e q =
    cond_both (is_idle w.clients.pending n) _ _ Silent (λ _. connect_silent n w (connecting_in frame)) (λ busy. tt)
by_silent n w frame (Some session) e q = absurd (true≢false (ap is_some e))

serve_silent : (n : ℕ) (w : World) (frame : List ℕ) → IsQuiet w.clients → Silent (serve_frame false n w frame)
serve_silent n w frame q = by (session_of_connection w.clients.sessions n) (none_has w.clients.sessions q.nobody n)
  where
    by : (o : Option ℤ) → o ≡ None
        → let v = touched_as w o in
        Silent (cond (is_refused_frame n v frame) (close_client n v)
        (serve_by false n v frame (session_of_connection v.clients.sessions n)))
    by None e =
        cond_both (is_refused_frame n w frame) _ _ Silent (λ _. (refl, tt))
        (λ _. by_silent n w frame (session_of_connection w.clients.sessions n)
        (none_has w.clients.sessions q.nobody n) q)
    by (Some session) e = absurd (true≢false (ap is_some e))

frames_silent : (n : ℕ) (w : World) (fs : List (List ℕ)) → IsQuiet w.clients
    → Silent (fold_steps (is_unheard n) (serve_frame false n) w fs)
frames_silent n w [] q = tt
frames_silent n w (f ∷ fs) q =
    let h = serve_frame false n w f in
    cond_both (is_unheard n w) _ _ Silent (λ _. tt)
    (λ _. all_joined IsSilent h.outputs (fold_steps (is_unheard n) (serve_frame false n) h.after fs).outputs
    (serve_silent n w f q) (frames_silent n h.after fs (serve_quiet n w f q)))

wait_silent : (n : ℕ) (w : World) (o : Option OpenConnection) (left : Unread) → Silent (wait_if_heard n w o left)
wait_silent n w None left = tt
wait_silent n w (Some k) (Ok rest) = tt
wait_silent n w (Some k) (Err e) = (refl, tt)

client_silent : (n : ℕ) (w : World) (o : Option OpenConnection) (bytes : List ℕ) → IsQuiet w.clients
    → Silent (take_client_bytes false n w o bytes)
client_silent n w None bytes q = tt
client_silent n w (Some k) bytes q = by (word_at n w came)
  where
    came : List ℕ
    came = k.rest ++ bytes

    v : World
    v = with_waiting_bytes n w k []

    by : (o : Option Word) → Silent (tell_or_serve false n v came o)
    by None =
        let found = items_in frames_of_client (place_at tt came) in
        let h = fold_steps (is_unheard n) (serve_frame false n) v found.found in
        all_joined IsSilent h.outputs (wait_at n found.left.unread h.after).outputs
        (frames_silent n v found.found (record { nobody = q.nobody; nothing = q.nothing }))
        (wait_silent n h.after (heard_connection n h.after.clients) found.left.unread)
    by (Some word) = (refl, (refl, tt))

left_silent : (w : World) (o : Option ℕ) → Silent (close_client_if_some w o)
left_silent w None = tt
left_silent w (Some n) = (refl, tt)

left_quiet : (w : World) (o : Option ℕ) → IsQuiet w.clients → IsQuiet (close_client_if_some w o).after.clients
left_quiet w None q = q
left_quiet w (Some n) q = closed_quiet n w.clients q

left_same : (w : World) (o : Option ℕ) → (close_client_if_some w o).after.replica ≡ w.replica
left_same w None = refl
left_same w (Some n) = refl

-- ---- events at a machine that rests

-- There is still no leader, the world rests, and nothing goes out for a leader.
record StaysSilent (h : StepResult Machine) : Type 0 where
  leader : h.after.leader ≡ None
  rests : IsResting h.after.world
  silent : Silent h

-- A step of the world that leaves the replica.
world_stays : (m : Machine) (h : StepResult World) → m.leader ≡ None → IsResting m.world
    → h.after.replica ≡ m.world.replica → IsQuiet h.after.clients → Silent h
    → StaysSilent (record { outputs = h.outputs; after = record { leader = m.leader; world = h.after } })
world_stays m h none rests same q silent = record {
  leader = none;
  rests = quiet_rests h.after (ap (λ (r : Replica). r.learner.phase) same ∙ rests.down) q;
  silent = silent;
}

bytes_stay : (m : Machine) (n : ℕ) (bytes : List ℕ) → m.leader ≡ None → IsResting m.world
    → StaysSilent (play_event m (event.ClientBytes n bytes))
bytes_stay m n bytes none rests =
    let w = m.world in
    let o = heard_connection n w.clients in
    let q = resting_quiet w rests in
    world_stays m (take_client_bytes (is_serving_clients w) n w o bytes) none rests
    (client_same (is_serving_clients w) n w o bytes)
    (subst (λ (b : Bool). IsQuiet (take_client_bytes b n w o bytes).after.clients) (sym (unserved w rests))
    (client_quiet n w o bytes q))
    (subst (λ (b : Bool). Silent (take_client_bytes b n w o bytes)) (sym (unserved w rests)) (client_silent n w o bytes q))

event_stays : (m : Machine) (e : Event) → is_leader_up e ≡ false → m.leader ≡ None → IsResting m.world
    → StaysSilent (play_event m e)
event_stays m event.LeaderUp up none rests = absurd (true≢false up)
event_stays m (event.LeaderBytes bytes) up none rests = by m.leader none
  where
    by : (o : Option Leader) → o ≡ None → StaysSilent (take_leader_bytes part_reader o m.world bytes)
    by None e = record { leader = refl; rests = rests; silent = tt }
    by (Some l) e = absurd (true≢false (ap is_some e))
event_stays m event.LeaderEnd up none rests = by m.leader none
  where
    by : (o : Option Leader) → o ≡ None → StaysSilent (end_leader part_reader o m.world)
    by None e = record { leader = refl; rests = rests; silent = tt }
    by (Some l) e = absurd (true≢false (ap is_some e))
event_stays m (event.ClientUp n address) up none rests =
    let w = m.world in
    cond_both (is_open n w.clients) w
    (record w { clients = with_connection n (idle_connection (address_for address w.settings.dialect)) w.clients })
    (λ (v : World). StaysSilent (no_output (record m { world = v })))
    (λ _. record { leader = none; rests = rests; silent = tt })
    (λ _. record {
      leader = none;
      rests = record { down = rests.down; none = rests.none; idle = rests.idle };
      silent = tt;
    })
event_stays m (event.ClientBytes n bytes) up none rests = bytes_stay m n bytes none rests
event_stays m (event.ClientEnd n) up none rests =
    let w = m.world in
    cond_both (is_open n w.clients) (close_client n w).after w
    (λ (v : World). StaysSilent (no_output (record m { world = v })))
    (λ _. world_stays m (no_output (close_client n w).after) none rests refl
    (closed_quiet n w.clients (resting_quiet w rests)) tt)
    (λ _. record { leader = none; rests = rests; silent = tt })
event_stays m (event.Expire session) up none rests =
    let w = m.world in
    let o = connection_of w.clients.sessions session in
    subst (λ (h : StepResult World). StaysSilent (record { outputs = h.outputs; after = record { leader = m.leader; world = h.after } }))
    (sym (expired_is_closed w session))
    (world_stays m (close_client_if_some w o) none rests (left_same w o) (left_quiet w o (resting_quiet w rests))
    (left_silent w o))
event_stays m event.Checkpoint up none rests =
    subst (λ (b : Bool). StaysSilent (no_output (record m { world = record m.world { replica = checkpoint_if b m.world.replica } })))
    (sym (unserved m.world rests)) (record { leader = none; rests = rests; silent = tt })

events_stay : (m : Machine) (events : List Event) → m.leader ≡ None → IsResting m.world → NoLeaderComes events
    → StaysSilent (play m events)
events_stay m [] none rests alone = record { leader = none; rests = rests; silent = tt }
events_stay m (e ∷ es) none rests alone =
    let h = play_event m e in
    let first = event_stays m e alone.0 none rests in
    let rest = events_stay h.after es first.leader first.rests alone.1 in
    record {
      leader = rest.leader;
      rests = rest.rests;
      silent = all_joined IsSilent h.outputs (play h.after es).outputs first.silent rest.silent;
    }

-- ---- after the end of a leader

module _ (laws : LowerLaws) where
  gone_rests : (w : World) → Agreeing w → IsResting (disconnect_all w).after
  gone_rests w a =
      quiet_rests (disconnect_all w).after refl
      (record { nobody = gone_nobody w a.joined; nothing = nothing_pending_waits })

  loss_rests : (w : World) (leader : Result Leader Fault) → Agreeing w
      → RestsWithoutLeader (with_leader_or_fault w leader).after
  loss_rests w (Ok l) a none = absurd (true≢false (ap is_some none))
  loss_rests w (Err e) a none = gone_rests w a

  taken_rests : (l : Leader) (w : World) (bytes : List ℕ) → Agreeing w
      → RestsWithoutLeader (take_leader_bytes part_reader (Some l) w bytes).after
  taken_rests l w bytes a =
      let v : WorldAndLoading = record { loading = l.loading; world = w } in
      let found = items_shown_at (with_more_bytes l.place bytes) in
      let d = (deliver_all item_step v found.found).after in
      loss_rests d.left.world (leader_at d.left.loading (place_after found.left d.fault))
      (happening_keeps (λ (d : Delivery WorldAndLoading). Agreeing d.left.world) is_refused (deliver_item item_step)
      (λ d i _. deliver_keeps Agreeing (agreeing_kept laws) d i)
      (record { left = v; fault = None }) found.found a)

  event_rests : (m : Machine) (e : Event) → Agreeing m.world → RestsWithoutLeader m
      → RestsWithoutLeader (play_event m e).after
  event_rests m event.LeaderUp a rests = by m.leader
    where
      by : (o : Option Leader) → RestsWithoutLeader (meet_leader part_reader o m.world).after
      by None none = absurd (true≢false (ap is_some none))
      by (Some l) none = absurd (true≢false (ap is_some none))
  event_rests m (event.LeaderBytes bytes) a rests = by m.leader rests
    where
      by : (o : Option Leader) → (o ≡ None → IsResting m.world)
          → RestsWithoutLeader (take_leader_bytes part_reader o m.world bytes).after
      by None rests none = rests refl
      by (Some l) rests none = taken_rests l m.world bytes a none
  event_rests m event.LeaderEnd a rests = by m.leader rests
    where
      ended : (r : Result (Unit {0}) Fault) → RestsWithoutLeader (on_stream_end {L = Leader} r m.world).after
      ended (Ok u) none = gone_rests m.world a
      ended (Err e) none = gone_rests m.world a

      by : (o : Option Leader) → (o ≡ None → IsResting m.world)
          → RestsWithoutLeader (end_leader part_reader o m.world).after
      by None rests none = rests refl
      by (Some l) rests none = ended (end_of l.place) none
  event_rests m (event.ClientUp n address) a rests = λ none.
      (event_stays m (event.ClientUp n address) refl none (rests none)).rests
  event_rests m (event.ClientBytes n bytes) a rests = λ none. (bytes_stay m n bytes none (rests none)).rests
  event_rests m (event.ClientEnd n) a rests = λ none.
      (event_stays m (event.ClientEnd n) refl none (rests none)).rests
  event_rests m (event.Expire session) a rests = λ none.
      (event_stays m (event.Expire session) refl none (rests none)).rests
  event_rests m event.Checkpoint a rests = λ none. (event_stays m event.Checkpoint refl none (rests none)).rests

  plays_rest : (m : Machine) (events : List Event) → ClientsAgree m.world.clients → RestsWithoutLeader m
      → RestsWithoutLeader (play m events).after
  plays_rest m events a rests =
      (happening_keeps (λ (m : Machine). Agreeing m.world × RestsWithoutLeader m) (λ _. false) play_event
      (λ m e _ h. (event_keeps Agreeing (agreeing_kept laws) m e h.0, event_rests m e h.0 h.1)) m events
      (a, rests)).1

-- ---- a leader that is closed

abbrev IsOpenStill : Output → Type 0
IsOpenStill output = is_leader_close output ≡ false

-- No output of the step closes the leader.
abbrev LeavesLeader : Steps
LeavesLeader w h = AllByRecursion IsOpenStill h.outputs

replies_leave : (n : ℕ) → HoldsOfReplies n Always LeavesLeader
replies_leave n = record {
  thens = λ w h next first second. all_joined IsOpenStill h.outputs (next h.after).outputs first second;
  stays = λ w. tt;
  closes = λ w a. (refl, tt);
  sends = λ w bytes shows. (refl, tt);
  watches = λ w watch a. tt;
  unwatches = λ w kind path a. tt;
  shows = λ w id a. tt;
}

calls_leave : (n : ℕ) → HoldsOfCalls n Always (λ session. Unit {0}) LeavesLeader
calls_leave n = record {
  touches = λ w session own a. tt;
  leaves = λ w k there a. tt;
  writes = λ w session frame xid kind own a. (refl, tt);
  syncs = λ w session frame xid path own a. (refl, tt);
  holds = λ w frame busy a. tt;
}

left_leaves : (w : World) (o : Option ℕ) → AllByRecursion IsOpenStill (close_client_if_some w o).outputs
left_leaves w None = tt
left_leaves w (Some n) = (refl, tt)

connects_leave : (n : ℕ) → HoldsOfConnects n Always (λ session. Unit {0}) (λ w session. Unit {0}) LeavesLeader
connects_leave n = record {
  own = λ session. tt;
  counts = λ w none a. tt;
  gives = λ w session time_out free may a.
      let c = give_session w.clients.sessions n session time_out in
      left_leaves (with_sessions w c.after) c.connected.older;
  asks = λ w time_out has_byte none idle a b. (refl, tt);
  displaces = λ w session k with a. (refl, tt);
  claims = λ w has_byte response move none idle a. (refl, tt);
  may = λ w session live. tt;
}

all_leave : HoldsOfAll ⊥ Always LeavesLeader
all_leave = record {
  ground = plain_ground;
  answer_ground = plain_answer_ground;
  settles_ground = λ w a. tt;
  tells_ground = λ w timeouts a. tt;
  replies = replies_leave;
  calls = calls_leave;
  connects = connects_leave;
  answers = λ n. record { takes = λ w a. tt; answers = λ w xid txn_kind a. tt; drops = λ w a. tt };
  settles = λ w a. tt;
  tells = λ w ping a. (refl, tt);
}

sent_leave : (n : ℕ) (frame : Option (List ℕ)) → AllByRecursion IsOpenStill (sent_to n frame)
sent_leave n None = tt
sent_leave n (Some bytes) = (refl, tt)

notices_leave : (events : List (ℕ × NodeEvent)) → AllByRecursion IsOpenStill (notices_of events)
notices_leave [] = tt
notices_leave (told ∷ others) =
    all_joined IsOpenStill (notice_to told.0 told.1) (notices_of others)
    (sent_leave told.0 (reply_frame NOTIFICATION_XID (negsuc 0) (look_of_event told.1))) (notices_leave others)

packets_leave : (packets : List QuorumPacket) → AllByRecursion IsOpenStill (map to_leader packets)
packets_leave [] = tt
packets_leave (p ∷ others) = (refl, packets_leave others)

effect_leaves : (w : World) (t : ItemEffect) → AllByRecursion IsOpenStill (send_effect w t).outputs
effect_leaves w t =
    let told = tell_effect w t in
    let events = (fire w.clients.watches t.triggers).events in
    all_joined IsOpenStill told.outputs (answer_news t.news told.after).outputs
    (all_joined IsOpenStill (map to_leader t.replies) (notices_of events) (packets_leave t.replies)
    (notices_leave events))
    (news_make ⊥ Always LeavesLeader all_leave (λ n w bytes. (refl, tt)) t.news told.after tt).is

deliver_leaves : (d : Delivery WorldAndLoading) (i : Item) → AllByRecursion IsOpenStill (deliver_item item_step d i).outputs
deliver_leaves d i = by (take_item d.left.loading d.left.world.replica i)
  where
    by : (r : Result ItemEffect Fault) → AllByRecursion IsOpenStill
        (delivery_of (r >>= λ t. Ok (step_with_loading t.loading (send_effect d.left.world t))) d.left).outputs
    by (Ok t) = effect_leaves d.left.world t
    by (Err f) = tt

delivered_leave : (d : Delivery WorldAndLoading) (items : List Item)
    → AllByRecursion IsOpenStill (fold_steps is_refused (deliver_item item_step) d items).outputs
delivered_leave d [] = tt
delivered_leave d (i ∷ others) =
    let h = deliver_item item_step d i in
    cond_both (is_refused d) _ _ (λ (h : StepResult (Delivery WorldAndLoading)). AllByRecursion IsOpenStill h.outputs)
    (λ _. tt)
    (λ _. all_joined IsOpenStill h.outputs (fold_steps is_refused (deliver_item item_step) h.after others).outputs
    (deliver_leaves d i) (delivered_leave h.after others))

none_closes : (outputs : List Output) → AllByRecursion IsOpenStill outputs → list_any is_leader_close outputs ≡ false
none_closes [] all = refl
none_closes (o ∷ others) all = ap (λ b. b || list_any is_leader_close others) all.0 ∙ none_closes others all.1

-- No output closes the leader, or there is none after the event.
open_or_gone : (h : StepResult Machine) → AllByRecursion IsOpenStill h.outputs
    → list_any is_leader_close h.outputs ≡ true → h.after.leader ≡ None
open_or_gone h all closes = absurd (true≢false (sym closes ∙ none_closes h.outputs all))

taken_closes : (leader : Option Leader) (w : World) (bytes : List ℕ)
    → list_any is_leader_close (take_leader_bytes part_reader leader w bytes).outputs ≡ true
    → (take_leader_bytes part_reader leader w bytes).after.leader ≡ None
taken_closes None w bytes closes = refl
taken_closes (Some l) w bytes closes =
    by (leader_at h.after.left.loading (place_after found.left h.after.fault)) closes
  where
    found : Items FeedPhase Item
    found = items_shown_at (with_more_bytes l.place bytes)

    h : StepResult (Delivery WorldAndLoading)
    h = deliver_all item_step (record { loading = l.loading; world = w }) found.found

    delivered : AllByRecursion IsOpenStill h.outputs
    delivered = delivered_leave (record { left = record { loading = l.loading; world = w }; fault = None }) found.found

    by : (r : Result Leader Fault)
        → list_any is_leader_close (h.outputs ++ (with_leader_or_fault h.after.left.world r).outputs) ≡ true
        → (with_leader_or_fault h.after.left.world r).after.leader ≡ None
    by (Ok k) closes =
        absurd (true≢false (sym closes
        ∙ none_closes (h.outputs ++ []) (all_joined IsOpenStill h.outputs [] delivered tt)))
    by (Err e) closes = refl

ended_closes : (leader : Option Leader) (w : World) → (end_leader part_reader leader w).after.leader ≡ None
ended_closes None w = refl
ended_closes (Some l) w = by (end_of l.place)
  where
    by : (r : Result (Unit {0}) Fault) → (on_stream_end {L = Leader} r w).after.leader ≡ None
    by (Ok u) = refl
    by (Err e) = refl

event_closes : (m : Machine) (e : Event) → list_any is_leader_close (play_event m e).outputs ≡ true
    → (play_event m e).after.leader ≡ None
event_closes m event.LeaderUp closes = by m.leader closes
  where
    by : (o : Option Leader) → list_any is_leader_close (meet_leader part_reader o m.world).outputs ≡ true
        → (meet_leader part_reader o m.world).after.leader ≡ None
    by None closes = open_or_gone (meet_leader part_reader None m.world) (packets_leave _) closes
    by (Some l) closes = absurd (true≢false (sym closes))
event_closes m (event.LeaderBytes bytes) closes = taken_closes m.leader m.world bytes closes
event_closes m event.LeaderEnd closes = ended_closes m.leader m.world
event_closes m (event.ClientUp n address) closes = absurd (true≢false (sym closes))
event_closes m (event.ClientBytes n bytes) closes =
    let w = m.world in
    open_or_gone (play_event m (event.ClientBytes n bytes))
    (client_makes n ⊥ Always LeavesLeader (plain_ground n) (replies_leave n) (λ session. Unit {0}) (calls_leave n)
    (λ w session. Unit {0}) (connects_leave n) (λ w k rest a. tt) (is_serving_clients w) w
    (heard_connection n w.clients) bytes tt).is closes
event_closes m (event.ClientEnd n) closes = absurd (true≢false (sym closes))
event_closes m (event.Expire session) closes =
    open_or_gone (play_event m (event.Expire session))
    (left_leaves (with_sessions m.world _) (connection_of m.world.clients.sessions session)) closes
event_closes m event.Checkpoint closes = absurd (true≢false (sym closes))

-- ---- a leader that comes

introduced : (m : Machine) → m.leader ≡ None → IsResting m.world
    → (play_event m event.LeaderUp).outputs
    ≡ to_leader (observer_info m.world.replica.learner m.world.settings.server_id) ∷ []
introduced m none rests =
    ap (λ (o : Option Leader). (meet_leader part_reader o m.world).outputs) none
    ∙ ap (λ (ph : Phase). map to_leader (flat_map packets_of_act
    (start_in ph m.world.replica.learner m.world.settings.server_id).acts)) rests.down

pub silent_without_leader : LowerLaws → SilentWithoutLeader
silent_without_leader laws = record {
  starts = λ settings none. record {
    down = refl;
    none = λ n. ap session_in (finmap.get-empty nat_cmp n);
    idle = λ n. none_waits nothing_pending nothing_pending_waits n;
  };
  starts_primed = λ settings none. absurd (true≢false (ap is_some none));
  plays = plays_rest laws;
  ends = λ m. ended_closes m.leader m.world;
  closes = event_closes;
  stays = λ m events none rests alone. (events_stay m events none rests alone).leader;
  silent = λ m events none rests alone. (events_stay m events none rests alone).silent;
  introduces = introduced;
}
