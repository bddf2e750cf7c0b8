-- The frames that are sent show the tree of the replica, or none.
use Rattle.std.proofs.Common.{◌≡◌, inl, inr, ℕ, ◌-◌, negsuc, false, List, [], ◌∷◌, ◌++◌, map, length, slice_get, Option, Some, None, Result, Ok, Err, refl, sym, ap, subst, ◌∙◌, append_assoc}
use Rattle.std.specs.List.{AllByRecursion}
use Rattle.std.proofs.lemmas.List.{append-nil}
use Rattle.std.specs.FinMap as finmap
use Rattle.std.proofs.lemmas.Bool.{cond_both}
use Rattle.values.specs.declared.fault.Fault.{Fault}
use Rattle.jute.specs.Format.{◌>>=◌}
use Rattle.txn_codec.specs.declared.txn.Txn.{Txn}
use Rattle.snapshot_codec.specs.Made.{Loading, with_loaded}
use Rattle.quorum_packet.specs.declared.item.Item.{Item}
use Rattle.quorum_packet.specs.declared.packet.QuorumPacket.{QuorumPacket}
use Rattle.learner_sync.specs.Learn.{LearnerStep, learn_item}
use Rattle.learner_sync.specs.declared.act.Act.{Act}
use Rattle.learner_sync.specs.declared.act.Act.TheVariants as act
use Rattle.replica.specs.Replica.{Replica}
use Rattle.replica.specs.Taking.{ItemEffect, no_effect, last_txn, apply_to_tree, carry_out, carry_out_all, with_learner, take_item, follow_leader}
use Rattle.replica.specs.Laws.{LogsAreFollowed as ReplicasFollow, ServingStays}
use Rattle.learner_sync.specs.Laws.{ServingRises}
use Rattle.replica.specs.declared.item_outcome.LeaderNews.{LeaderNews}
use Rattle.replica.specs.declared.item_outcome.LeaderNews.TheVariants as news
use Rattle.sessions.specs.Sessions.{connection_of, give_session, expire_owner}
use Rattle.watch_manager.specs.Watches.{fire}
use Rattle.watch_manager.specs.declared.event.Event.{Event as WatchEvent}
use Rattle.client_records.specs.declared.codes.TheConstants.{NOTIFICATION_XID}
use Rattle.read_processor.specs.Events.{look_of_event}
use Rattle.read_processor.specs.Reply.{reply_frame}
use Rattle.world.specs.declared.output.Output.{Output}
use Rattle.world.specs.declared.output.Output.TheVariants.{CloseClient}
use Rattle.world.specs.World.{World}
use Rattle.world.specs.Steps.{StepResult, and_then, fold_steps}
use Rattle.world.specs.Clients.{heard_connection, sent_to, notice_to, notices_of}
use Rattle.world.specs.Sending.{to_leader, with_sessions, close_client_if_some}
use Rattle.world.proofs.Steps.{goes_on, happening_on}
use Rattle.client_service.specs.Serve.{take_client_bytes}
use Rattle.observer_core.specs.declared.event.Event.{Event}
use Rattle.observer_core.specs.declared.event.Event.TheVariants as event
use Rattle.observer_core.specs.Machine.{Leader, Machine}
use Rattle.observer_core.specs.Leader.{tell_effect, answer_news, WorldAndLoading, step_with_loading, send_effect, item_step, Delivery, delivery_of, deliver_item, is_refused, part_reader, meet_leader, with_leader_or_fault, leader_at, place_after, on_stream_end, end_leader}
use Rattle.quorum_packet.specs.Feed.{end_of}
use Rattle.observer_core.specs.Logs.{delivery_of_items, items_of_bytes}
use Rattle.observer_core.specs.Play.{is_serving_clients, play_event}
use Rattle.observer_core.specs.Shown.{IsWriteReply, IsShownBy, IsShownOnTheWay, IsShownWhile, IsShownIn, RepliesShowTrees}
use Rattle.observer_core.proofs.Keeping.{happening_keeps}
use Rattle.observer_core.proofs.Stepping.{Steps, ShowsNow, sent_bytes}
use Rattle.observer_core.proofs.Walking.{client_makes}
use Rattle.observer_core.proofs.Answered.{HoldsOfAll, HoldsOfReply, answers_make}
use Rattle.observer_core.proofs.Plain.{Always, plain_ground, plain_answer_ground}
use Rattle.observer_core.proofs.Apart.{all_joined}
use Rattle.observer_core.proofs.Logs.{Follows, deliver_follows}
use Rattle.observer_core.proofs.Growing.{event_grows, grows_on}

-- ---- what a connection's small steps show

-- The step leaves the replica, and its frames show the tree.
abbrev ShowsReplica : Steps
ShowsReplica w h = (h.after.replica ≡ w.replica) × AllByRecursion (IsShownBy w.replica) h.outputs

then_shows : (w : World) (h : StepResult World) (next : World → StepResult World) → ShowsReplica w h
    → ShowsReplica h.after (next h.after) → ShowsReplica w (and_then h next)
then_shows w h next first second = (
  second.0 ∙ first.0,
  all_joined (IsShownBy w.replica) h.outputs (next h.after).outputs first.1
      (subst (λ (r : Replica). AllByRecursion (IsShownBy r) (next h.after).outputs) first.0 second.1),
)

left_shows : (w : World) (o : Option ℕ) → ShowsReplica w (close_client_if_some w o)
left_shows w None = (refl, tt)
left_shows w (Some n) = (refl, (tt, tt))

sent_shows : (n : ℕ) (w : World) (bytes : List ℕ) → ShowsNow w bytes → ShowsReplica w (sent_bytes n bytes w)
sent_shows n w bytes (inl read) = (refl, (inl read, tt))
sent_shows n w bytes (inr none) = (refl, (inr (inr (inr none)), tt))

all_show : HoldsOfAll ⊥ Always ShowsReplica
all_show = record {
  ground = plain_ground;
  answer_ground = plain_answer_ground;
  settles_ground = λ w a. tt;
  tells_ground = λ w timeouts a. tt;
  replies = λ n. record {
    thens = then_shows;
    stays = λ w. (refl, tt);
    closes = λ w a. (refl, (tt, tt));
    sends = λ w bytes shows. sent_shows n w bytes shows;
    watches = λ w watch a. (refl, tt);
    unwatches = λ w kind path a. (refl, tt);
    shows = λ w id a. (refl, tt);
  };
  calls = λ n. record {
    touches = λ w session own a. (refl, tt);
    leaves = λ w k there a. (refl, tt);
    writes = λ w session frame xid kind own a. (refl, (tt, tt));
    syncs = λ w session frame xid path own a. (refl, (tt, tt));
    holds = λ w frame busy a. (refl, tt);
  };
  connects = λ n. record {
    own = λ session. tt;
    counts = λ w none a. (refl, tt);
    gives = λ w session time_out free may a.
        let c = give_session w.clients.sessions n session time_out in
        left_shows (with_sessions w c.after) c.connected.older;
    asks = λ w time_out has_byte none idle a b. (refl, (tt, tt));
    displaces = λ w session k with a. (refl, (tt, tt));
    claims = λ w has_byte response move none idle a. (refl, (tt, tt));
    may = λ w session live. tt;
  };
  answers = λ n. record {
    takes = λ w a. (refl, tt);
    answers = λ w xid txn_kind a. (refl, tt);
    drops = λ w a. (refl, tt);
  };
  settles = λ w a. (refl, tt);
  tells = λ w ping a. (refl, (tt, tt));
}

client_shows : (n : ℕ) (w : World) (bytes : List ℕ)
    → ShowsReplica w (take_client_bytes (is_serving_clients w) n w (heard_connection n w.clients) bytes)
client_shows n w bytes =
    (client_makes n ⊥ Always ShowsReplica (plain_ground n) (all_show.replies n) (λ session. Unit {0})
    (all_show.calls n) (λ w session. Unit {0}) (all_show.connects n) (λ w k rest a. (refl, tt))
    (is_serving_clients w) w (heard_connection n w.clients) bytes tt).is

-- ---- the news of an item are of the log's last transaction

abbrev IsAtPlace : Option LeaderNews → ℕ → Type 0
IsAtPlace (Some (news.Applied place results)) last = place ≡ last
IsAtPlace o last = Unit {0}

abbrev IsLastNews : ItemEffect → Type 0
IsLastNews t = IsAtPlace t.news (length t.replica.learner.log - 1)

abbrev HasLastNews : Result ItemEffect Fault → Type 0
HasLastNews (Ok t) = IsLastNews t
HasLastNews (Err e) = Unit {0}

applied_news : (t : ItemEffect) (o : Option Txn) → IsLastNews t → IsLastNews (apply_to_tree t o)
applied_news t None last = last
applied_news t (Some txn) last = refl

loaded_news : (t : ItemEffect) (r : Result Loading Fault) → IsLastNews t
    → HasLastNews (r >>= λ loading. Ok (record t { loading = loading }))
loaded_news t (Ok loading) last = last
loaded_news t (Err e) last = tt

act_news : (t : ItemEffect) (a : Act) → IsLastNews t → HasLastNews (carry_out t a)
act_news t (act.Send packet) last = last
act_news t (act.AnswerPing ping) last = tt
act_news t act.SettleSync last = tt
act_news t (act.Revalidated session is_valid) last = tt
act_news t act.Apply last = applied_news t (last_txn t.replica.learner.log) last
act_news t (act.LoadPart p) last = loaded_news t (with_loaded t.loading p) last
act_news t act.LoadImage last = last
act_news t act.DropImage last = last
act_news t (act.Truncate zxid) last = last
act_news t act.Epochs last = last
act_news t act.ServeFrom last = last

acts_news : (t : ItemEffect) (acts : List Act) → IsLastNews t → HasLastNews (carry_out_all t acts)
acts_news t [] last = last
acts_news t (a ∷ others) last = by (carry_out t a) (act_news t a last) (λ u first. acts_news u others first)
  where
    by : (r : Result ItemEffect Fault) → HasLastNews r
        → ((u : ItemEffect) → IsLastNews u → HasLastNews (carry_out_all u others))
        → HasLastNews (r >>= λ u. carry_out_all u others)
    by (Ok u) first rest = rest u first
    by (Err e) first rest = tt

item_news : (loading : Loading) (r : Replica) (i : Item) → HasLastNews (take_item loading r i)
item_news loading r i = by (learn_item r.learner i)
  where
    by : (learnt : Result LearnerStep Fault)
        → HasLastNews (learnt >>= λ x. carry_out_all (no_effect loading (with_learner r x)) x.acts)
    by (Ok x) = acts_news (no_effect loading (with_learner r x)) x.acts tt
    by (Err e) = tt

-- ---- one item

notice_shown : (r : Replica) (w : World) (n : ℕ) (e : WatchEvent) → AllByRecursion (IsShownBy r) (notice_to n e)
notice_shown r w n e = by (reply_frame NOTIFICATION_XID (negsuc 0) (look_of_event e)) refl
  where
    by : (frame : Option (List ℕ)) → reply_frame NOTIFICATION_XID (negsuc 0) (look_of_event e) ≡ frame
        → AllByRecursion (IsShownBy r) (sent_to n frame)
    by None is = tt
    by (Some bytes) is = (inr (inr (inr (inr (inr (inl (record { event = e; is = is })))))), tt)

notices_shown : (r : Replica) (w : World) (told : List (ℕ × WatchEvent)) → AllByRecursion (IsShownBy r) (notices_of told)
notices_shown r w [] = tt
notices_shown r w (one ∷ others) =
    all_joined (IsShownBy r) (notice_to one.0 one.1) (notices_of others) (notice_shown r w one.0 one.1)
    (notices_shown r w others)

packets_shown : (r : Replica) (packets : List QuorumPacket) → AllByRecursion (IsShownBy r) (map to_leader packets)
packets_shown r [] = tt
packets_shown r (p ∷ others) = (tt, packets_shown r others)

-- A transaction's reply is sent in a world with this replica.
write_shows : (w : World) (o : Option LeaderNews) → IsAtPlace o (length w.replica.learner.log - 1)
    → HoldsOfReply ⊥ Always ShowsReplica all_show o w
write_shows w None last = tt
write_shows w (Some (news.Ping ping)) last = tt
write_shows w (Some news.SyncSettled) last = tt
write_shows w (Some (news.Revalidated session lives)) last = tt
write_shows w (Some (news.Applied place results)) last = λ t at n.
    let is_last : last_txn w.replica.learner.log ≡ Some t = ap (slice_get w.replica.learner.log) (sym last) ∙ at in
    record {
      replies = λ kind v bytes same is.
          let reply : IsWriteReply w.replica bytes =
          record { txn = t; last = is_last; kind = kind; results = results; is = is } in
          (refl, (inr (inl (subst (λ (r : Replica). IsWriteReply r bytes) (sym same) reply)), tt));
      ends = λ xid bytes is.
          (refl, (inr (inr (inl (record { txn = t; last = is_last; xid = xid; is = is }))), tt));
    }

-- What an item sends shows the tree that it leaves.
effect_shows : (w : World) (t : ItemEffect) → IsLastNews t
    → ((send_effect w t).after.replica ≡ t.replica) × AllByRecursion (IsShownBy t.replica) (send_effect w t).outputs
effect_shows w t last = (
  answers.0,
  all_joined (IsShownBy t.replica) (tell_effect w t).outputs (answer_news t.news told).outputs
      (all_joined (IsShownBy t.replica) (map to_leader t.replies)
      (notices_of (fire w.clients.watches t.triggers).events) (packets_shown t.replica t.replies)
      (notices_shown t.replica w (fire w.clients.watches t.triggers).events)) answers.1,
)
  where
    told : World
    told = (tell_effect w t).after

    answers : ShowsReplica told (answer_news t.news told)
    answers = (answers_make ⊥ Always ShowsReplica all_show t.news told (write_shows told t.news last) tt).is

item_shows : (d : Delivery WorldAndLoading) (i : Item)
    → AllByRecursion (IsShownBy (deliver_item item_step d i).after.left.world.replica) (deliver_item item_step d i).outputs
item_shows d i =
    by (take_item d.left.loading d.left.world.replica i) (item_news d.left.loading d.left.world.replica i)
  where
    by : (r : Result ItemEffect Fault) → HasLastNews r
        → let h = delivery_of (r >>= λ t. Ok (step_with_loading t.loading (send_effect d.left.world t))) d.left in
        AllByRecursion (IsShownBy h.after.left.world.replica) h.outputs
    by (Ok t) last =
        let shows = effect_shows d.left.world t last in
        subst (λ (r : Replica). AllByRecursion (IsShownBy r) (send_effect d.left.world t).outputs) (sym shows.0) shows.1
    by (Err e) last = tt

-- ---- the items of a leader's bytes

all_of : {P Q : Output → Type 0} → ((o : Output) → P o → Q o) → (outputs : List Output) → AllByRecursion P outputs
    → AllByRecursion Q outputs
all_of each [] all = tt
all_of each (o ∷ others) all = (each o all.0, all_of each others all.1)

module _ (l : Leader) (w : World) where
  abbrev delivered : List Item → StepResult (Delivery WorldAndLoading)
  delivered taken = delivery_of_items l w taken

  abbrev go_on : Delivery WorldAndLoading → List Item → StepResult (Delivery WorldAndLoading)
  go_on d items = fold_steps is_refused (deliver_item item_step) d items

  -- One more item is delivered.
  one_more : (taken : List Item) (i : Item) → is_refused (delivered taken).after ≡ false
      → (delivered (taken ++ i ∷ [])).after ≡ (deliver_item item_step (delivered taken).after i).after
  one_more taken i goes =
      ap (λ (h : StepResult (Delivery WorldAndLoading)). h.after)
      (happening_on is_refused (deliver_item item_step)
      (record { left = record { loading = l.loading; world = w }; fault = None }) taken (i ∷ []))
      ∙ ap (λ (h : StepResult (Delivery WorldAndLoading)). h.after)
      (goes_on is_refused (deliver_item item_step) (delivered taken).after i [] goes)

  -- What is sent for the items after those that were taken.
  rest_shown : (taken rest : List Item)
      → AllByRecursion (IsShownOnTheWay l w (taken ++ rest)) (go_on (delivered taken).after rest).outputs
  rest_shown taken [] = tt
  rest_shown taken (i ∷ rest) =
      cond_both (is_refused d) _ _
      (λ (h : StepResult (Delivery WorldAndLoading)). AllByRecursion (IsShownOnTheWay l w (taken ++ i ∷ rest)) h.outputs)
      (λ _. tt)
      (λ goes.
      let more = taken ++ i ∷ [] in
      let same : more ++ rest ≡ taken ++ i ∷ rest = append_assoc taken (i ∷ []) rest in
      all_joined (IsShownOnTheWay l w (taken ++ i ∷ rest)) step.outputs (go_on step.after rest).outputs
      (all_of (λ output shown. record {
        taken = more;
        others = rest;
        is = sym same;
        shown = subst (λ (x : Delivery WorldAndLoading). IsShownBy x.left.world.replica output)
            (sym (one_more taken i goes)) shown;
      }) step.outputs (item_shows d i))
      (subst (λ (items : List Item). AllByRecursion (IsShownOnTheWay l w items) (go_on step.after rest).outputs) same
      (subst (λ (x : Delivery WorldAndLoading). AllByRecursion (IsShownOnTheWay l w (more ++ rest)) (go_on x rest).outputs)
      (one_more taken i goes) (rest_shown more rest))))
    where
      d : Delivery WorldAndLoading
      d = (delivered taken).after

      step : StepResult (Delivery WorldAndLoading)
      step = deliver_item item_step d i

  -- ---- the end of a leader

  closed_shown : (items : List Item) (ns : List ℕ)
      → AllByRecursion (IsShownOnTheWay l w items) (map (λ n. CloseClient n) ns)
  closed_shown items [] = tt
  closed_shown items (n ∷ others) = (
    record { taken = items; others = []; is = sym (append-nil items); shown = tt },
    closed_shown items others,
  )

  lost_shown : (items : List Item) (v : World) (leader : Result Leader Fault)
      → AllByRecursion (IsShownOnTheWay l w items) (with_leader_or_fault v leader).outputs
  lost_shown items v (Ok next) = tt
  lost_shown items v (Err e) = (
    record { taken = items; others = []; is = sym (append-nil items); shown = tt },
    closed_shown items (finmap.keys v.clients.connections),
  )

  bytes_shown : (bytes : List ℕ)
      → AllByRecursion (IsShownOnTheWay l w (items_of_bytes l bytes).found)
      (play_event (record { leader = Some l; world = w }) (event.LeaderBytes bytes)).outputs
  bytes_shown bytes =
      let found = items_of_bytes l bytes in
      let h = delivered found.found in
      all_joined (IsShownOnTheWay l w found.found) h.outputs
      (with_leader_or_fault h.after.left.world
      (leader_at h.after.left.loading (place_after found.left h.after.fault))).outputs
      (rest_shown [] found.found)
      (lost_shown found.found h.after.left.world
      (leader_at h.after.left.loading (place_after found.left h.after.fault)))

-- ---- events

all_closed : (r : Replica) (ns : List ℕ) → AllByRecursion (IsShownBy r) (map (λ n. CloseClient n) ns)
all_closed r [] = tt
all_closed r (n ∷ others) = (tt, all_closed r others)

met_shown : (leader : Option Leader) (w : World)
    → AllByRecursion (IsShownBy w.replica) (meet_leader part_reader leader w).outputs
met_shown None w = packets_shown w.replica (follow_leader w.replica w.settings.server_id).replies
met_shown (Some l) w = tt

ended_shown : (leader : Option Leader) (w : World)
    → AllByRecursion (IsShownBy w.replica) (end_leader part_reader leader w).outputs
ended_shown None w = tt
ended_shown (Some l) w = by (end_of l.place)
  where
    by : (r : Result (Unit {0}) Fault) → AllByRecursion (IsShownBy w.replica) (on_stream_end {L = Leader} r w).outputs
    by (Ok u) = all_closed w.replica (finmap.keys w.clients.connections)
    by (Err e) = (tt, all_closed w.replica (finmap.keys w.clients.connections))

leader_shown : (leader : Option Leader) (w : World) (bytes : List ℕ)
    → AllByRecursion (IsShownWhile leader w bytes)
    (play_event (record { leader = leader; world = w }) (event.LeaderBytes bytes)).outputs
leader_shown None w bytes = tt
leader_shown (Some l) w bytes = bytes_shown l w bytes

event_shown : (m : Machine) (e : Event) → AllByRecursion (IsShownIn m e) (play_event m e).outputs
event_shown m event.LeaderUp = met_shown m.leader m.world
event_shown m (event.LeaderBytes bytes) = leader_shown m.leader m.world bytes
event_shown m event.LeaderEnd = ended_shown m.leader m.world
event_shown m (event.ClientUp n address) = tt
event_shown m (event.ClientBytes n bytes) = (client_shows n m.world bytes).1
event_shown m (event.ClientEnd n) = tt
event_shown m (event.Expire session) =
    (left_shows (with_sessions m.world (expire_owner m.world.clients.sessions session).after)
    (connection_of m.world.clients.sessions session)).1
event_shown m event.Checkpoint = tt

pub replies_show_trees : ReplicasFollow → ServingRises → ServingStays → RepliesShowTrees
replies_show_trees law rises stays = record {
  shown = event_shown;
  grows = event_grows rises stays;
  grows_on = grows_on rises stays;
  follows = λ l w taken.
      happening_keeps (λ (d : Delivery WorldAndLoading). Follows d.left.world) is_refused (deliver_item item_step)
      (λ d i _. deliver_follows law d i)
      (record { left = record { loading = l.loading; world = w }; fault = None }) taken;
}
