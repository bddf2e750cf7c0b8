-- While clients are served, transactions are applied one after the other, and nothing else changes the tree.
use Rattle.std.proofs.Common.{◌≡◌, ◌⊎◌, inl, inr, ℕ, ◌+◌, ℤ, Bool, true, false, List, [], ◌∷◌, ◌++◌, length, Option, Some, None, Result, Ok, Err, refl, sym, ap, subst, ◌∙◌, arith}
use Rattle.std.proofs.lemmas.List.{length-append}
use mathlib.Core.Bool.{true≢false}
use Rattle.values.specs.declared.fault.Fault.{Fault}
use Rattle.jute.specs.Format.{◌>>=◌}
use Rattle.txn_codec.specs.declared.txn.Txn.{Txn}
use Rattle.data_tree.specs.State.{State}
use Rattle.data_tree.specs.Meaning.{effect_of_txn, state_after}
use Rattle.snapshot_codec.specs.Made.{Loading, with_loaded}
use Rattle.jute.specs.Stream.{Items}
use Rattle.quorum_packet.specs.Feed.{end_of}
use Rattle.quorum_packet.specs.declared.phase.Phase.{Phase as FeedPhase}
use Rattle.quorum_packet.specs.declared.item.Item.{Item}
use Rattle.learner_sync.specs.Learner.{Learner}
use Rattle.learner_sync.specs.Learn.{LearnerStep, start_in, checkpoint_in, zxid_after, learn_item}
use Rattle.learner_sync.specs.Laws.{ZxidsRise, HasOneMoreTxn, ServingRises}
use Rattle.learner_sync.specs.declared.act.Act.{Act}
use Rattle.learner_sync.specs.declared.act.Act.TheVariants as act
use Rattle.learner_sync.specs.declared.phase.Phase.{Phase}
use Rattle.learner_sync.specs.declared.phase.Phase.TheVariants as phase
use Rattle.replica.specs.Replica.{Replica}
use Rattle.replica.specs.Taking.{ItemEffect, no_effect, last_txn, apply_to_tree, carry_out, carry_out_all, with_learner, take_item, is_serving, checkpoint_if}
use Rattle.replica.specs.Laws.{ServingStays}
use Rattle.replica.proofs.Following.{last-push}
use Rattle.world.specs.World.{World}
use Rattle.world.specs.Steps.{StepResult, fold_steps}
use Rattle.world.specs.Clients.{heard_connection}
use Rattle.world.proofs.Steps.{happening_on}
use Rattle.client_service.specs.Serve.{take_client_bytes, open_client, end_client, expire_session}
use Rattle.observer_core.specs.declared.event.Event.{Event}
use Rattle.observer_core.specs.declared.event.Event.TheVariants as event
use Rattle.observer_core.specs.Machine.{Leader, Machine}
use Rattle.observer_core.specs.Leader.{tell_effect, WorldAndLoading, step_with_loading, send_effect, item_step, Delivery, delivery_of, deliver_item, is_refused, part_reader, meet_leader, with_leader_or_fault, leader_at, place_after, take_leader_bytes, on_stream_end, end_leader}
use Rattle.observer_core.specs.Logs.{delivery_of_items, items_of_bytes}
use Rattle.observer_core.specs.Play.{is_serving_clients, play_event}
use Rattle.observer_core.specs.Shown.{GrowsTo, replica_after}
use Rattle.observer_core.proofs.Keeping.{happening_keeps}
use Rattle.observer_core.proofs.Living.{LeavesTree, AppliesTxn, Serves, phase_is, item_serves}
use Rattle.observer_core.proofs.Unmoved.{client_same, open_same, end_same, expire_same, news_same}

-- ---- one replica after another

same_grows : (r s : Replica) → s.tree ≡ r.tree → s.learner.last_zxid ≡ r.learner.last_zxid → GrowsTo r s
same_grows r s tree last = record { txns = []; tree = tree; rise = tt; last = last }

still_grows : (r s : Replica) → s ≡ r → GrowsTo r s
still_grows r s is = same_grows r s (ap (λ (x : Replica). x.tree) is) (ap (λ (x : Replica). x.learner.last_zxid) is)

after_append : (s : State) (a b : List Txn) → state_after s (a ++ b) ≡ state_after (state_after s a) b
after_append s [] b = refl
after_append s (t ∷ a) b = after_append (effect_of_txn s t).state a b

zxid_append : (zxid : ℤ) (a b : List Txn) → zxid_after zxid (a ++ b) ≡ zxid_after (zxid_after zxid a) b
zxid_append zxid [] b = refl
zxid_append zxid (t ∷ a) b = zxid_append t.header.zxid a b

rises_on : (zxid : ℤ) (a b : List Txn) → ZxidsRise zxid a → ZxidsRise (zxid_after zxid a) b → ZxidsRise zxid (a ++ b)
rises_on zxid [] b first second = second
rises_on zxid (t ∷ a) b first second = (first.0, rises_on t.header.zxid a b first.1 second)

grows_again : (r s u : Replica) → GrowsTo r s → GrowsTo s u → GrowsTo r u
grows_again r s u a b =
    let zxid = r.learner.last_zxid in
    record {
      txns = a.txns ++ b.txns;
      tree = b.tree ∙ ap (λ (t : State). state_after t b.txns) a.tree ∙ sym (after_append r.tree a.txns b.txns);
      rise = rises_on zxid a.txns b.txns a.rise (subst (λ (z : ℤ). ZxidsRise z b.txns) a.last b.rise);
      last = b.last ∙ ap (λ (z : ℤ). zxid_after z b.txns) a.last ∙ sym (zxid_append zxid a.txns b.txns);
    }

-- ---- one item

-- What is carried out leaves the learner.
abbrev HasLearner : Learner → Result ItemEffect Fault → Type 0
HasLearner l (Ok t) = t.replica.learner ≡ l
HasLearner l (Err e) = Unit {0}

act_leaves : (t : ItemEffect) (a : Act) → HasLearner t.replica.learner (carry_out t a)
act_leaves t (act.Send packet) = refl
act_leaves t (act.AnswerPing ping) = refl
act_leaves t act.SettleSync = refl
act_leaves t (act.Revalidated session is_valid) = refl
act_leaves t act.Apply = by (last_txn t.replica.learner.log)
  where
    by : (o : Option Txn) → HasLearner t.replica.learner (Ok (apply_to_tree t o))
    by None = refl
    by (Some txn) = refl
act_leaves t (act.LoadPart p) = by (with_loaded t.loading p)
  where
    by : (r : Result Loading Fault)
        → HasLearner t.replica.learner (r >>= λ loading. Ok (record t { loading = loading }))
    by (Ok loading) = refl
    by (Err e) = tt
act_leaves t act.LoadImage = refl
act_leaves t act.DropImage = refl
act_leaves t (act.Truncate zxid) = refl
act_leaves t act.Epochs = refl
act_leaves t act.ServeFrom = refl

acts_leave : (l : Learner) (t : ItemEffect) (acts : List Act) → t.replica.learner ≡ l
    → HasLearner l (carry_out_all t acts)
acts_leave l t [] is = is
acts_leave l t (a ∷ others) is = by (carry_out t a) (act_leaves t a) (λ u same. acts_leave l u others same)
  where
    by : (r : Result ItemEffect Fault) → HasLearner t.replica.learner r
        → ((u : ItemEffect) → u.replica.learner ≡ l → HasLearner l (carry_out_all u others))
        → HasLearner l (r >>= λ u. carry_out_all u others)
    by (Ok u) same rest = rest u (same ∙ is)
    by (Err e) same rest = tt

-- A log isn't its own front.
no_longer : (log : List Txn) (t : Txn) → log ++ t ∷ [] ≡ log → ⊥
no_longer log t is =
    let more : length (log ++ t ∷ []) ≡ length log + 1 = length-append log (t ∷ []) in
    let same : length (log ++ t ∷ []) ≡ length log = ap (λ (ts : List Txn). length ts) is in
    omega (arith, more, same)

abbrev effect_in : ItemEffect → Result ItemEffect Fault → ItemEffect
effect_in t (Ok u) = u
effect_in t (Err e) = t

module _ (rises : ServingRises) (stays : ServingStays) where
  item_grows : (loading : Loading) (r : Replica) (i : Item) (t : ItemEffect) → is_serving r ≡ true
      → take_item loading r i ≡ Ok t → GrowsTo r t.replica
  item_grows loading r i t serving taken = by (learn_item r.learner i) refl taken
    where
      carried : Result LearnerStep Fault → Result ItemEffect Fault
      carried learnt = learnt >>= λ x. carry_out_all (no_effect loading (with_learner r x)) x.acts

      -- One more transaction is applied.
      applied : (x : LearnerStep) → HasOneMoreTxn r.learner x → carried (Ok x) ≡ Ok t
          → t.replica.learner ≡ x.after → GrowsTo r t.replica
      applied x more is learner = record {
        txns = more.txn ∷ [];
        tree = ap (λ (u : ItemEffect). u.replica.tree) effect;
        rise = (more.above, tt);
        last = ap (λ (l : Learner). l.last_zxid) learner ∙ ap (λ (y : LearnerStep). y.after.last_zxid) more.learnt;
      }
        where
          next : Learner
          next = record r.learner { last_zxid = more.txn.header.zxid; log = r.learner.log ++ more.txn ∷ [] }

          begun : ItemEffect
          begun = no_effect loading (record r { learner = next })

          effect : t ≡ apply_to_tree begun (Some more.txn)
          effect =
              ap (effect_in begun) (sym is ∙ ap (λ (y : LearnerStep). carried (Ok y)) more.learnt)
              ∙ ap (apply_to_tree begun) (last-push r.learner.log more.txn)

      same : (x : LearnerStep) → x.after ≡ r.learner → t.replica.learner ≡ x.after
          → LeavesTree r t ⊎ AppliesTxn r.learner r t → GrowsTo r t.replica
      same x unchanged learner (inl leaves) =
          same_grows r t.replica leaves.tree (ap (λ (l : Learner). l.last_zxid) (learner ∙ unchanged))
      same x unchanged learner (inr applies) =
          absurd (no_longer r.learner.log applies.txn
          (sym applies.grown ∙ ap (λ (l : Learner). l.log) (learner ∙ unchanged)))

      by : (learnt : Result LearnerStep Fault) → learn_item r.learner i ≡ learnt → carried learnt ≡ Ok t
          → GrowsTo r t.replica
      by (Err e) learns is = cc
      by (Ok x) learns is = went (rises r.learner i x (phase_is loading r r.learner.phase serving) learns)
        where
          learner : t.replica.learner ≡ x.after
          learner = subst (HasLearner x.after) is (acts_leave x.after (no_effect loading (with_learner r x)) x.acts refl)

          went : (x.after ≡ r.learner) ⊎ HasOneMoreTxn r.learner x → GrowsTo r t.replica
          went (inl unchanged) =
              same x unchanged learner (subst (Serves r.learner r) taken (item_serves loading r i serving))
          went (inr more) = applied x more is learner

  -- ---- the items of a leader's bytes

  -- Clients are still served, and from the one replica to this one transactions were applied.
  abbrev Goes : Replica → Delivery WorldAndLoading → Type 0
  Goes r d = GrowsTo r d.left.world.replica × (is_serving d.left.world.replica ≡ true)

  item_goes : (r : Replica) (d : Delivery WorldAndLoading) (i : Item) → Goes r d → Goes r (deliver_item item_step d i).after
  item_goes r d i goes = by (take_item d.left.loading d.left.world.replica i) refl
    where
      by : (x : Result ItemEffect Fault) → take_item d.left.loading d.left.world.replica i ≡ x
          → Goes r (delivery_of (x >>= λ t. Ok (step_with_loading t.loading (send_effect d.left.world t))) d.left).after
      by (Err e) is = goes
      by (Ok t) is =
          let told = (tell_effect d.left.world t).after in
          let before = d.left.world.replica in
          subst (λ (s : Replica). GrowsTo r s × (is_serving s ≡ true)) (sym (news_same t.news told)) (
            grows_again r before t.replica goes.0 (item_grows d.left.loading before i t goes.1 is),
            stays d.left.loading before i t goes.1 is,
          )

  items_go : (r : Replica) (d : Delivery WorldAndLoading) (items : List Item) → Goes r d
      → Goes r (fold_steps is_refused (deliver_item item_step) d items).after
  items_go r = happening_keeps (Goes r) is_refused (deliver_item item_step) (λ d i _. item_goes r d i)

  abbrev begin_at : Leader → World → Delivery WorldAndLoading
  begin_at l w = record { left = record { loading = l.loading; world = w }; fault = None }

  delivered : (l : Leader) (w : World) (items : List Item) → is_serving_clients w ≡ true
      → Goes w.replica (delivery_of_items l w items).after
  delivered l w items serving =
      items_go w.replica (begin_at l w) items (still_grows w.replica w.replica refl, serving)

  pub grows_on : (l : Leader) (w : World) (taken others : List Item) → is_serving_clients w ≡ true
      → GrowsTo (replica_after l w taken) (replica_after l w (taken ++ others))
  grows_on l w taken others serving =
      let d = (delivery_of_items l w taken).after in
      let r = d.left.world.replica in
      subst (λ (h : StepResult (Delivery WorldAndLoading)). GrowsTo r h.after.left.world.replica)
      (sym (happening_on is_refused (deliver_item item_step) (begin_at l w) taken others))
      (items_go r d others (still_grows r r refl, (delivered l w taken serving).1)).0

  -- ---- events

  met_grows : (leader : Option Leader) (w : World)
      → GrowsTo w.replica (meet_leader part_reader leader w).after.world.replica
  met_grows (Some l) w = still_grows w.replica w.replica refl
  met_grows None w = by w.replica.learner.phase
    where
      l : Learner
      l = w.replica.learner

      by : (ph : Phase)
          → GrowsTo w.replica (with_learner w.replica (start_in ph l w.settings.server_id))
      by phase.Down = same_grows w.replica (with_learner w.replica (start_in phase.Down l w.settings.server_id)) refl refl
      by phase.Hello = still_grows w.replica w.replica refl
      by phase.Sync = still_grows w.replica w.replica refl
      by (phase.Image zxid) = still_grows w.replica w.replica refl
      by (phase.ReplayOnImage zxid) = still_grows w.replica w.replica refl
      by phase.Replay = still_grows w.replica w.replica refl
      by phase.Serving = still_grows w.replica w.replica refl

  bytes_grow : (leader : Option Leader) (w : World) (bytes : List ℕ) → is_serving_clients w ≡ true
      → let after = (take_leader_bytes part_reader leader w bytes).after.world in
      is_serving_clients after ≡ true → GrowsTo w.replica after.replica
  bytes_grow None w bytes serving still = still_grows w.replica w.replica refl
  bytes_grow (Some l) w bytes serving still =
      by (leader_at h.after.left.loading (place_after found.left h.after.fault)) still
    where
      found : Items FeedPhase Item
      found = items_of_bytes l bytes

      h : StepResult (Delivery WorldAndLoading)
      h = delivery_of_items l w found.found

      by : (leader : Result Leader Fault)
          → let after = (with_leader_or_fault h.after.left.world leader).after.world in
          is_serving_clients after ≡ true → GrowsTo w.replica after.replica
      by (Ok next) still = (delivered l w found.found serving).0
      by (Err e) still = absurd (true≢false (sym still))

  ended_grows : (leader : Option Leader) (w : World)
      → let after = (end_leader part_reader leader w).after.world in
      is_serving_clients after ≡ true → GrowsTo w.replica after.replica
  ended_grows None w still = still_grows w.replica w.replica refl
  ended_grows (Some l) w still = by (end_of l.place) still
    where
      by : (r : Result (Unit {0}) Fault) → let after = (on_stream_end {L = Leader} r w).after.world in
          is_serving_clients after ≡ true → GrowsTo w.replica after.replica
      by (Ok u) still = absurd (true≢false (sym still))
      by (Err e) still = absurd (true≢false (sym still))

  checked_grows : (b : Bool) (r : Replica) → GrowsTo r (checkpoint_if b r)
  checked_grows false r = still_grows r r refl
  checked_grows true r = by r.learner.phase
    where
      by : (ph : Phase) → GrowsTo r (record r { learner = checkpoint_in ph r.learner; base = r.tree })
      by phase.Serving =
          same_grows r (record r { learner = checkpoint_in phase.Serving r.learner; base = r.tree }) refl refl
      by ph = same_grows r (record r { base = r.tree }) refl refl

  pub event_grows : (m : Machine) (e : Event) → is_serving_clients m.world ≡ true
      → is_serving_clients (play_event m e).after.world ≡ true
      → GrowsTo m.world.replica (play_event m e).after.world.replica
  event_grows m event.LeaderUp serving still = met_grows m.leader m.world
  event_grows m (event.LeaderBytes bytes) serving still = bytes_grow m.leader m.world bytes serving still
  event_grows m event.LeaderEnd serving still = ended_grows m.leader m.world still
  event_grows m (event.ClientUp n address) serving still =
      still_grows m.world.replica (open_client n address m.world).replica (open_same n address m.world)
  event_grows m (event.ClientBytes n bytes) serving still =
      let connection = heard_connection n m.world.clients in
      let after = (take_client_bytes (is_serving_clients m.world) n m.world connection bytes).after in
      still_grows m.world.replica after.replica (client_same (is_serving_clients m.world) n m.world connection bytes)
  event_grows m (event.ClientEnd n) serving still =
      still_grows m.world.replica (end_client n m.world).replica (end_same n m.world)
  event_grows m (event.Expire session) serving still =
      still_grows m.world.replica (expire_session m.world session).after.replica (expire_same m.world session)
  event_grows m event.Checkpoint serving still = checked_grows (is_serving m.world.replica) m.world.replica
