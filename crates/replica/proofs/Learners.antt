-- The learner after an item is the one that learnt it.
use Rattle.std.proofs.Common.{◌≡◌, List, [], ◌∷◌, ◌++◌, Option, Some, None, Result, Ok, Err, Bool, true, false, refl, ap, subst, ◌∙◌}
use Rattle.values.specs.declared.fault.Fault.{Fault}
use Rattle.jute.specs.Format.{◌>>=◌}
use Rattle.txn_codec.specs.declared.txn.Txn.{Txn}
use Rattle.snapshot_codec.specs.Made.{Loading, with_loaded}
use Rattle.quorum_packet.specs.declared.item.Item.{Item}
use Rattle.learner_sync.specs.Learner.{Learner}
use Rattle.learner_sync.specs.Learn.{LearnerStep, learn_item}
use Rattle.learner_sync.specs.Laws.{DialectStays as LearnersKeep}
use Rattle.learner_sync.specs.declared.act.Act.{Act}
use Rattle.learner_sync.specs.declared.act.Act.TheVariants as act
use Rattle.replica.specs.Replica.{Replica}
use Rattle.replica.specs.declared.item_outcome.LeaderNews.TheVariants as news
use Rattle.replica.specs.Taking.{ItemEffect, no_effect, last_txn, apply_to_tree, with_nothing_loaded, with_image_state, rebuild_tree, carry_out_all, with_learner, take_item, is_serving, checkpoint_if}
use Rattle.replica.specs.Laws.{DialectStays}

-- A result that isn't refused has this learner.
abbrev Has : Learner → Result ItemEffect Fault → Type 0
Has l (Ok t) = t.replica.learner ≡ l
Has l (Err e) = Unit {0}

-- No act changes the learner.
carried-has : (l : Learner) (t : ItemEffect) (acts : List Act) → t.replica.learner ≡ l → Has l (carry_out_all t acts)
carried-has l t [] s = s
carried-has l t (act.Send p ∷ acts) s = carried-has l (record t { replies = t.replies ++ p ∷ [] }) acts s
carried-has l t (act.AnswerPing p ∷ acts) s = carried-has l (record t { news = Some (news.Ping p) }) acts s
carried-has l t (act.SettleSync ∷ acts) s = carried-has l (record t { news = Some news.SyncSettled }) acts s
carried-has l t (act.Revalidated session is_valid ∷ acts) s =
    carried-has l (record t { news = Some (news.Revalidated session is_valid) }) acts s
carried-has l t (act.Apply ∷ acts) s =
    by (last_txn t.replica.learner.log) (λ u same. carried-has l u acts (same ∙ s))
  where
    by : (o : Option Txn)
        → ((u : ItemEffect) → u.replica.learner ≡ t.replica.learner → Has l (carry_out_all u acts))
        → Has l (carry_out_all (apply_to_tree t o) acts)
    by None others = others t refl
    by (Some txn) others = others (apply_to_tree t (Some txn)) refl
carried-has l t (act.LoadPart p ∷ acts) s =
    by (with_loaded t.loading p) (λ loaded. carried-has l (record t { loading = loaded }) acts s)
  where
    by : (x : Result Loading Fault)
        → ((loaded : Loading) → Has l (carry_out_all (record t { loading = loaded }) acts))
        → Has l ((x >>= λ loaded. Ok (record t { loading = loaded })) >>= λ u. carry_out_all u acts)
    by (Ok loaded) others = others loaded
    by (Err e) others = tt
carried-has l t (act.LoadImage ∷ acts) s = carried-has l (with_image_state t t.loading.made.state) acts s
carried-has l t (act.DropImage ∷ acts) s = carried-has l (with_nothing_loaded t) acts s
carried-has l t (act.Truncate zxid ∷ acts) s = carried-has l (rebuild_tree t) acts s
carried-has l t (act.Epochs ∷ acts) s = carried-has l t acts s
carried-has l t (act.ServeFrom ∷ acts) s = carried-has l t acts s

-- What was learnt of an item that was taken.
pub record IsLearnt (r : Replica) (i : Item) (t : ItemEffect) : Type 0 where
  pub step : LearnerStep
  pub learnt : learn_item r.learner i ≡ Ok step
  pub after : t.replica.learner ≡ step.after

abbrev Learns : Replica → Item → Result ItemEffect Fault → Type 0
Learns r i (Ok t) = IsLearnt r i t
Learns r i (Err e) = Unit {0}

pub is-learnt : (loading : Loading) (r : Replica) (i : Item) (t : ItemEffect) → take_item loading r i ≡ Ok t
    → IsLearnt r i t
is-learnt loading r i t taken = subst (Learns r i) taken (by (learn_item r.learner i) refl)
  where
    kept : (x : LearnerStep) → learn_item r.learner i ≡ Ok x → (u : Result ItemEffect Fault) → Has x.after u → Learns r i u
    kept x is (Ok u) has = record { step = x; learnt = is; after = has }
    kept x is (Err e) has = tt

    by : (x : Result LearnerStep Fault) → learn_item r.learner i ≡ x
        → Learns r i (x >>= λ x. carry_out_all (no_effect loading (with_learner r x)) x.acts)
    by (Ok x) is =
        kept x is (carry_out_all (no_effect loading (with_learner r x)) x.acts)
        (carried-has x.after (no_effect loading (with_learner r x)) x.acts refl)
    by (Err e) is = tt

-- ---- the dialect

module _ (learners : LearnersKeep) where
  rebases-keep : (b : Bool) (r : Replica) → (checkpoint_if b r).learner.dialect ≡ r.learner.dialect
  rebases-keep true r = learners.checks r.learner
  rebases-keep false r = refl

  takes-keep : (loading : Loading) (r : Replica) (i : Item) (t : ItemEffect) → take_item loading r i ≡ Ok t
      → t.replica.learner.dialect ≡ r.learner.dialect
  takes-keep loading r i t taken =
      let x = is-learnt loading r i t taken in
      ap (λ (l : Learner). l.dialect) x.after ∙ learners.learns r.learner i x.step x.learnt

  pub dialect-stays : DialectStays
  dialect-stays = record {
    takes = takes-keep;
    begins = λ r server_id. learners.starts r.learner server_id;
    leaves = λ r. learners.ends r.learner;
    rebases = λ r. rebases-keep (is_serving r) r;
  }
