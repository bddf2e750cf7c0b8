-- The tree is the base with the log applied.
use Rattle.std.proofs.Common.{◌≡◌, ◌+◌, ◌-◌, arith, ℤ, List, [], ◌∷◌, ◌++◌, length, slice_get, Option, Some, Result, Ok, Err, false, refl, sym, ap, subst, ◌∙◌}
use Rattle.std.specs.List.{AllByRecursion}
use Rattle.std.proofs.Math.Seq.{get_or-append_seam}
use Rattle.std.proofs.lemmas.List.{length-append}
use Rattle.std.proofs.lemmas.Option.{slice_get_read}
use Rattle.values.specs.declared.fault.Fault.{Fault}
use Rattle.jute.specs.Format.{◌>>=◌}
use Rattle.txn_codec.specs.declared.txn.Txn.{Txn}
use Rattle.data_tree.specs.State.{State}
use Rattle.data_tree.specs.Meaning.{effect_of_txn, state_after}
use Rattle.snapshot_codec.specs.Made.{Loading, with_loaded}
use Rattle.snapshot_codec.specs.declared.part.ImagePart.{ImagePart}
use Rattle.quorum_packet.specs.declared.item.Item.{Item}
use Rattle.learner_sync.specs.Learner.{Learner}
use Rattle.learner_sync.specs.Learn.{LearnerStep, start_in, learn_item, checkpoint_in, checkpoint_learner}
use Rattle.learner_sync.specs.Laws.{is_only_act, AccountsForLog, ActsAccountForLog}
use Rattle.learner_sync.specs.Laws.{FollowsItsLog as LearnerFollows, LogsAreFollowed as LearnersFollow}
use Rattle.learner_sync.specs.declared.act.Act.{Act}
use Rattle.learner_sync.specs.declared.act.Act.TheVariants as act
use Rattle.learner_sync.specs.declared.phase.Phase.{Phase}
use Rattle.learner_sync.specs.declared.phase.Phase.TheVariants as phase
use Rattle.replica.specs.Replica.{Replica}
use Rattle.replica.specs.declared.item_outcome.LeaderNews.TheVariants as news
use Rattle.replica.specs.Taking.{ItemEffect, with_nothing_loaded, no_effect, last_txn, apply_to_tree, carry_out_all, take_item, is_serving_in, checkpoint_if}
use Rattle.replica.specs.Laws.{FollowsItsLog, LogsAreFollowed}

-- ---- one more transaction

after-push : (s : State) (log : List Txn) (t : Txn)
    → state_after s (log ++ t ∷ []) ≡ (effect_of_txn (state_after s log) t).state
after-push s [] t = refl
after-push s (u ∷ log) t = after-push (effect_of_txn s u).state log t

pub last-push : {A : Type 0} (xs : List A) (x : A) → slice_get (xs ++ x ∷ []) (length (xs ++ x ∷ []) - 1) ≡ Some x
last-push xs x =
    let len : length (xs ++ x ∷ []) ≡ length xs + 1 = length-append xs (x ∷ []) in
    let at : length (xs ++ x ∷ []) - 1 ≡ length xs = omega (arith, len) in
    ap (slice_get (xs ++ x ∷ [])) at
    ∙ slice_get_read (xs ++ x ∷ []) (length xs + 1) (length xs) x (sym len) (omega arith)
    (sym (get_or-append_seam xs x [] x))

-- ---- what is carried out

-- The replica after a result that isn't refused follows its log.
abbrev Follows : Result ItemEffect Fault → Type 0
Follows (Ok t) = FollowsItsLog t.replica
Follows (Err e) = Unit {0}

-- Acts that needn't be the only one leave the replica.
stays : (t : ItemEffect) (acts : List Act) → AllByRecursion (λ a. is_only_act a ≡ false) acts → FollowsItsLog t.replica
    → Follows (carry_out_all t acts)
stays t [] h f = f
stays t (act.Send p ∷ acts) h f = stays (record t { replies = t.replies ++ p ∷ [] }) acts h.1 f
stays t (act.AnswerPing p ∷ acts) h f = stays (record t { news = Some (news.Ping p) }) acts h.1 f
stays t (act.SettleSync ∷ acts) h f = stays (record t { news = Some news.SyncSettled }) acts h.1 f
stays t (act.Revalidated session is_valid ∷ acts) h f =
    stays (record t { news = Some (news.Revalidated session is_valid) }) acts h.1 f
stays t (act.DropImage ∷ acts) h f = stays (with_nothing_loaded t) acts h.1 f
stays t (act.Epochs ∷ acts) h f = stays t acts h.1 f
stays t (act.ServeFrom ∷ acts) h f = stays t acts h.1 f
stays t (act.Apply ∷ acts) h f = cc (h.0)
stays t (act.LoadPart p ∷ acts) h f = cc (h.0)
stays t (act.LoadImage ∷ acts) h f = cc (h.0)
stays t (act.Truncate zxid ∷ acts) h f = cc (h.0)

module _ (loading : Loading) (r : Replica) (l : Learner) (is : r.tree ≡ state_after r.base r.learner.log)
    (f : LearnerFollows l) where
  abbrev begun : ItemEffect
  begun = no_effect loading (record r { learner = l })

  same-log : l.log ≡ r.learner.log → FollowsItsLog begun.replica
  same-log e = record { tree = is ∙ ap (state_after r.base) (sym e); learner = f }

  one-more : (t : Txn) → l.log ≡ r.learner.log ++ t ∷ [] → FollowsItsLog (apply_to_tree begun (last_txn l.log)).replica
  one-more t e =
      let last : last_txn l.log ≡ Some t = ap last_txn e ∙ last-push r.learner.log t in
      let tree : (effect_of_txn r.tree t).state ≡ state_after r.base l.log =
      ap (λ (s : State). (effect_of_txn s t).state) is ∙ sym (after-push r.base r.learner.log t)
      ∙ ap (state_after r.base) (sym e) in
      let applied : FollowsItsLog (apply_to_tree begun (Some t)).replica = record { tree = tree; learner = f } in
      subst (λ (o : Option Txn). FollowsItsLog (apply_to_tree begun o).replica) (sym last) applied

  loads : (p : ImagePart) → l ≡ r.learner → Follows (carry_out_all begun (act.LoadPart p ∷ []))
  loads p e = by (with_loaded loading p)
    where
      by : (x : Result Loading Fault)
          → Follows ((x >>= λ loaded. Ok (record begun { loading = loaded })) >>= λ u. carry_out_all u [])
      by (Ok loaded) = same-log (ap (λ (x : Learner). x.log) e)
      by (Err e) = tt

  done : (acts : List Act) → AccountsForLog acts r.learner l → Follows (carry_out_all begun acts)
  done [] tell = same-log tell.0
  done (act.Apply ∷ []) tell = one-more tell.0 tell.1
  done (act.Truncate zxid ∷ []) tell = record { tree = refl; learner = f }
  done (act.LoadImage ∷ []) tell =
      record { tree = ap (state_after loading.made.state) (sym tell.0); learner = f }
  done (act.LoadPart p ∷ acts) tell =
      subst (λ (xs : List Act). Follows (carry_out_all begun (act.LoadPart p ∷ xs))) (sym tell.0) (loads p tell.1)
  done (act.Send p ∷ acts) tell = stays begun (act.Send p ∷ acts) tell.2 (same-log tell.0)
  done (act.AnswerPing p ∷ acts) tell = stays begun (act.AnswerPing p ∷ acts) tell.2 (same-log tell.0)
  done (act.SettleSync ∷ acts) tell = stays begun (act.SettleSync ∷ acts) tell.2 (same-log tell.0)
  done (act.Revalidated session is_valid ∷ acts) tell =
      stays begun (act.Revalidated session is_valid ∷ acts) tell.2 (same-log tell.0)
  done (act.DropImage ∷ acts) tell = stays begun (act.DropImage ∷ acts) tell.2 (same-log tell.0)
  done (act.Epochs ∷ acts) tell = stays begun (act.Epochs ∷ acts) tell.2 (same-log tell.0)
  done (act.ServeFrom ∷ acts) tell = stays begun (act.ServeFrom ∷ acts) tell.2 (same-log tell.0)
  done (act.Apply ∷ a ∷ acts) tell = stays begun (act.Apply ∷ a ∷ acts) tell.2 (same-log tell.0)
  done (act.Truncate zxid ∷ a ∷ acts) tell = stays begun (act.Truncate zxid ∷ a ∷ acts) tell.2 (same-log tell.0)
  done (act.LoadImage ∷ a ∷ acts) tell = stays begun (act.LoadImage ∷ a ∷ acts) tell.2 (same-log tell.0)

-- ---- every item

module _ (learners : LearnersFollow) (tells : ActsAccountForLog) where
  takes-follow : (loading : Loading) (r : Replica) (i : Item) → FollowsItsLog r → Follows (take_item loading r i)
  takes-follow loading r i f = by (learn_item r.learner i) refl
    where
      by : (x : Result LearnerStep Fault) → learn_item r.learner i ≡ x
          → Follows (x >>= λ x. carry_out_all (no_effect loading (record r { learner = x.after })) x.acts)
      by (Ok x) e =
          done loading r x.after f.tree (learners.learns r.learner i x f.learner e) x.acts
          (tells.tells r.learner i x e)
      by (Err fault) e = tt

  begins-follow : (ph : Phase) (r : Replica) (server_id : ℤ) → FollowsItsLog r
      → (start_in ph r.learner server_id).after.log ≡ r.learner.log
  begins-follow phase.Down r server_id f = refl
  begins-follow ph r server_id f = refl

  rebased : (ph : Phase) (r : Replica) → r.learner.phase ≡ ph → FollowsItsLog r
      → FollowsItsLog (checkpoint_if (is_serving_in ph) r)
  rebased phase.Serving r e f =
      let log : (checkpoint_learner r.learner).log ≡ [] = ap (λ (ph : Phase). (checkpoint_in ph r.learner).log) e in
      record { tree = ap (state_after r.tree) (sym log); learner = learners.checks r.learner f.learner }
  rebased ph r e f = f

  pub logs-are-followed : LogsAreFollowed
  logs-are-followed = record {
    made = λ dialect epochs. record { tree = refl; learner = learners.made dialect epochs };
    primed = λ dialect session time_out. record { tree = refl; learner = learners.primed dialect };
    takes = λ loading r i t f e. subst Follows e (takes-follow loading r i f);
    begins = λ r server_id f. record {
      tree = f.tree ∙ ap (state_after r.base) (sym (begins-follow r.learner.phase r server_id f));
      learner = learners.starts r.learner server_id f.learner;
    };
    leaves = λ r f. record { tree = f.tree; learner = learners.ends r.learner f.learner };
    rebases = λ r f. rebased r.learner.phase r refl f;
  }
