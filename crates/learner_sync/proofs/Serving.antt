-- While clients are served, what is learnt leaves the learner as it is, or is one more transaction.
use Rattle.std.proofs.Common.{◌≡◌, ℕ, ℤ, List, [], ◌∷◌, ◌++◌, Result, Ok, Err, Bool, true, false, cond, refl, sym, ap, subst, ◌∙◌, int_lt, ◌<ℤ◌, ◌⊎◌, inl, inr}
use Rattle.std.specs.Int.{int_max}
use Rattle.values.specs.declared.fault.Fault.{Fault}
use Rattle.values.specs.declared.fault.Fault.TheVariants.{OutOfOrder}
use Rattle.jute.specs.Format.{long, boolean, pair_of, ◌>>=◌}
use Rattle.quorum_packet.specs.declared.item.Item.{Item}
use Rattle.quorum_packet.specs.declared.item.Item.TheVariants as item
use Rattle.txn_codec.specs.declared.txn.Txn.{Txn}
use Rattle.learner_sync.specs.Learner.{Learner}
use Rattle.learner_sync.specs.Learn.{LearnerStep, single_act, zxid_floor, phase_after_zxid, with_applied, apply_txn, carried_txn, learn_inform, learn_activation, learn_revalidated, message_in_serving, message_in_phase, part_in_phase, learn_item}
use Rattle.learner_sync.specs.Messages.{message_of_packet}
use Rattle.learner_sync.specs.Laws.{HasOneMoreTxn, ServingRises}
use Rattle.learner_sync.specs.declared.act.Act.TheVariants as act
use Rattle.learner_sync.specs.declared.message.Message.{Message}
use Rattle.learner_sync.specs.declared.message.Message.TheVariants as message
use Rattle.learner_sync.specs.declared.phase.Phase.{Phase}
use Rattle.learner_sync.specs.declared.phase.Phase.TheVariants as phase
use Rattle.learner_sync.proofs.Zxids.{lt_of, max_right}

-- A result that isn't refused leaves the learner, or is one more transaction.
abbrev Goes : Learner → Result LearnerStep Fault → Type 0
Goes l (Ok x) = (x.after ≡ l) ⊎ HasOneMoreTxn l x
Goes l (Err e) = Unit {0}

-- A learner that applied a transaction, given the fields that change.
abbrev with_last : Learner → Txn → Phase → ℤ → LearnerStep
with_last l t ph last = single_act act.Apply (record l { phase = ph; last_zxid = last; log = l.log ++ t ∷ [] })

one-more : (l : Learner) (t : Txn) → l.phase ≡ phase.Serving → zxid_floor l.phase l.last_zxid <ℤ t.header.zxid
    → HasOneMoreTxn l (single_act act.Apply (with_applied l t))
one-more l t e above =
    let over : l.last_zxid <ℤ t.header.zxid = subst (λ ph. zxid_floor ph l.last_zxid <ℤ t.header.zxid) e above in
    record {
      txn = t;
      above = over;
      learnt =
          ap (λ ph. with_last l t ph (int_max l.last_zxid t.header.zxid))
          (ap (λ ph. phase_after_zxid ph t.header.zxid) e ∙ sym e)
          ∙ ap (λ z. with_last l t l.phase z) (max_right l.last_zxid t.header.zxid over);
    }

apply-goes : (l : Learner) (t : Txn) → l.phase ≡ phase.Serving → Goes l (apply_txn l t)
apply-goes l t e = by (int_lt (zxid_floor l.phase l.last_zxid) t.header.zxid) refl
  where
    by : (b : Bool) → int_lt (zxid_floor l.phase l.last_zxid) t.header.zxid ≡ b
        → Goes l (cond b (Ok (single_act act.Apply (with_applied l t))) (Err OutOfOrder))
    by true lt = inr (one-more l t e (lt_of _ _ lt))
    by false lt = tt

inform-goes : (l : Learner) (bytes : List ℕ) → l.phase ≡ phase.Serving → Goes l (learn_inform l bytes)
inform-goes l bytes e = by (carried_txn l bytes)
  where
    by : (r : Result Txn Fault) → Goes l (r >>= λ t. apply_txn l t)
    by (Ok t) = apply-goes l t e
    by (Err f) = tt

activate-goes : (l : Learner) (bytes : List ℕ) → l.phase ≡ phase.Serving → Goes l (learn_activation l bytes)
activate-goes l bytes e = by (long.read bytes)
  where
    by : (r : Result (ℤ × List ℕ) Fault) → Goes l (r >>= λ named. learn_inform l named.1)
    by (Ok named) = inform-goes l named.1 e
    by (Err f) = tt

confirm-goes : (l : Learner) (bytes : List ℕ) → Goes l (learn_revalidated l bytes)
confirm-goes l bytes = by ((pair_of long boolean).read bytes)
  where
    by : (r : Result ((ℤ × Bool) × List ℕ) Fault)
        → Goes l (r >>= λ answer. Ok (single_act (act.Revalidated answer.0.0 answer.0.1) l))
    by (Ok answer) = inl refl
    by (Err f) = tt

serve-goes : (l : Learner) (m : Message) → l.phase ≡ phase.Serving → Goes l (message_in_serving l m)
serve-goes l (message.Inform bytes) e = inform-goes l bytes e
serve-goes l (message.InformAndActivate bytes) e = activate-goes l bytes e
serve-goes l (message.Revalidated bytes) e = confirm-goes l bytes
serve-goes l m e = inl refl

learn-goes : (l : Learner) (i : Item) → l.phase ≡ phase.Serving → Goes l (learn_item l i)
learn-goes l (item.Packet p) e =
    let m = message_of_packet l.dialect p in
    subst (λ ph. Goes l (message_in_phase ph l m)) (sym e) (serve-goes l m e)
learn-goes l (item.Part p) e =
    let left : Goes l (part_in_phase phase.Serving l p) = inl refl in
    subst (λ ph. Goes l (part_in_phase ph l p)) (sym e) left

pub serving_rises : ServingRises
serving_rises l i x e learnt = subst (Goes l) learnt (learn-goes l i e)
