-- Clients that are served stay served, whatever item is taken.
use Rattle.std.proofs.Common.{◌≡◌, true, refl, ap, ◌∙◌, ◌⊎◌, inl, inr}
use Rattle.learner_sync.specs.Learner.{Learner}
use Rattle.learner_sync.specs.Learn.{LearnerStep}
use Rattle.learner_sync.specs.Laws.{HasOneMoreTxn, ServingRises}
use Rattle.learner_sync.specs.declared.phase.Phase.{Phase}
use Rattle.learner_sync.specs.declared.phase.Phase.TheVariants as phase
use Rattle.replica.specs.Taking.{is_serving_in}
use Rattle.replica.specs.Laws.{ServingStays}
use Rattle.replica.proofs.Learners.{is-learnt}

-- Learning leaves the phase.
phase-of : (ph : Phase) → is_serving_in ph ≡ true → ph ≡ phase.Serving
phase-of phase.Serving s = refl
phase-of ph s = cc

learnt-serves : (l : Learner) (x : LearnerStep) → is_serving_in l.phase ≡ true → (x.after ≡ l) ⊎ HasOneMoreTxn l x
    → is_serving_in x.after.phase ≡ true
learnt-serves l x s (inl same) = ap (λ (after : Learner). is_serving_in after.phase) same ∙ s
learnt-serves l x s (inr more) = ap (λ (y : LearnerStep). is_serving_in y.after.phase) more.learnt ∙ s

pub serving-stays : ServingRises → ServingStays
serving-stays rises loading r i t s taken =
    let x = is-learnt loading r i t taken in
    ap (λ (l : Learner). is_serving_in l.phase) x.after
    ∙ learnt-serves r.learner x.step s (rises r.learner i x.step (phase-of r.learner.phase s) x.learnt)
