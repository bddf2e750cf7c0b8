-- Checkpoints: none before its time.
use Rattle.std.proofs.Common.{◌≡◌, ℕ, ◌+◌, ◌≤◌, Bool, false, not, ◌&&◌, eqb, ltb, List, [], ◌∷◌, sum, ◌∙◌, ap, arith, eq-eqb}
use Rattle.std.proofs.Math.Bool.{and-false}
use Rattle.std.proofs.lemmas.List.Sums.{sum_by-cons}
use Rattle.std.proofs.lemmas.Bool.{le-ltb}
use Rattle.following.specs.Checkpoints.{CheckpointPlan, new_plan, after_receiving, is_checkpoint_due, bytes_due}
use Rattle.following.specs.Plans.{plan_after, NoneIsDueBefore, NoneIsDueAtNone}

not_due : (plan : CheckpointPlan) → plan.received ≤ bytes_due plan → is_checkpoint_due plan ≡ false
not_due plan h =
    ap (λ (much : Bool). not (eqb plan.least_mebibytes 0) && much) (le-ltb (bytes_due plan) plan.received h)
    ∙ and-false (not (eqb plan.least_mebibytes 0))

later : (plan : CheckpointPlan) (received : List ℕ) → plan.received + sum received ≤ bytes_due plan
    → is_checkpoint_due (plan_after plan received) ≡ false
later plan [] h = not_due plan (omega arith)
later plan (bytes ∷ others) h =
    let all : sum (bytes ∷ others) ≡ bytes + sum others = sum_by-cons (λ it. it) bytes others in
    later (after_receiving plan bytes) others (omega arith)

pub none_is_due_before : NoneIsDueBefore
none_is_due_before least received h = later (new_plan least) received (omega arith)

pub none_is_due_at_none : NoneIsDueAtNone
none_is_due_at_none plan h =
    ap (λ (none : Bool). not none && ltb (bytes_due plan) plan.received) (eq-eqb plan.least_mebibytes 0 h)
