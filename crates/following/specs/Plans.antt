-- What holds of each plan of checkpoints.
use Rattle.std.specs.Prelude.{◌≡◌, false, ℕ, ◌≤◌, List, [], ◌∷◌, sum}
use Rattle.following.specs.Checkpoints.{CheckpointPlan, new_plan, after_receiving, is_checkpoint_due, bytes_due}

-- So many bytes came, one after another.
abbrev pub plan_after : CheckpointPlan → List ℕ → CheckpointPlan
plan_after plan [] = plan
plan_after plan (bytes ∷ others) = plan_after (after_receiving plan bytes) others

-- After one was taken none is due until the leader has sent more than makes one due, in however many pieces.
abbrev pub NoneIsDueBefore : Type 0
NoneIsDueBefore =
    (least_mebibytes : ℕ) (received : List ℕ) → sum received ≤ bytes_due (new_plan least_mebibytes)
    → is_checkpoint_due (plan_after (new_plan least_mebibytes) received) ≡ false

-- None is ever due where the least number of bytes is 0.
abbrev pub NoneIsDueAtNone : Type 0
NoneIsDueAtNone = (plan : CheckpointPlan) → plan.least_mebibytes ≡ 0 → is_checkpoint_due plan ≡ false
