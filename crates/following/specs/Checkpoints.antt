-- When a checkpoint is due.
use Rattle.std.specs.Prelude.{ℕ, ◌+◌, ◌-◌, ◌*◌, ◌^◌, ◌==◌, Bool, ◌&&◌, not, nat_lt, min}

pub record CheckpointPlan : Type 0 where
  -- the least that a leader sends between two checkpoints; 0 where none is to be taken
  pub least_mebibytes : ℕ
  -- the leader's bytes since the last one
  pub received : ℕ

abbrev pub new_plan : ℕ → CheckpointPlan
new_plan least_mebibytes = record { least_mebibytes = least_mebibytes; received = 0 }

abbrev pub after_receiving : CheckpointPlan → ℕ → CheckpointPlan
after_receiving plan bytes = record plan { received = min (plan.received + bytes) (2 ^ 64 - 1) }

-- More than this makes one due.
abbrev pub bytes_due : CheckpointPlan → ℕ
bytes_due plan = plan.least_mebibytes * 2 ^ 20

abbrev pub is_checkpoint_due : CheckpointPlan → Bool
is_checkpoint_due plan = not (plan.least_mebibytes == 0) && nat_lt (bytes_due plan) plan.received
