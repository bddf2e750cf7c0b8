-- The limits on what is done at once.
use Rattle.std.specs.Prelude.{ℕ, Bool, ◌&&◌, nat_le}

-- The number of workers, and the most transactions and the most groups of a batch.
pub record LimitNumbers : Type 0 where
  pub workers : ℕ
  pub batch : ℕ
  pub groups : ℕ

abbrev pub limit_numbers : ℕ → ℕ → ℕ → LimitNumbers
limit_numbers workers batch groups = record { workers = workers; batch = batch; groups = groups }

abbrev pub are_limits : LimitNumbers → Bool
are_limits limits =
    (nat_le 1 limits.workers && nat_le limits.workers 64)
    && (nat_le 1 limits.batch && nat_le limits.batch 4096)
    && (nat_le 1 limits.groups && nat_le limits.groups 256)
