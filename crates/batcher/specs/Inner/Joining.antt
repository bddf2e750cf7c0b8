-- A transaction that gets a group.
use Rattle.std.specs.Prelude.{ℕ, zero, suc, List, [], ◌∷◌, ◌++◌, Option, Some, None, is_none, ◌==◌, if◌then◌else◌}
use Rattle.std.specs.List.{filter}
use Rattle.std.specs.FinSet as set
use Rattle.ephemerals.specs.Orders.{Bytes}
use Rattle.batcher.specs.Class.{TxnGroup, empty_group}
use Rattle.batcher.specs.declared.met.Met.{Met}
use Rattle.batcher.specs.declared.met.Met.TheVariants.{Nothing, Group, Several}

-- The group with the transaction at the place, and with these paths.
abbrev pub with_txn_at : TxnGroup → ℕ → List Bytes → TxnGroup
with_txn_at class place paths =
    record { members = class.members ++ place ∷ []; paths = set.union class.paths (set.from_list paths) }

-- The group of this number gets a transaction; a number after the last group's makes a new group.
abbrev pub with_member : List TxnGroup → ℕ → ℕ → List Bytes → List TxnGroup
with_member [] k place paths = with_txn_at empty_group place paths ∷ []
with_member (c ∷ cs) zero place paths = with_txn_at c place paths ∷ cs
with_member (c ∷ cs) (suc k) place paths = c ∷ with_member cs k place paths

-- ---- the groups that have paths

-- The paths that no group owns.
abbrev pub unowned_paths : (Bytes → Option ℕ) → List Bytes → List Bytes
unowned_paths owner paths = filter (λ path. is_none (owner path)) paths

-- ---- the groups that are met

-- The groups met so far, and the owner of one more path.
abbrev pub met_with : Met → Option ℕ → Met
met_with met None = met
met_with Nothing (Some k) = Group k
met_with (Group j) (Some k) = if k == j then Group j else Several
met_with Several (Some k) = Several

-- The groups met so far, and the owner of each of the paths.
abbrev pub all_met : (Bytes → Option ℕ) → Met → List Bytes → Met
all_met owner met [] = met
all_met owner met (p ∷ ps) = all_met owner (met_with met (owner p)) ps

-- The group that was met, or a new one; nothing if several were met.
abbrev pub met_group : ℕ → Met → Option ℕ
met_group new Nothing = Some new
met_group new (Group k) = Some k
met_group new Several = None
