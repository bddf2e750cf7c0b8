-- The prefix of a list that is taken one transaction after the other.
use Rattle.std.specs.Prelude.{◌≡◌, ℕ, Bool, true, false, List, [], ◌∷◌, ◌++◌, Option, Some, None, length, nat_lt, if◌then◌else◌}
use Rattle.std.specs.Option.{option_map_or}
use Rattle.txn_codec.specs.declared.txn.Txn.{Txn}
use Rattle.data_tree.specs.Commuting.{GroupedTxn}
use Rattle.footprint.specs.Footprints.{is_barrier}
use Rattle.batcher.specs.Limits.{LimitNumbers}
use Rattle.batcher.specs.Groups.{group_of_next}

-- A group with this number is within the limit.
abbrev pub group_within_limit : ℕ → Option ℕ → Option ℕ
group_within_limit groups None = None
group_within_limit groups (Some k) = if nat_lt k groups then Some k else None

-- The group of a transaction that is taken.
abbrev pub group_taken : LimitNumbers → List GroupedTxn → Txn → Option ℕ
group_taken limits before t =
    if nat_lt (length before) limits.batch then group_within_limit limits.groups (group_of_next before t) else None

-- The part of a list that is taken, after what was taken before.
abbrev pub tagged_front_after : LimitNumbers → List GroupedTxn → List Txn → List GroupedTxn
tagged_front_after limits before [] = before
tagged_front_after limits before (t ∷ ts) =
    option_map_or (λ k. tagged_front_after limits (before ++ (k, t) ∷ []) ts) (group_taken limits before t) before

-- A transaction was taken into its group; or it wasn't, since it may not be.
abbrev pub HasTaken : LimitNumbers → List GroupedTxn → Txn → Bool → List GroupedTxn → Type 0
HasTaken limits old t true new =
    (k : ℕ) × ((group_taken limits old t ≡ Some k) × (new ≡ old ++ (k, t) ∷ []))
HasTaken limits old t false new = (group_taken limits old t ≡ None) × (new ≡ old)

-- There is a barrier at the front, or nothing.
abbrev pub BeginsWithBarrier : List Txn → Type 0
BeginsWithBarrier [] = Unit {0}
BeginsWithBarrier (t ∷ ts) = is_barrier t ≡ true
