-- What holds for each batch, and for each cut.
use Rattle.std.specs.Prelude.{◌≡◌, ℕ, ◌<◌, ◌≤◌, List, ◌∷◌, Some, true, false, length, take, map}
use Rattle.std.specs.List.{slice_get, AllByRecursion}
use Rattle.ephemerals.specs.Orders.{Bytes}
use Rattle.txn_codec.specs.declared.txn.Txn.{Txn}
use Rattle.data_tree.specs.Footprint.{has_path, footprint}
use Rattle.data_tree.specs.Commuting.{GroupedTxn, txns_of_group, batch_of, AreDisjoint}
use Rattle.footprint.specs.Footprints.{is_barrier}
use Rattle.batcher.specs.Limits.{LimitNumbers, are_limits}
use Rattle.batcher.specs.Groups.{group_count, tagged_txns, places_from, paths_in}
use Rattle.batcher.specs.Cut.{is_allowed, cut}

-- Each of these paths is one of those.
abbrev pub AreAmong : List Bytes → List Bytes → Type 0
AreAmong paths those = (p : Bytes) → has_path paths p ≡ true → has_path those p ≡ true

-- No two groups have a path in common.
abbrev pub GroupsAreApart : Type 0
GroupsAreApart = (txns : List Txn) (ts : List GroupedTxn) → tagged_txns txns ≡ Some ts
    → AreDisjoint (λ k. paths_in k ts)

-- Each transaction, in order, is in one of the groups.
abbrev pub EachIsInAGroup : Type 0
EachIsInAGroup =
    (txns : List Txn) (ts : List GroupedTxn) → tagged_txns txns ≡ Some ts
    → (batch_of ts ≡ txns) × AllByRecursion (λ (t : GroupedTxn). t.0 < group_count ts) ts

abbrev pub NoneIsABarrier : Type 0
NoneIsABarrier =
    (txns : List Txn) (ts : List GroupedTxn) → tagged_txns txns ≡ Some ts
    → AllByRecursion (λ t. is_barrier t ≡ false) txns

-- A group has the paths of its transactions.
abbrev pub GroupsCoverTheirPaths : Type 0
GroupsCoverTheirPaths =
    (ts : List GroupedTxn) → AllByRecursion (λ (t : GroupedTxn). AreAmong (footprint t.1) (paths_in t.0 ts)) ts

-- A group's places refer to its transactions in order.
abbrev pub PlacesNameTheGroup : Type 0
PlacesNameTheGroup =
    (ts : List GroupedTxn) (k : ℕ)
    → map (λ place. slice_get (batch_of ts) place) (places_from 0 k ts) ≡ map Some (txns_of_group k ts)

-- The batch cut from a list that no barrier begins is a prefix of it, and allowed; no longer one is.
pub record IsLongest (limits : LimitNumbers) (txns front : List Txn) : Type 0 where
  pub of : take (length front) txns ≡ front
  pub allowed : is_allowed limits front ≡ true
  pub longer : (n : ℕ) → length front < n → n ≤ length txns → is_allowed limits (take n txns) ≡ false

abbrev pub CutsAreLongest : Type 0
CutsAreLongest =
    (limits : LimitNumbers) (t : Txn) (ts : List Txn) → are_limits limits ≡ true → is_barrier t ≡ false
    → IsLongest limits (t ∷ ts) (cut limits (t ∷ ts)) × (1 ≤ length (cut limits (t ∷ ts)))
