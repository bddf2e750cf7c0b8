-- The batch that is cut from the front of a list of transactions.
use Rattle.std.specs.Prelude.{ℕ, zero, suc, Bool, false, ◌&&◌, ◌||◌, List, [], ◌∷◌, Option, Some, None, length, take, is_some, nat_le, if◌then◌else◌}
use Rattle.txn_codec.specs.declared.txn.Txn.{Txn}
use Rattle.data_tree.specs.Commuting.{GroupedTxn}
use Rattle.footprint.specs.Footprints.{is_barrier}
use Rattle.batcher.specs.Class.{TxnGroup}
use Rattle.batcher.specs.Limits.{LimitNumbers}
use Rattle.batcher.specs.Groups.{group_count, tagged_txns, txn_groups_of}

-- At most this many groups.
abbrev pub has_at_most : ℕ → Option (List GroupedTxn) → Bool
has_at_most groups None = false
has_at_most groups (Some ts) = nat_le (group_count ts) groups

-- Neither too many transactions nor too many groups; and each transaction gets a group, so none is a barrier and none
-- meets two groups.
abbrev pub is_allowed : LimitNumbers → List Txn → Bool
is_allowed limits front = nat_le (length front) limits.batch && has_at_most limits.groups (tagged_txns front)

-- The longest prefix that passes, of at most n elements.
abbrev pub longest_of : {A : Type 0} → (List A → Bool) → List A → ℕ → List A
longest_of passes xs zero = []
longest_of passes xs (suc n) = if passes (take (suc n) xs) then take (suc n) xs else longest_of passes xs n

-- A barrier at the front, alone; or else the longest prefix that is allowed.
abbrev pub cut : LimitNumbers → List Txn → List Txn
cut limits [] = []
cut limits (t ∷ ts) =
    if is_barrier t then t ∷ [] else longest_of (is_allowed limits) (t ∷ ts) (length (t ∷ ts))

-- ---- a batch is the list of its transactions

abbrev pub is_barrier_alone : List Txn → Bool
is_barrier_alone (t ∷ []) = is_barrier t
is_barrier_alone _ = false

-- The lists that may be cut: a single barrier, transactions that each get a group, or none.
abbrev pub is_batch : List Txn → Bool
is_batch txns = is_barrier_alone txns || is_some (tagged_txns txns)

-- The groups of transactions that each got one.
abbrev pub groups_if_tagged : Option (List GroupedTxn) → List TxnGroup
groups_if_tagged None = []
groups_if_tagged (Some ts) = txn_groups_of ts

-- A single barrier has none.
abbrev pub groups_of : List Txn → List TxnGroup
groups_of txns = groups_if_tagged (tagged_txns txns)
