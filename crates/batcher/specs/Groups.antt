-- The groups of transactions that are taken in turn: those that have a path in common get one group.
use Rattle.std.specs.Prelude.{ℕ, ◌+◌, ◌-◌, ◌==◌, max, List, [], ◌∷◌, ◌++◌, Option, Some, None, map, if◌then◌else◌}
use Rattle.std.specs.List.{filter_map, flat_map, list_all, range_with_len}
use Rattle.std.specs.FinSet as set
use Rattle.ephemerals.specs.Orders.{Bytes}
use Rattle.txn_codec.specs.declared.txn.Txn.{Txn}
use Rattle.data_tree.specs.Footprint.{has_path, footprint}
use Rattle.data_tree.specs.Commuting.{GroupedTxn, txns_of_group}
use Rattle.footprint.specs.Footprints.{is_barrier}
use Rattle.values.specs.Maybe.{◌>>=◌}
use Rattle.batcher.specs.Class.{TxnGroup}

abbrev pub group_with : List GroupedTxn → Bytes → Option ℕ
group_with [] path = None
group_with (t ∷ ts) path = if has_path (footprint t.1) path then Some t.0 else group_with ts path

-- The number of groups opened so far.
abbrev pub group_count : List GroupedTxn → ℕ
group_count [] = 0
group_count (t ∷ ts) = max (t.0 + 1) (group_count ts)

-- The group, if all of these are the same one; a new one, if there is none; nothing, if there are two.
abbrev pub only_group : ℕ → List ℕ → Option ℕ
only_group new [] = Some new
only_group new (k ∷ ks) = if list_all (λ j. j == k) ks then Some k else None

-- The group for these paths, after others: the one with which they have a path in common, a new one if there is none,
-- and nothing if there are two. A transaction without a path joins the group opened last, or opens the first.
abbrev pub group_for : List GroupedTxn → List Bytes → Option ℕ
group_for before [] = Some (group_count before - 1)
group_for before (p ∷ ps) = only_group (group_count before) (filter_map (group_with before) (p ∷ ps))

-- A barrier gets no group.
abbrev pub group_of_next : List GroupedTxn → Txn → Option ℕ
group_of_next before t = if is_barrier t then None else group_for before (footprint t)

-- The transactions in order with their groups, after others; nothing, if one of them gets no group.
abbrev pub tagged_txns_after : List GroupedTxn → List Txn → Option (List GroupedTxn)
tagged_txns_after before [] = Some before
tagged_txns_after before (t ∷ ts) = group_of_next before t >>= λ k. tagged_txns_after (before ++ (k, t) ∷ []) ts

abbrev pub tagged_txns : List Txn → Option (List GroupedTxn)
tagged_txns txns = tagged_txns_after [] txns

-- ---- a group with places and paths

-- The places of a group's transactions in the list that begins at this place.
abbrev pub places_from : ℕ → ℕ → List GroupedTxn → List ℕ
places_from place k [] = []
places_from place k (t ∷ ts) =
    if t.0 == k then place ∷ places_from (place + 1) k ts else places_from (place + 1) k ts

-- The paths of a group's transactions.
abbrev pub paths_in : ℕ → List GroupedTxn → List Bytes
paths_in k ts = flat_map footprint (txns_of_group k ts)

-- A group by its number.
abbrev pub txn_group_at : List GroupedTxn → ℕ → TxnGroup
txn_group_at ts k = record { members = places_from 0 k ts; paths = set.from_list (paths_in k ts) }

-- In the order in which they were opened.
abbrev pub txn_groups_of : List GroupedTxn → List TxnGroup
txn_groups_of ts = map (txn_group_at ts) (range_with_len 0 (group_count ts))
