-- A transaction's footprint: a finite set of paths, or a barrier. The set is listed in ascending order of the paths'
-- bytes, each path once.
use Rattle.std.specs.Prelude.{ℕ, List, Bool, ◌||◌, ◌&&◌, nat_lt, length, if◌then◌else◌}
use Rattle.std.specs.FinSet as set
use Rattle.ephemerals.specs.Orders.{Bytes, Names, path_cmp, sorted_names}
use Rattle.txn_codec.specs.declared.txn.Txn.{Txn}
use Rattle.txn_codec.specs.Row.{ends_session}
use Rattle.data_tree.specs.Footprint as cells
use Rattle.footprint.specs.declared.cover.Footprint.{Footprint}
use Rattle.footprint.specs.declared.cover.Footprint.TheVariants.{Barrier, Paths}

-- A transaction with more paths is a barrier. Only a multi can have so many.
abbrev pub most_paths : ℕ
most_paths = 16

-- Each path counts once. A list that is no longer than this has no more paths.
abbrev pub has_too_many : List Bytes → Bool
has_too_many paths =
    nat_lt most_paths (length paths) && nat_lt most_paths (set.len (set.from_list {R = path_cmp} paths))

-- The paths whose cells a transaction may touch, where they don't depend on the state.
abbrev pub txn_paths : Txn → Names
txn_paths t = set.from_list (cells.footprint t)

-- The paths of a transaction that ends a session depend on the state.
abbrev pub is_barrier : Txn → Bool
is_barrier t = ends_session t.body || has_too_many (cells.footprint t)

abbrev pub txn_footprint : Txn → Footprint
txn_footprint t = if is_barrier t then Barrier else Paths (sorted_names (txn_paths t))
