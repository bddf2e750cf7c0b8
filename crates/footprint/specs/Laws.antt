-- A footprint's list, and the cells in the effects of transactions.
use Rattle.std.specs.Prelude.{◌≡◌, List}
use Rattle.std.specs.List.Sorted.{IsStrictlySortedBy}
use Rattle.ephemerals.specs.Orders.{Bytes, path_cmp}
use Rattle.txn_codec.specs.declared.txn.Txn.{Txn}
use Rattle.data_tree.specs.Footprint.{has_path, footprint}
use Rattle.footprint.specs.declared.cover.Footprint.TheVariants.{Paths}
use Rattle.footprint.specs.Footprints.{txn_footprint}

-- A path is listed exactly if the transaction may touch its cell.
abbrev pub PathsAreTheCells : Type 0
PathsAreTheCells =
    (t : Txn) (paths : List Bytes) → txn_footprint t ≡ Paths paths
    → (path : Bytes) → has_path paths path ≡ has_path (footprint t) path

-- Strictly ascending bytes, so each path once.
abbrev pub PathsAscend : Type 0
PathsAscend = (t : Txn) (paths : List Bytes) → txn_footprint t ≡ Paths paths → IsStrictlySortedBy path_cmp paths
