-- The cells that a transaction reads and writes. The cell at a path is the node there, if any, and the sessions that
-- list the path.
use Rattle.std.specs.Prelude.{◌≡◌, ℤ, List, Bool, true, false}
use Rattle.std.specs.List.{list_any}
use Rattle.std.specs.Ordering.{eq_by_cmp}
use Rattle.std.specs.FinMap as finmap
use Rattle.std.specs.FinSet as set
use Rattle.ephemerals.specs.Orders.{Bytes, path_cmp}
use Rattle.txn_codec.specs.declared.txn.Txn.{Txn}
use Rattle.txn_codec.specs.Row.{footprint_of_body, ends_session}
use Rattle.data_tree.specs.State.{State}

-- The footprint of a transaction that keeps to cells.
abbrev pub footprint : Txn → List Bytes
footprint t = footprint_of_body t.body

-- Every transaction but one that ends a session keeps to cells. That one changes cells at every path that the session
-- lists.
abbrev pub KeepsToCells : Txn → Type 0
KeepsToCells t = ends_session t.body ≡ false

abbrev pub has_path : List Bytes → Bytes → Bool
has_path paths path = list_any (eq_by_cmp path_cmp path) paths

-- The cell at the path: the node, and the sessions that list the path.
pub record IsSameCell (s t : State) (path : Bytes) : Type 0 where
  pub node : finmap.get s.nodes path ≡ finmap.get t.nodes path
  pub owners : (session : ℤ) → set.contains s.pairs (session, path) ≡ set.contains t.pairs (session, path)

abbrev pub AreSameAt : List Bytes → State → State → Type 0
AreSameAt paths s t = (path : Bytes) → has_path paths path ≡ true → IsSameCell s t path

abbrev pub AreApart : List Bytes → List Bytes → Type 0
AreApart ps qs = (path : Bytes) → has_path ps path ≡ true → has_path qs path ≡ false
