-- What is kept of the base, and what the contracts of private functions say of it.
use Rattle.std.specs.Prelude.{◌≡◌, ℤ, List, [], ◌∷◌, Bool, true, false, not, ◌||◌, int_lt, Option, Some, None, is_some, if◌then◌else◌}
use Rattle.std.specs.Option.{unwrap_or}
use Rattle.std.specs.FinMap as finmap
use Rattle.std.specs.FinSet as set
use Rattle.ephemerals.specs.Orders.{Bytes, Names, sorted_names}
use Rattle.txn_codec.specs.declared.txn.Txn.{Txn}
use Rattle.txn_codec.specs.declared.txn.Body.{Body}
use Rattle.txn_codec.specs.declared.txn.Body.TheVariants as body
use Rattle.txn_codec.specs.declared.txn.Operation.{Operation}
use Rattle.txn_codec.specs.declared.txn.Operation.TheVariants as op
use Rattle.txn_codec.specs.declared.txn.Owner.{Owner}
use Rattle.txn_codec.specs.declared.txn.Owner.TheVariants.{Nobody, Client, Container, Ttl}
use Rattle.txn_codec.specs.Row.{footprint_of_parts}
use Rattle.node_map.specs.declared.node.Node.{Node}
use Rattle.data_tree.specs.State.{State, SessionTimeouts}
use Rattle.data_tree.specs.Meaning.{delete_operations, ended_paths}
use Rattle.data_tree.specs.Cells.{cells_at, without_cells, with_cells, without_node}
use Rattle.data_tree.specs.Footprint.{has_path, IsSameCell, footprint}
use Rattle.based_tree.specs.declared.saved.SavedCells.{SavedCells}

-- The sessions of the base: those that were saved, or else the tree's.
abbrev pub sessions_of : SavedCells → State → SessionTimeouts
sessions_of saved tree = unwrap_or saved.sessions tree.sessions

-- ---- nodes that are newer than a transaction

-- A later transaction created the node, or changed its data or its children.
abbrev pub is_newer : ℤ → Node → Bool
is_newer zxid node = int_lt zxid node.stat.czxid || (int_lt zxid node.stat.mzxid || int_lt zxid node.stat.pzxid)

abbrev pub unless_newer : ℤ → Option Node → Option Node
unless_newer zxid None = None
unless_newer zxid (Some node) = if is_newer zxid node then None else Some node

abbrev pub is_one_newer : ℤ → Option Node → Bool
is_one_newer zxid None = false
is_one_newer zxid (Some node) = is_newer zxid node

abbrev pub has_newer : ℤ → State → Bytes → Bool
has_newer zxid s path = is_one_newer zxid (finmap.get s.nodes path)

abbrev pub HasNoNewer : ℤ → State → Type 0
HasNoNewer zxid s = (path : Bytes) → has_newer zxid s path ≡ false

-- The state without the newer nodes; the sessions that list their paths stay.
abbrev pub without_newer : ℤ → State → State
without_newer zxid s = record s {
  nodes = finmap.retain_keys s.nodes (λ (path : Bytes). is_some (unless_newer zxid (finmap.get s.nodes path)));
}

-- The paths of all newer nodes, and no other.
abbrev pub AreNewerPaths : ℤ → State → List Bytes → Type 0
AreNewerPaths zxid s paths = (path : Bytes) → has_path paths path ≡ has_newer zxid s path

-- The state without the nodes at these paths; the sessions that list the paths stay.
abbrev pub without_nodes_at : List Bytes → State → State
without_nodes_at [] s = s
without_nodes_at (path ∷ paths) s = without_nodes_at paths (without_node path s)

-- ---- the base

-- The base: the cells and the sessions that were saved, and elsewhere the tree without the nodes that are newer.
abbrev pub base_of : SavedCells → State → State
base_of saved tree =
    record (with_cells (cells_at saved.paths saved.cells) (without_cells saved.paths (without_newer saved.newest tree))) {
      sessions = sessions_of saved tree;
    }

abbrev pub is_saved : SavedCells → Bytes → Bool
is_saved saved path = set.contains saved.paths path

-- More is saved, of the same base.
pub record SavesMore (tree : State) (old new : SavedCells) : Type 0 where
  pub base : base_of new tree ≡ base_of old tree
  pub sessions : new.sessions ≡ old.sessions
  pub newest : new.newest ≡ old.newest
  pub keeps : (path : Bytes) → is_saved old path ≡ true → is_saved new path ≡ true

abbrev pub AreSaved : List Bytes → SavedCells → Type 0
AreSaved paths saved = (path : Bytes) → has_path paths path ≡ true → is_saved saved path ≡ true

-- ---- what is ready for a transaction

abbrev pub is_ephemeral_owner : Owner → Bool
is_ephemeral_owner Client = true
is_ephemeral_owner Nobody = false
is_ephemeral_owner Container = false
is_ephemeral_owner (Ttl milliseconds) = false

-- It changes nodes alone, and makes each of them newer.
abbrev pub is_quiet_operation : Operation → Bool
is_quiet_operation (op.Create c) = not (is_ephemeral_owner c.owner)
is_quiet_operation (op.SetData b) = true
is_quiet_operation (op.Delete d) = false
is_quiet_operation (op.Check b) = false
is_quiet_operation (op.Error e) = false

abbrev pub is_quiet : Body → Bool
is_quiet (body.Single operation) = is_quiet_operation operation
is_quiet (body.SetAcl b) = false
is_quiet (body.Multi parts) = false
is_quiet (body.CreateSession timeout) = false
is_quiet (body.CloseSession listed) = false

-- The base has no node at a path that isn't saved, and what a later transaction leaves there is newer.
pub record IsReadyAt (quiet : Bool) (zxid : ℤ) (saved : SavedCells) (tree : State) (path : Bytes) : Type 0 where
  pub quietly : quiet ≡ true
  pub later : int_lt saved.newest zxid ≡ true
  pub absent : unless_newer saved.newest (finmap.get tree.nodes path) ≡ None

-- A transaction with this zxid may change the cell: it is saved, or the base stays all the same.
abbrev pub IsCellReady : Bool → ℤ → SavedCells → State → Bytes → Type 0
IsCellReady quiet zxid saved tree path = is_saved saved path ≡ false → IsReadyAt quiet zxid saved tree path

abbrev pub AreCellsReady : List Bytes → Bool → ℤ → SavedCells → State → Type 0
AreCellsReady paths quiet zxid saved tree =
    (path : Bytes) → has_path paths path ≡ true → IsCellReady quiet zxid saved tree path

abbrev pub IsReadyFor : Txn → SavedCells → State → Type 0
IsReadyFor t saved tree = AreCellsReady (footprint t) (is_quiet t.body) t.header.zxid saved tree

abbrev pub IsReadyForEach : List Txn → SavedCells → State → Type 0
IsReadyForEach [] saved tree = Unit {0}
IsReadyForEach (t ∷ ts) saved tree = IsReadyFor t saved tree × IsReadyForEach ts saved tree

-- The paths that deletes of these paths touch.
abbrev pub deleted_footprint : Names → List Bytes
deleted_footprint paths = footprint_of_parts (delete_operations (sorted_names paths))

-- The paths that the end of the session touches.
abbrev pub ended_footprint : ℤ → List Bytes → State → List Bytes
ended_footprint session listed tree = deleted_footprint (ended_paths session listed tree)

-- The paths that the end of a session lists.
abbrev pub listed_in : Body → List Bytes
listed_in (body.CloseSession listed) = listed
listed_in (body.CreateSession timeout) = []
listed_in (body.Single operation) = []
listed_in (body.SetAcl b) = []
listed_in (body.Multi parts) = []

-- What the step changes was saved before, or leaves the base as it is.
pub record IsSavedFrom (saved : SavedCells) (tree new : State) : Type 0 where
  pub cells : (path : Bytes) → is_saved saved path ≡ false
      → IsSameCell (without_newer saved.newest new) (without_newer saved.newest tree) path
  pub sessions : sessions_of saved new ≡ sessions_of saved tree
