-- Cells that are taken out of a state and put back, and the effects of transactions on them.
use Rattle.std.specs.Prelude.{◌≡◌, ℤ, List, [], ◌∷◌, not, true, false, None}
use Rattle.std.specs.Ordering.{eq_by_cmp}
use Rattle.std.specs.FinMap as finmap
use Rattle.std.specs.FinSet as set
use Rattle.ephemerals.specs.Orders.{Bytes, Names, path_cmp}
use Rattle.ephemerals.specs.Pairs.{pairs_at, without_paths}
use Rattle.txn_codec.specs.declared.txn.Txn.{Txn}
use Rattle.node_map.specs.Updates.{with_entries, IsBetween}
use Rattle.data_tree.specs.State.{State}
use Rattle.data_tree.specs.Meaning.{TxnEffect, effect_of_txn, answer_of}
use Rattle.data_tree.specs.Footprint.{IsSameCell}
use Rattle.data_tree.specs.declared.outcome.Outcome.{Outcome}

-- The cells at these paths, and no session.
abbrev pub cells_at : Names → State → State
cells_at paths s = record {
  nodes = finmap.retain_keys s.nodes (set.contains paths);
  pairs = pairs_at paths s.pairs;
  sessions = finmap.empty;
}

-- The state with empty cells at these paths.
abbrev pub without_cells : Names → State → State
without_cells paths s = record {
  nodes = finmap.retain_keys s.nodes (λ (path : Bytes). not (set.contains paths path));
  pairs = without_paths paths s.pairs;
  sessions = s.sessions;
}

-- The state with these cells added.
abbrev pub with_cells : State → State → State
with_cells cells s = record {
  nodes = with_entries s.nodes (finmap.entries cells.nodes);
  pairs = set.union s.pairs cells.pairs;
  sessions = s.sessions;
}

-- Some of the cells' nodes and pairs were added to the state; all others are as they were.
pub record HasPartOfCells (cells old new : State) : Type 0 where
  pub nodes : IsBetween old.nodes (with_cells cells old).nodes new.nodes
  pub keeps_pairs : set.is_subset old.pairs new.pairs ≡ true
  pub adds_pairs : set.is_subset new.pairs (with_cells cells old).pairs ≡ true
  pub sessions : new.sessions ≡ old.sessions

-- The state without the node at the path; the sessions that list the path stay.
abbrev pub without_node : Bytes → State → State
without_node path s = record s { nodes = finmap.remove s.nodes path }

-- The cell at the path is that of the other state; all others are as they were.
pub record CopiesCell (path : Bytes) (from old new : State) : Type 0 where
  pub here : IsSameCell new from path
  pub elsewhere : (q : Bytes) → eq_by_cmp path_cmp q path ≡ false → IsSameCell new old q

-- The effect of the transaction, without setting a session's timeout; timeouts are set on the whole state.
abbrev pub effect_in_cells : State → Txn → TxnEffect
effect_in_cells cells t =
    let meant = effect_of_txn cells t in record meant { state = record meant.state { sessions = cells.sessions } }

-- The transactions one after the other.
abbrev pub after_in_cells : State → List Txn → State
after_in_cells cells [] = cells
after_in_cells cells (t ∷ ts) = after_in_cells (effect_in_cells cells t).state ts

abbrev pub outcomes_in_cells : State → List Txn → List Outcome
outcomes_in_cells cells [] = []
outcomes_in_cells cells (t ∷ ts) =
    answer_of (effect_in_cells cells t) ∷ outcomes_in_cells (effect_in_cells cells t).state ts

-- There is no node at the path, and no session lists it.
pub record IsEmptyCell (s : State) (path : Bytes) : Type 0 where
  pub node : finmap.get s.nodes path ≡ None
  pub owners : (session : ℤ) → set.contains s.pairs (session, path) ≡ false

-- The cells at the paths are moved, and no other.
pub record MovesCells (paths : Names) (s : State) : Type 0 where
  pub taken : (path : Bytes) → set.contains paths path ≡ true → IsSameCell (cells_at paths s) s path
  pub gone : (path : Bytes) → set.contains paths path ≡ true → IsEmptyCell (without_cells paths s) path
  pub left : (path : Bytes) → set.contains paths path ≡ false → IsSameCell (without_cells paths s) s path
  pub nothing : (path : Bytes) → set.contains paths path ≡ false → IsEmptyCell (cells_at paths s) path

abbrev pub TakenCellsMove : Type 0
TakenCellsMove = (paths : Names) (s : State) → MovesCells paths s

-- Cells are put in place of empty ones, and an empty cell changes nothing.
pub record PutsCells (cells s : State) : Type 0 where
  pub put : (path : Bytes) → IsEmptyCell s path → IsSameCell (with_cells cells s) cells path
  pub left : (path : Bytes) → IsEmptyCell cells path → IsSameCell (with_cells cells s) s path

abbrev pub CellsComeToEmptyCells : Type 0
CellsComeToEmptyCells = (cells s : State) → PutsCells cells s

-- Cells that are taken and put back unchanged leave the state as it was.
abbrev pub TakenAndPutBackIsTheState : Type 0
TakenAndPutBackIsTheState = (paths : Names) (s : State) → with_cells (cells_at paths s) (without_cells paths s) ≡ s
