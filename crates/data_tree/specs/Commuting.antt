-- Transactions keep to their footprints, so those with separate footprints commute, and groups of them leave what the
-- whole batch leaves.
use Rattle.std.specs.Prelude.{◌≡◌, ◌≢◌, ◌⊎◌, ◌==◌, ℕ, List, [], ◌∷◌, true, false, map, if◌then◌else◌}
use Rattle.std.specs.List.{AllByRecursion}
use Rattle.std.specs.FinMap as finmap
use Rattle.ephemerals.specs.Orders.{Bytes}
use Rattle.txn_codec.specs.declared.txn.Txn.{Txn}
use Rattle.txn_codec.specs.declared.txn.TxnHeader.{TxnHeader}
use Rattle.txn_codec.specs.declared.row.SessionChange.{SessionChange}
use Rattle.txn_codec.specs.declared.row.SessionChange.TheVariants.{Nothing, Begins, Ends}
use Rattle.txn_codec.specs.Row.{session_change}
use Rattle.data_tree.specs.State.{State, SessionTimeouts}
use Rattle.data_tree.specs.Meaning.{TxnEffect, effect_of_txn, state_after, outcomes_of_txns, answer_of}
use Rattle.data_tree.specs.Cells.{after_in_cells, outcomes_in_cells}
use Rattle.data_tree.specs.Footprint.{has_path, IsSameCell, AreSameAt, AreApart, footprint, KeepsToCells}

-- The step leaves every other cell, and what it leaves in its own cells depends on those alone. Sessions aren't cells.
pub record IsConfined (paths : List Bytes) (step : State → State) : Type 0 where
  pub frame : (s : State) (path : Bytes) → has_path paths path ≡ false → IsSameCell (step s) s path
  pub local : (s t : State) → AreSameAt paths s t → AreSameAt paths (step s) (step t)

-- A step and its outcome, which depends on the step's cells alone.
pub record IsConfinedTo (paths : List Bytes) (meant : State → TxnEffect) : Type 0 where
  pub state : IsConfined paths (λ s. (meant s).state)
  pub answer : (s t : State) → AreSameAt paths s t → answer_of (meant s) ≡ answer_of (meant t)

abbrev pub TransactionsKeepToTheirFootprints : Type 0
TransactionsKeepToTheirFootprints = (t : Txn) → KeepsToCells t → IsConfinedTo (footprint t) (λ s. effect_of_txn s t)

-- A session that begins gets its timeout.
abbrev pub with_timeout_of : TxnHeader → SessionChange → SessionTimeouts → SessionTimeouts
with_timeout_of header (Begins timeout) sessions = finmap.insert sessions header.client_id timeout
with_timeout_of header Ends sessions = sessions
with_timeout_of header Nothing sessions = sessions

-- The sessions after the transactions' timeouts were set in order.
abbrev pub with_timeouts : SessionTimeouts → List Txn → SessionTimeouts
with_timeouts sessions [] = sessions
with_timeouts sessions (t ∷ ts) = with_timeouts (with_timeout_of t.header (session_change t.body) sessions) ts

-- The sessions after a transaction depend on no cell.
abbrev pub TransactionsSetTheirTimeouts : Type 0
TransactionsSetTheirTimeouts =
    (txns : List Txn) (s : State) → AllByRecursion KeepsToCells txns
    → (state_after s txns).sessions ≡ with_timeouts s.sessions txns

-- The cells and the outcomes are the same in either order; so are the states, if the order of the timeouts doesn't
-- matter either.
pub record DoCommute (a b : Txn) (s : State) : Type 0 where
  pub cells : (path : Bytes) → IsSameCell (state_after s (a ∷ b ∷ [])) (state_after s (b ∷ a ∷ [])) path
  pub first : answer_of (effect_of_txn (effect_of_txn s b).state a) ≡ answer_of (effect_of_txn s a)
  pub second : answer_of (effect_of_txn (effect_of_txn s a).state b) ≡ answer_of (effect_of_txn s b)
  pub state : with_timeouts s.sessions (a ∷ b ∷ []) ≡ with_timeouts s.sessions (b ∷ a ∷ [])
      → state_after s (a ∷ b ∷ []) ≡ state_after s (b ∷ a ∷ [])

abbrev pub DisjointTransactionsCommute : Type 0
DisjointTransactionsCommute =
    (a b : Txn) (s : State) → KeepsToCells a → KeepsToCells b → AreApart (footprint a) (footprint b) → DoCommute a b s

-- A transaction and the group that it is in.
abbrev pub GroupedTxn : Type 0
GroupedTxn = ℕ × Txn

-- The transactions of group k, in order.
abbrev pub txns_of_group : ℕ → List GroupedTxn → List Txn
txns_of_group k [] = []
txns_of_group k (t ∷ ts) = if t.0 == k then t.1 ∷ txns_of_group k ts else txns_of_group k ts

-- The elements at the places of group k.
abbrev pub entries_of_group : {A : Type 0} → ℕ → List GroupedTxn → List A → List A
entries_of_group k [] xs = []
entries_of_group k (t ∷ ts) [] = []
entries_of_group k (t ∷ ts) (x ∷ xs) = if t.0 == k then x ∷ entries_of_group k ts xs else entries_of_group k ts xs

abbrev pub batch_of : List GroupedTxn → List Txn
batch_of batch = map (λ (t : GroupedTxn). t.1) batch

-- Each transaction keeps to its group's paths.
abbrev pub KeepsToGroupPaths : (ℕ → List Bytes) → List GroupedTxn → Type 0
KeepsToGroupPaths paths [] = Unit {0}
KeepsToGroupPaths paths (t ∷ ts) =
    (KeepsToCells t.1 × ((p : Bytes) → has_path (footprint t.1) p ≡ true → has_path (paths t.0) p ≡ true))
    × KeepsToGroupPaths paths ts

-- No two groups have a path in common.
abbrev pub AreDisjoint : (ℕ → List Bytes) → Type 0
AreDisjoint paths = (j k : ℕ) → j ≢ k → AreApart (paths j) (paths k)

-- The transactions of a group, applied to cells that were taken from the state, leave these cells as the whole batch
-- does and all other cells as they were, and have the outcomes that the batch has at the group's places.
pub record AgreesWithBatch (paths : List Bytes) (batch : List GroupedTxn) (s taken : State) (k : ℕ) : Type 0 where
  pub cells : AreSameAt paths (after_in_cells taken (txns_of_group k batch)) (state_after s (batch_of batch))
  pub others : (p : Bytes) → has_path paths p ≡ false
      → IsSameCell (after_in_cells taken (txns_of_group k batch)) taken p
  pub answers : outcomes_in_cells taken (txns_of_group k batch)
      ≡ entries_of_group k batch (outcomes_of_txns s (batch_of batch))

-- So a group's transactions may be applied at any time and by any worker.
abbrev pub GroupsAreTheBatch : Type 0
GroupsAreTheBatch =
    (paths : ℕ → List Bytes) (batch : List GroupedTxn) → AreDisjoint paths → KeepsToGroupPaths paths batch
    → (s cells : State) (k : ℕ) → AreSameAt (paths k) cells s → AgreesWithBatch (paths k) batch s cells k

-- A state with the cells of each group, the old cells elsewhere, and the timeouts set in order is the state after the
-- batch.
abbrev pub CellsPutBackAreTheBatch : Type 0
CellsPutBackAreTheBatch =
    (paths : ℕ → List Bytes) (batch : List GroupedTxn) → AreDisjoint paths → KeepsToGroupPaths paths batch
    → (s new : State) (cells : ℕ → State) → ((k : ℕ) → AreSameAt (paths k) (cells k) s)
    → ((k : ℕ) → AreSameAt (paths k) new (after_in_cells (cells k) (txns_of_group k batch)))
    → ((p : Bytes) → ((k : ℕ) → has_path (paths k) p ≡ false) → IsSameCell new s p)
    → new.sessions ≡ with_timeouts s.sessions (batch_of batch)
    → (find : (p : Bytes) → ((k : ℕ) × (has_path (paths k) p ≡ true)) ⊎ ((k : ℕ) → has_path (paths k) p ≡ false))
    → new ≡ state_after s (batch_of batch)
