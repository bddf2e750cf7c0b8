-- The results of a group's work.
use Rattle.std.specs.Prelude.{◌≡◌, ℕ, List, [], ◌∷◌, ◌++◌, length}
use Rattle.txn_codec.specs.declared.txn.Txn.{Txn}
use Rattle.data_tree.specs.State.{State}
use Rattle.data_tree.specs.Cells.{after_in_cells, outcomes_in_cells}
use Rattle.data_tree.specs.Refused.{IsLeftByRefused}
use Rattle.data_tree.specs.declared.outcome.Outcome.{Outcome}
use Rattle.apply_workers.specs.Places.{at_places}
use Rattle.apply_workers.specs.declared.group_work.Work.{Work}
use Rattle.apply_workers.specs.declared.group_work.Finished.{Finished}
use Rattle.apply_workers.specs.declared.group_work.Finished.TheVariants.{Done, Stopped}

-- The cells before the work.
abbrev pub cells_of : Work → State
cells_of work = work.cells

-- The transactions to apply, in order.
abbrev pub txns_of : Work → List Txn
txns_of work = at_places work.txns.now work.members.now

-- The cells after the transactions, and their outcomes.
pub record AreTxnsDone (cells : State) (txns : List Txn) (new : State) (answers : List Outcome) : Type 0 where
  pub state : new ≡ after_in_cells cells txns
  pub outcomes : answers ≡ outcomes_in_cells cells txns

-- What the first of the transactions leaves after a refused allocation.
abbrev pub IsLeftByFirst : List Txn → State → State → Type 0
IsLeftByFirst [] old new = new ≡ old
IsLeftByFirst (t ∷ ts) old new = IsLeftByRefused t.header t.body old new

-- This many transactions were applied, and an allocation was refused in the next one.
pub record IsStopped (cells : State) (txns : List Txn) (new : State) (done : ℕ) : Type 0 where
  pub front : List Txn
  pub rest : List Txn
  pub all : txns ≡ front ++ rest
  pub count : length front ≡ done
  pub state : IsLeftByFirst rest (after_in_cells cells front) new

-- All were applied, or the work was stopped before the end.
abbrev pub FinishesTxns : State → List Txn → Finished → Type 0
FinishesTxns cells txns (Done new answers) = AreTxnsDone cells txns new answers
FinishesTxns cells txns (Stopped new done) = IsStopped cells txns new done

abbrev pub IsOfWork : Work → Finished → Type 0
IsOfWork work finished = FinishesTxns (cells_of work) (txns_of work) finished
