-- Groups that are put back: their cells and outcomes, and what they make of a batch.
use Rattle.std.specs.Prelude.{◌≡◌, true, false, List, [], ◌∷◌, length, map}
use Rattle.txn_codec.specs.declared.txn.Txn.{Txn}
use Rattle.data_tree.specs.State.{State}
use Rattle.data_tree.specs.Meaning.{state_after, outcomes_of_txns}
use Rattle.data_tree.specs.Cells.{with_cells, after_in_cells, outcomes_in_cells}
use Rattle.data_tree.specs.Commuting.{with_timeouts}
use Rattle.data_tree.specs.declared.outcome.Outcome.{Outcome}
use Rattle.batcher.specs.Class.{TxnGroup}
use Rattle.batcher.specs.Cut.{groups_of, is_batch, is_barrier_alone}
use Rattle.apply_workers.specs.Places.{at_places}
use Rattle.apply_workers.specs.Taking.{cells_of_each, without_group_cells}

-- The elements at each group's places of a list that is as long as the batch.
abbrev pub split_by_group : {A : Type 0} → List A → List TxnGroup → List (List A)
split_by_group whole classes = map (λ (c : TxnGroup). at_places whole c.members) classes

-- Each group's cells after its transactions.
abbrev pub after_each : List State → List (List Txn) → List State
after_each [] todo = []
after_each (c ∷ cs) [] = []
after_each (c ∷ cs) (ts ∷ todo) = after_in_cells c ts ∷ after_each cs todo

abbrev pub outcomes_of_each : List State → List (List Txn) → List (List Outcome)
outcomes_of_each [] todo = []
outcomes_of_each (c ∷ cs) [] = []
outcomes_of_each (c ∷ cs) (ts ∷ todo) = outcomes_in_cells c ts ∷ outcomes_of_each cs todo

-- The cells are put back, one group after the other.
abbrev pub with_all_cells : List State → State → State
with_all_cells [] s = s
with_all_cells (c ∷ cs) s = with_all_cells cs (with_cells c s)

-- The sessions' timeouts are set in the order of the transactions.
abbrev pub with_timeouts_set : List Txn → State → State
with_timeouts_set txns s = record s { sessions = with_timeouts s.sessions txns }

-- Each group's share of a list that has an element for each transaction.
pub record IsSplitByGroup {A : Type 0} (txns : List Txn) (whole : List A) (shares : List (List A)) : Type 0 where
  pub count : length whole ≡ length txns
  pub each : shares ≡ split_by_group whole (groups_of txns)

-- Groups that are applied separately and put back leave what the batch leaves, and each has its share of the batch's
-- outcomes.
pub record IsTheBatch (s : State) (txns : List Txn) : Type 0 where
  pub state : with_timeouts_set txns
      (with_all_cells (after_each (cells_of_each (groups_of txns) s) (split_by_group txns (groups_of txns)))
      (without_group_cells (groups_of txns) s)) ≡ state_after s txns
  pub shares : IsSplitByGroup txns (outcomes_of_txns s txns)
      (outcomes_of_each (cells_of_each (groups_of txns) s) (split_by_group txns (groups_of txns)))

abbrev pub GroupsComeHome : Type 0
GroupsComeHome = (s : State) (txns : List Txn) → is_batch txns ≡ true → is_barrier_alone txns ≡ false
    → IsTheBatch s txns
