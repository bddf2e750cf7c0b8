-- What holds for every schedule.
use Rattle.std.specs.Prelude.{◌≡◌, List, Some, true, false, map}
use Rattle.std.specs.List.{flat_map, count_by, AllByRecursion}
use Rattle.std.specs.FinSet as set
use Rattle.ephemerals.specs.Orders.{Bytes}
use Rattle.txn_codec.specs.declared.txn.Txn.{Txn}
use Rattle.data_tree.specs.State.{State}
use Rattle.data_tree.specs.Meaning.{state_after, outcomes_of_txns}
use Rattle.data_tree.specs.Footprint.{has_path, footprint}
use Rattle.data_tree.specs.Commuting.{GroupedTxn}
use Rattle.data_tree.specs.Cells.{cells_at, IsEmptyCell}
use Rattle.batcher.specs.Class.{TxnGroup}
use Rattle.batcher.specs.Cut.{groups_of}
use Rattle.batcher.specs.Groups.{tagged_txns}
use Rattle.apply_workers.specs.declared.step.Step.{Step}
use Rattle.apply_workers.specs.Schedule.{GroupState, at_start, without_batch_cells, left_by, run_steps, BatchResult, schedule_result}
use Rattle.apply_workers.specs.Taking.{cells_of_each, without_group_cells}

abbrev pub one_by_one : State → List Txn → BatchResult
one_by_one s txns = record { state = state_after s txns; outcomes = outcomes_of_txns s txns }

-- Whatever steps are taken, the batch has the state and the outcomes of applying its transactions one after the other.
abbrev pub SchedulesAreTheBatch : Type 0
SchedulesAreTheBatch = (s : State) (txns : List Txn) (steps : List Step)
    → schedule_result s txns steps ≡ one_by_one s txns

-- One group has the path. No other group has a cell there, nor has the rest of the tree.
pub record IsWithOneGroup (path : Bytes) (groups : List GroupState) (tree : State) : Type 0 where
  pub one : count_by (λ (g : GroupState). set.contains g.paths path) groups ≡ 1
  pub others :
      AllByRecursion (λ (g : GroupState). set.contains g.paths path ≡ false → IsEmptyCell g.cells path) groups
  pub not_beside : IsEmptyCell tree path

-- This holds for each path of the batch's transactions after any steps, so after each prefix of them.
abbrev pub PathsAreWithOneGroup : Type 0
PathsAreWithOneGroup =
    (s : State) (txns : List Txn) (batch : List GroupedTxn) (steps : List Step) → tagged_txns txns ≡ Some batch
    → (path : Bytes) → has_path (flat_map footprint txns) path ≡ true
    → IsWithOneGroup path (run_steps (at_start s batch) steps).groups (without_batch_cells s batch)

-- Taken one group after the other, each group's cells are those of the state itself.
pub record AreTaken (s : State) (txns : List Txn) : Type 0 where
  pub each : cells_of_each (groups_of txns) s ≡ map (λ (c : TxnGroup). cells_at c.paths s) (groups_of txns)
  pub rest : without_group_cells (groups_of txns) s ≡ left_by s txns

abbrev pub GroupsAreTaken : Type 0
GroupsAreTaken = (s : State) (txns : List Txn) → AreTaken s txns
