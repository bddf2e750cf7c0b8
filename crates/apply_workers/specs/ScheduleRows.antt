-- Schedules that were worked out by hand, of transactions with any headers.
use Rattle.std.specs.Prelude.{◌≡◌, ℕ, pos, Bool, true, false, List, [], ◌∷◌, Some, codes}
use Rattle.std.specs.FinMap as finmap
use Rattle.std.specs.FinSet as set
use Rattle.txn_codec.specs.declared.txn.Txn.{Txn}
use Rattle.txn_codec.specs.declared.txn.TxnHeader.{TxnHeader}
use Rattle.txn_codec.specs.declared.txn.Body.TheVariants as body
use Rattle.ephemerals.specs.Orders.{Bytes}
use Rattle.node_map.specs.declared.node.Node.{Node}
use Rattle.data_tree.specs.State.{State}
use Rattle.data_tree.specs.Cells.{effect_in_cells}
use Rattle.data_tree.specs.Commuting.{GroupedTxn}
use Rattle.data_tree.specs.declared.outcome.Outcome.{Outcome}
use Rattle.data_tree.specs.declared.outcome.Trigger.TheVariants.{Created, ChildrenChanged}
use Rattle.batcher.specs.Groups.{tagged_txns}
use Rattle.batcher.specs.Rows.{create_txn_of, txn_with, path_a, path_b, path_a_x, path_a_y, path_b_z}
use Rattle.apply_workers.specs.declared.step.Step.{Step}
use Rattle.apply_workers.specs.declared.step.Step.TheVariants.{Claim, Do, Give}
use Rattle.apply_workers.specs.Schedule.{Progress, at_start, can_be_taken, try_step, schedule_result}
use Rattle.apply_workers.specs.Works.{IsStopped}

abbrev pub new_session_with : TxnHeader → ℕ → Txn
new_session_with h timeout = txn_with h (body.CreateSession (pos timeout))

abbrev pub are_taken : Progress → List Step → List Bool
are_taken p [] = []
are_taken p (s ∷ ss) = can_be_taken p s ∷ are_taken (try_step p s) ss

-- Two workers: one gives its group back before the other has applied anything.
abbrev pub two_workers : List Step
two_workers = Claim 0 ∷ Claim 1 ∷ Do 1 ∷ Give 1 ∷ Do 0 ∷ Give 0 ∷ Do 0 ∷ Give 0 ∷ []

abbrev pub create_outcome : Bytes → Bytes → Outcome
create_outcome path parent =
    record { results = record { err = pos 0; parts = [] }; triggers = Created path ∷ ChildrenChanged parent ∷ [] }

abbrev pub three_creates : TxnHeader → List Txn
three_creates h = create_txn_of h path_a_x ∷ create_txn_of h path_a_y ∷ create_txn_of h path_b_z ∷ []

abbrev pub in_two_groups : TxnHeader → List GroupedTxn
in_two_groups h = (0, create_txn_of h path_a_x) ∷ (0, create_txn_of h path_a_y) ∷ (1, create_txn_of h path_b_z) ∷ []

pub record WorkedSchedule (h : TxnHeader) : Type 0 where
  pub groups : tagged_txns (three_creates h) ≡ Some (in_two_groups h)
  -- Worker 0 can't give its group back before both creates are applied.
  pub steps :
      (s : State) → are_taken (at_start s (in_two_groups h)) two_workers
      ≡ true ∷ true ∷ true ∷ true ∷ true ∷ false ∷ true ∷ true ∷ []
  -- Both parents exist and don't have these children.
  pub outcomes :
      (s : State) (parent other : Node) → finmap.get s.nodes path_a ≡ Some parent
      → finmap.get s.nodes path_b ≡ Some other
      → set.contains parent.children (codes "x") ≡ false → set.contains parent.children (codes "y") ≡ false
      → set.contains other.children (codes "z") ≡ false
      → (schedule_result s (three_creates h) two_workers).outcomes
      ≡ create_outcome path_a_x path_a ∷ create_outcome path_a_y path_a ∷ create_outcome path_b_z path_b ∷ []
  -- Two timeouts of one session are in two groups; they are set in the order of the batch.
  pub timeouts :
      (s : State) (steps : List Step)
      → finmap.get (schedule_result s
      (new_session_with h 5000 ∷ create_txn_of h path_a_x ∷ new_session_with h 6000 ∷ []) steps).state.sessions
      h.client_id
      ≡ Some (pos 6000)
  -- A group that was stopped after the first of two creates has the first one's effect, and none of the other's.
  pub stopped :
      (s new : State) → IsStopped s (create_txn_of h path_a_x ∷ create_txn_of h path_a_y ∷ []) new 1
      → new ≡ (effect_in_cells s (create_txn_of h path_a_x)).state

abbrev pub SchedulesAreWorked : Type 0
SchedulesAreWorked = (h : TxnHeader) → WorkedSchedule h
