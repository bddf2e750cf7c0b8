-- The steps of workers on a batch's groups, and the result of the groups at the end.
use Rattle.std.specs.Prelude.{ℕ, ◌==◌, ◌+◌, Bool, true, false, not, ◌&&◌, nat_lt, List, [], ◌∷◌, ◌++◌, Option, Some, None, map, length, take, drop, if◌then◌else◌}
use Rattle.std.specs.List.{flat_map, list_any, range_with_len}
use Rattle.std.specs.FinSet as set
use Rattle.ephemerals.specs.Orders.{Names}
use Rattle.txn_codec.specs.declared.txn.Txn.{Txn}
use Rattle.data_tree.specs.State.{State}
use Rattle.data_tree.specs.Meaning.{state_after, outcomes_of_txns, answer_of}
use Rattle.data_tree.specs.Footprint.{footprint}
use Rattle.data_tree.specs.Cells.{cells_at, without_cells, effect_in_cells, after_in_cells, outcomes_in_cells}
use Rattle.data_tree.specs.Commuting.{GroupedTxn, txns_of_group, batch_of}
use Rattle.data_tree.specs.declared.outcome.Outcome.{Outcome}
use Rattle.batcher.specs.Groups.{group_count, tagged_txns, paths_in}
use Rattle.apply_workers.specs.Homing.{with_all_cells, with_timeouts_set}
use Rattle.apply_workers.specs.declared.holder.Holder.{Holder}
use Rattle.apply_workers.specs.declared.holder.Holder.TheVariants.{Waiting, Held, Home}
use Rattle.apply_workers.specs.declared.step.Step.{Step}
use Rattle.apply_workers.specs.declared.step.Step.TheVariants.{Claim, Do, Give}

-- A group by its number: its paths and the cells there, the transactions that aren't applied yet, and the outcomes of
-- those that are.
pub record GroupState : Type 0 where
  pub number : ℕ
  pub holder : Holder
  pub paths : Names
  pub cells : State
  pub left : List Txn
  pub outcomes : List Outcome

-- The number of the group that is claimed next, and all groups.
pub record Progress : Type 0 where
  pub next : ℕ
  pub groups : List GroupState

-- ---- the first state

-- No transaction of group k is applied.
abbrev pub opened_group : State → List GroupedTxn → ℕ → GroupState
opened_group s batch k =
    let paths = set.from_list (paths_in k batch) in
    record {
      number = k;
      holder = Waiting;
      paths = paths;
      cells = cells_at paths s;
      left = txns_of_group k batch;
      outcomes = [];
    }

-- Each group has its cells of the state.
abbrev pub opened_groups : State → List GroupedTxn → List GroupState
opened_groups s batch = map (opened_group s batch) (range_with_len 0 (group_count batch))

abbrev pub at_start : State → List GroupedTxn → Progress
at_start s batch = record { next = 0; groups = opened_groups s batch }

-- The state without the cells that the groups have.
abbrev pub without_batch_cells : State → List GroupedTxn → State
without_batch_cells s batch = without_cells (set.from_list (flat_map footprint (batch_of batch))) s

-- ---- a step

abbrev pub is_held_by : ℕ → Holder → Bool
is_held_by worker Waiting = false
is_held_by worker (Held holder) = holder == worker
is_held_by worker Home = false

abbrev pub none_left : List Txn → Bool
none_left [] = true
none_left (t ∷ ts) = false

abbrev pub has_work : ℕ → GroupState → Bool
has_work worker g = is_held_by worker g.holder && not (none_left g.left)

abbrev pub is_finished_by : ℕ → GroupState → Bool
is_finished_by worker g = is_held_by worker g.holder && none_left g.left

-- A worker without a group claims one, if one is left. A worker with a group applies the group's next transaction, if
-- one is left, and gives the group back if none is.
abbrev pub can_be_taken : Progress → Step → Bool
can_be_taken p (Claim worker) =
    not (list_any (λ (g : GroupState). is_held_by worker g.holder) p.groups) && nat_lt p.next (length p.groups)
can_be_taken p (Do worker) = list_any (has_work worker) p.groups
can_be_taken p (Give worker) = list_any (is_finished_by worker) p.groups

abbrev pub claimed_by : ℕ → ℕ → GroupState → GroupState
claimed_by worker next g = if g.number == next then record g { holder = Held worker } else g

-- The group with its next transaction applied to its cells.
abbrev pub with_next_done : GroupState → List Txn → GroupState
with_next_done g [] = g
with_next_done g (t ∷ ts) =
    let meant = effect_in_cells g.cells t in
    record g { cells = meant.state; left = ts; outcomes = g.outcomes ++ answer_of meant ∷ [] }

abbrev pub done_by : ℕ → GroupState → GroupState
done_by worker g = if has_work worker g then with_next_done g g.left else g

abbrev pub given_by : ℕ → GroupState → GroupState
given_by worker g = if is_finished_by worker g then record g { holder = Home } else g

abbrev pub progress_after : Progress → Step → Progress
progress_after p (Claim worker) = record { next = p.next + 1; groups = map (claimed_by worker p.next) p.groups }
progress_after p (Do worker) = record p { groups = map (done_by worker) p.groups }
progress_after p (Give worker) = record p { groups = map (given_by worker) p.groups }

-- A step that can't be taken is skipped.
abbrev pub try_step : Progress → Step → Progress
try_step p s = if can_be_taken p s then progress_after p s else p

abbrev pub run_steps : Progress → List Step → Progress
run_steps p [] = p
run_steps p (s ∷ ss) = run_steps (try_step p s) ss

-- ---- the end

-- The group with all its transactions applied.
abbrev pub with_rest_done : GroupState → GroupState
with_rest_done g =
    record g {
      holder = Home;
      cells = after_in_cells g.cells g.left;
      left = [];
      outcomes = g.outcomes ++ outcomes_in_cells g.cells g.left;
    }

-- The groups' cells are put back, in the order of the groups.
abbrev pub put_back : State → List GroupState → State
put_back s groups = with_all_cells (map (λ (g : GroupState). g.cells) groups) s

abbrev pub outcomes_of : ℕ → List GroupState → List Outcome
outcomes_of k [] = []
outcomes_of k (g ∷ gs) = if g.number == k then g.outcomes else outcomes_of k gs

-- For each transaction the next outcome of its group.
abbrev pub in_batch_order : List GroupedTxn → (ℕ → List Outcome) → List Outcome
in_batch_order [] of = []
in_batch_order (t ∷ ts) of =
    take 1 (of t.0) ++ in_batch_order ts (λ k. if t.0 == k then drop 1 (of k) else of k)

-- The state and the outcomes of a batch.
pub record BatchResult : Type 0 where
  pub state : State
  pub outcomes : List Outcome

-- The groups, all of whose transactions are applied, are put together: the cells are put back, the timeouts are set in
-- the order of the batch, and the outcomes are in that order, too.
abbrev pub put_together : State → List GroupedTxn → List GroupState → BatchResult
put_together tree batch done = record {
  state = with_timeouts_set (batch_of batch) (put_back tree done);
  outcomes = in_batch_order batch (λ k. outcomes_of k done);
}

-- The transactions that the steps left are applied first.
abbrev pub finish_batch : State → List GroupedTxn → List GroupState → BatchResult
finish_batch tree batch groups = put_together tree batch (map with_rest_done groups)

-- ---- a batch with its groups, or one without groups, such as a single barrier

-- Without groups there is nothing to claim.
abbrev pub initial_progress_with : State → Option (List GroupedTxn) → Progress
initial_progress_with s None = record { next = 0; groups = [] }
initial_progress_with s (Some batch) = at_start s batch

abbrev pub initial_progress : State → List Txn → Progress
initial_progress s txns = initial_progress_with s (tagged_txns txns)

-- The rest of the state while the groups have their cells.
abbrev pub left_with : State → Option (List GroupedTxn) → State
left_with s None = s
left_with s (Some batch) = without_batch_cells s batch

abbrev pub left_by : State → List Txn → State
left_by s txns = left_with s (tagged_txns txns)

-- A batch without groups is applied to the tree itself.
abbrev pub batch_result_with : State → List Txn → Option (List GroupedTxn) → List GroupState → BatchResult
batch_result_with tree txns None groups =
    record { state = state_after tree txns; outcomes = outcomes_of_txns tree txns }
batch_result_with tree txns (Some batch) groups = finish_batch tree batch groups

abbrev pub batch_result : State → List Txn → List GroupState → BatchResult
batch_result tree txns groups = batch_result_with tree txns (tagged_txns txns) groups

-- The batch, applied by these steps and then as far as they left it.
abbrev pub schedule_result : State → List Txn → List Step → BatchResult
schedule_result s txns steps = batch_result (left_by s txns) txns (run_steps (initial_progress s txns) steps).groups
