-- Every schedule has the result of the batch.
use Rattle.std.proofs.Common.{◌≡◌, ◌≢◌, ◌⊎◌, ℕ, ◌<◌, ◌≤◌, nat_eq, nat_lt, List, [], ◌∷◌, ◌++◌, Bool, true, false, cond, map, take, drop, Option, Some, None, refl, sym, ap, ◌∙◌, subst, arith, inl, inr}
use Rattle.std.specs.List.{flat_map, AllByRecursion, count_by, range_with_len}
use Rattle.std.specs.FinSet as set
use Rattle.std.proofs.lemmas.Bool.{eq-eqb, eqb-true}
use Rattle.std.proofs.lemmas.Bool.Decides.{nat_tests}
use Rattle.std.proofs.lemmas.Simd.{map-map}
use mathlib.Core.Bool.{true≢false}
use Rattle.ephemerals.specs.Orders.{Bytes, Names, path_cmp}
use Rattle.ephemerals.proofs.Totals.{path_total}
use Rattle.txn_codec.specs.declared.txn.Txn.{Txn}
use Rattle.data_tree.specs.State.{State}
use Rattle.data_tree.specs.Meaning.{effect_of_txn, state_after, answer_of}
use Rattle.data_tree.specs.Meaning as meaning
use Rattle.data_tree.specs.Footprint.{has_path, footprint, KeepsToCells, IsSameCell}
use Rattle.data_tree.specs.Cells.{cells_at, IsEmptyCell, TakenCellsMove, CellsComeToEmptyCells}
use Rattle.data_tree.specs.Commuting.{GroupedTxn, txns_of_group, entries_of_group, batch_of, with_timeouts, KeepsToGroupPaths, AreDisjoint, AgreesWithBatch, GroupsAreTheBatch, CellsPutBackAreTheBatch, TransactionsKeepToTheirFootprints}
use Rattle.batcher.specs.Groups.{group_count, tagged_txns, paths_in}
use Rattle.batcher.specs.Laws.{AreAmong, GroupsAreApart, EachIsInAGroup, NoneIsABarrier, GroupsCoverTheirPaths}
use Rattle.apply_workers.specs.declared.step.Step.{Step}
use Rattle.apply_workers.specs.Schedule.{GroupState, opened_group, opened_groups, at_start, without_batch_cells, run_steps, with_rest_done, put_back, outcomes_of, in_batch_order, put_together, initial_progress_with, left_with, batch_result_with}
use Rattle.apply_workers.specs.Schedules.{one_by_one, SchedulesAreTheBatch, PathsAreWithOneGroup}
use Rattle.apply_workers.proofs.BatchPaths.{all_free, keeps_to, HasGroup, group_of, in_batch, is_below, nothing_at}
use Rattle.apply_workers.proofs.Stepping.{run_same, count_finished, IsLeft, IsApart, same_empty, run_apart}
use Rattle.apply_workers.proofs.Numbered.{same_cell_trans, all_numbered, one_passes, put_back_sessions, nothing_put, one_put, no_outcomes, own_outcomes}

-- ---- a batch, and the properties of its groups

-- The laws of trees and batches.
pub record Laws : Type 0 where
  pub keep : TransactionsKeepToTheirFootprints
  pub groups : GroupsAreTheBatch
  pub put_back : CellsPutBackAreTheBatch
  pub moved : TakenCellsMove
  pub come : CellsComeToEmptyCells
  pub apart : GroupsAreApart
  pub each : EachIsInAGroup
  pub barriers : NoneIsABarrier
  pub cover : GroupsCoverTheirPaths

record OfBatch (batch : List GroupedTxn) : Type 0 where
  disjoint : AreDisjoint (λ k. paths_in k batch)
  below : AllByRecursion (λ (t : GroupedTxn). t.0 < group_count batch) batch
  among : AllByRecursion (λ (t : GroupedTxn). AreAmong (footprint t.1) (paths_in t.0 batch)) batch
  free : AllByRecursion KeepsToCells (batch_of batch)

of_batch : Laws → (txns : List Txn) (batch : List GroupedTxn) → tagged_txns txns ≡ Some batch → OfBatch batch
of_batch laws txns batch is =
    let each = laws.each txns batch is in
    record {
      disjoint = laws.apart txns batch is;
      below = each.1;
      among = laws.cover batch;
      free = subst (AllByRecursion KeepsToCells) (sym each.0) (all_free txns (laws.barriers txns batch is));
    }

keeps : (batch : List GroupedTxn) → OfBatch batch → KeepsToGroupPaths (λ k. paths_in k batch) batch
keeps batch of = keeps_to (λ k. paths_in k batch) batch of.free of.among

-- The paths of group k, and of all groups.
abbrev names_in : ℕ → List GroupedTxn → Names
names_in k batch = set.from_list (paths_in k batch)

abbrev all_names : List GroupedTxn → Names
all_names batch = set.from_list (flat_map footprint (batch_of batch))

named : (paths : List Bytes) (p : Bytes) (b : Bool) → has_path paths p ≡ b
    → set.contains (set.from_list {R = path_cmp} paths) p ≡ b
named paths p b is = set.contains-from_list path_total paths p ∙ is

-- ---- a group with all transactions applied

-- Group k with all transactions applied.
abbrev whole : State → List GroupedTxn → ℕ → GroupState
whole s batch k = with_rest_done (opened_group s batch k)

of_the_batch : Laws → (s : State) (batch : List GroupedTxn) → OfBatch batch → (k : ℕ)
    → AgreesWithBatch (paths_in k batch) batch s (cells_at (names_in k batch) s) k
of_the_batch laws s batch of k =
    laws.groups (λ k. paths_in k batch) batch of.disjoint (keeps batch of) s (cells_at (names_in k batch) s) k
    (λ p at. (laws.moved (names_in k batch) s).taken p (named (paths_in k batch) p true at))

empty_elsewhere : Laws → (s : State) (batch : List GroupedTxn) → OfBatch batch → (k : ℕ) (p : Bytes)
    → has_path (paths_in k batch) p ≡ false → IsEmptyCell (whole s batch k).cells p
empty_elsewhere laws s batch of k p out =
    same_empty ((of_the_batch laws s batch of k).others p out)
    ((laws.moved (names_in k batch) s).nothing p (named (paths_in k batch) p false out))

-- Another group doesn't have the path.
not_there : (batch : List GroupedTxn) → OfBatch batch → (k : ℕ) (p : Bytes) → has_path (paths_in k batch) p ≡ true
    → (j : ℕ) → j ≢ k → has_path (paths_in j batch) p ≡ false
not_there batch of k p at j other = of.disjoint k j (λ e. other (sym e)) p at

-- ---- the state

abbrev all_put : State → List GroupedTxn → State
all_put s batch = put_back (without_batch_cells s batch) (map (whole s batch) (range_with_len 0 (group_count batch)))

put_there : Laws → (s : State) (batch : List GroupedTxn) → OfBatch batch → (k : ℕ) (p : Bytes)
    → has_path (paths_in k batch) p ≡ true → IsSameCell (all_put s batch) (whole s batch k).cells p
put_there laws s batch of k p at =
    let below = is_below (group_count batch) k batch p of.below at in
    one_put laws.come (whole s batch) k p
    (λ j other. empty_elsewhere laws s batch of j p (not_there batch of k p at j other))
    0 (group_count batch) (omega arith) (omega arith) (without_batch_cells s batch)
    ((laws.moved (all_names batch) s).gone p
    (named (flat_map footprint (batch_of batch)) p true (in_batch k batch p at)))

in_no_group : (batch : List GroupedTxn) → OfBatch batch → (p : Bytes)
    → ((k : ℕ) → has_path (paths_in k batch) p ≡ false) → (b : Bool)
    → has_path (flat_map footprint (batch_of batch)) p ≡ b → has_path (flat_map footprint (batch_of batch)) p ≡ false
in_no_group batch of p out true e =
    let has = group_of (group_count batch) (λ k. paths_in k batch) batch p of.among of.below e in
    absurd (true≢false (sym has.there ∙ out has.number))
in_no_group batch of p out false e = e

put_elsewhere : Laws → (s : State) (batch : List GroupedTxn) → OfBatch batch → (p : Bytes)
    → ((k : ℕ) → has_path (paths_in k batch) p ≡ false) → IsSameCell (all_put s batch) s p
put_elsewhere laws s batch of p out =
    same_cell_trans
    (nothing_put laws.come (map (whole s batch) (range_with_len 0 (group_count batch))) (without_batch_cells s batch) p
    (all_numbered (λ (g : GroupState). IsEmptyCell g.cells p) (whole s batch) 0 (group_count batch)
    (λ j above. empty_elsewhere laws s batch of j p (out j))))
    ((laws.moved (all_names batch) s).left p
    (named (flat_map footprint (batch_of batch)) p false (in_no_group batch of p out _ refl)))

-- The group that has a path, if one has it.
find : (batch : List GroupedTxn) → OfBatch batch → (p : Bytes)
    → ((k : ℕ) × (has_path (paths_in k batch) p ≡ true)) ⊎ ((k : ℕ) → has_path (paths_in k batch) p ≡ false)
find batch of p = by (has_path (flat_map footprint (batch_of batch)) p) refl
  where
    not_in : has_path (flat_map footprint (batch_of batch)) p ≡ false → (k : ℕ) (b : Bool)
        → has_path (paths_in k batch) p ≡ b → has_path (paths_in k batch) p ≡ false
    not_in out k true e = absurd (true≢false (sym (in_batch k batch p e) ∙ out))
    not_in out k false e = e

    by : (b : Bool) → has_path (flat_map footprint (batch_of batch)) p ≡ b
        → ((k : ℕ) × (has_path (paths_in k batch) p ≡ true)) ⊎ ((k : ℕ) → has_path (paths_in k batch) p ≡ false)
    by true e =
        let has = group_of (group_count batch) (λ k. paths_in k batch) batch p of.among of.below e in
        inl (has.number, has.there)
    by false e = inr (λ k. not_in e k _ refl)

abbrev with_sessions_set : State → List GroupedTxn → State
with_sessions_set put batch = record put { sessions = with_timeouts put.sessions (batch_of batch) }

state_is : Laws → (s : State) (batch : List GroupedTxn) → OfBatch batch
    → with_sessions_set (all_put s batch) batch ≡ state_after s (batch_of batch)
state_is laws s batch of =
    laws.put_back (λ k. paths_in k batch) batch of.disjoint (keeps batch of) s
    (with_sessions_set (all_put s batch) batch) (λ k. cells_at (names_in k batch) s)
    (λ k p at. (laws.moved (names_in k batch) s).taken p (named (paths_in k batch) p true at))
    (λ k p at. let cell = put_there laws s batch of k p at in record { node = cell.node; owners = cell.owners })
    (λ p out. let cell = put_elsewhere laws s batch of p out in record { node = cell.node; owners = cell.owners })
    (ap (λ sessions. with_timeouts sessions (batch_of batch))
    (put_back_sessions (without_batch_cells s batch) (map (whole s batch) (range_with_len 0 (group_count batch)))))
    (find batch of)

-- ---- the outcomes

-- The elements at each group's places, in the order of the batch.
in_order_is : (s : State) (batch : List GroupedTxn)
    → in_batch_order batch (λ k. entries_of_group k batch (meaning.outcomes_of_txns s (batch_of batch)))
    ≡ meaning.outcomes_of_txns s (batch_of batch)
in_order_is s [] = refl
in_order_is s (t ∷ ts) =
    (λ i. first i ++ in_batch_order ts (λ k. next k (nat_eq t.0 k) i))
    ∙ ap (λ os. answer_of (effect_of_txn s t.1) ∷ os) (in_order_is (effect_of_txn s t.1).state ts)
  where
    first : take 1
        (cond (nat_eq t.0 t.0)
        (answer_of (effect_of_txn s t.1) ∷ entries_of_group t.0 ts
        (meaning.outcomes_of_txns (effect_of_txn s t.1).state (batch_of ts)))
        (entries_of_group t.0 ts (meaning.outcomes_of_txns (effect_of_txn s t.1).state (batch_of ts))))
        ≡ answer_of (effect_of_txn s t.1) ∷ []
    first =
        ap
        (λ b. take 1
        (cond b (answer_of (effect_of_txn s t.1) ∷ entries_of_group t.0 ts
        (meaning.outcomes_of_txns (effect_of_txn s t.1).state (batch_of ts)))
        (entries_of_group t.0 ts (meaning.outcomes_of_txns (effect_of_txn s t.1).state (batch_of ts)))))
        (eq-eqb t.0 t.0 refl)

    next : (k : ℕ) (b : Bool)
        → cond b
        (drop 1
        (cond b (answer_of (effect_of_txn s t.1) ∷ entries_of_group k ts
        (meaning.outcomes_of_txns (effect_of_txn s t.1).state (batch_of ts)))
        (entries_of_group k ts (meaning.outcomes_of_txns (effect_of_txn s t.1).state (batch_of ts)))))
        (cond b (answer_of (effect_of_txn s t.1) ∷ entries_of_group k ts
        (meaning.outcomes_of_txns (effect_of_txn s t.1).state (batch_of ts)))
        (entries_of_group k ts (meaning.outcomes_of_txns (effect_of_txn s t.1).state (batch_of ts))))
        ≡ entries_of_group k ts (meaning.outcomes_of_txns (effect_of_txn s t.1).state (batch_of ts))
    next k true = refl
    next k false = refl

is_less : (a b : ℕ) → nat_lt a b ≡ true → a < b
is_less a b e = grind (arith, nat_tests)

is_not_less : (a b : ℕ) → nat_lt a b ≡ false → b ≤ a
is_not_less a b e = grind (arith, nat_tests)

outcomes_are : Laws → (s : State) (batch : List GroupedTxn) → OfBatch batch
    → in_batch_order batch (λ k. outcomes_of k (map (whole s batch) (range_with_len 0 (group_count batch))))
    ≡ meaning.outcomes_of_txns s (batch_of batch)
outcomes_are laws s batch of =
    (λ i. in_batch_order batch (λ k. each k (nat_lt k (group_count batch)) refl i)) ∙ in_order_is s batch
  where
    each : (k : ℕ) (b : Bool) → nat_lt k (group_count batch) ≡ b
        → outcomes_of k (map (whole s batch) (range_with_len 0 (group_count batch)))
        ≡ entries_of_group k batch (meaning.outcomes_of_txns s (batch_of batch))
    each k true e =
        let below = is_less k (group_count batch) e in
        own_outcomes (whole s batch) (λ j. refl) k 0 (group_count batch) (omega arith) (omega arith)
        ∙ (of_the_batch laws s batch of k).answers
    each k false e =
        let above = is_not_less k (group_count batch) e in
        no_outcomes (whole s batch) (λ j. refl) k 0 (group_count batch) (omega arith)
        ∙ sym (nothing_at (group_count batch) k batch (meaning.outcomes_of_txns s (batch_of batch)) of.below above)

-- ---- the laws

-- Whatever steps were taken, and in whatever order: when the rest is applied each group is as if it had been applied
-- separately.
finished_are : (s : State) (batch : List GroupedTxn) (steps : List Step)
    → map with_rest_done (run_steps (at_start s batch) steps).groups
    ≡ map (whole s batch) (range_with_len 0 (group_count batch))
finished_are s batch steps =
    run_same (at_start s batch) steps
    ∙ map-map with_rest_done (opened_group s batch) (range_with_len 0 (group_count batch))

together : Laws → (s : State) (batch : List GroupedTxn) → OfBatch batch
    → put_together (without_batch_cells s batch) batch (map (whole s batch) (range_with_len 0 (group_count batch)))
    ≡ one_by_one s (batch_of batch)
together laws s batch of = λ i. record { state = state_is laws s batch of i; outcomes = outcomes_are laws s batch of i }

pub schedules_are_the_batch : Laws → SchedulesAreTheBatch
schedules_are_the_batch laws s txns steps = by (tagged_txns txns) refl
  where
    by : (o : Option (List GroupedTxn)) → tagged_txns txns ≡ o
        → batch_result_with (left_with s o) txns o (run_steps (initial_progress_with s o) steps).groups
        ≡ one_by_one s txns
    by None is = refl
    by (Some batch) is =
        ap (put_together (without_batch_cells s batch) batch) (finished_are s batch steps)
        ∙ together laws s batch (of_batch laws txns batch is)
        ∙ ap (one_by_one s) (laws.each txns batch is).0

left_within : (paths : ℕ → List Bytes) (k : ℕ) (batch : List GroupedTxn) → KeepsToGroupPaths paths batch
    → AllByRecursion (IsLeft (set.from_list (paths k))) (txns_of_group k batch)
left_within paths k [] keep = tt
left_within paths k (t ∷ ts) keep = by (nat_eq t.0 k) refl (left_within paths k ts keep.1)
  where
    by : (b : Bool) → nat_eq t.0 k ≡ b → AllByRecursion (IsLeft (set.from_list (paths k))) (txns_of_group k ts)
        → AllByRecursion (IsLeft (set.from_list (paths k))) (cond b (t.1 ∷ txns_of_group k ts) (txns_of_group k ts))
    by true e rest = (
      (
        keep.0.0,
        λ q at. named (paths k) q true
            (subst (λ j. has_path (paths j) q ≡ true) (eqb-true t.0 k e) (keep.0.1 q at)),
      ),
      rest,
    )
    by false e rest = rest

opened_apart : Laws → (s : State) (batch : List GroupedTxn) → OfBatch batch
    → AllByRecursion IsApart (opened_groups s batch)
opened_apart laws s batch of =
    all_numbered IsApart (opened_group s batch) 0 (group_count batch)
    (λ k above. record {
      left = left_within (λ k. paths_in k batch) k batch (keeps batch of);
      cells = (laws.moved (names_in k batch) s).nothing;
    })

empty_in_others : (path : Bytes) (groups : List GroupState) → AllByRecursion IsApart groups
    → AllByRecursion (λ (g : GroupState). set.contains g.paths path ≡ false → IsEmptyCell g.cells path) groups
empty_in_others path [] apart = tt
empty_in_others path (g ∷ gs) apart = (apart.0.cells path, empty_in_others path gs apart.1)

pub paths_are_with_one_group : Laws → PathsAreWithOneGroup
paths_are_with_one_group laws s txns batch steps is path at =
    record {
      one =
          sym (count_finished path (run_steps (at_start s batch) steps).groups)
          ∙ ap (count_by (λ (g : GroupState). set.contains g.paths path)) (finished_are s batch steps)
          ∙ one_passes (λ (g : GroupState). set.contains g.paths path) (whole s batch) has.number
          (named (paths_in has.number batch) path true has.there)
          (λ j other. named (paths_in j batch) path false
          (not_there batch of has.number path has.there j other))
          0 (group_count batch) (omega arith) (let below = has.below in omega arith);
      others =
          empty_in_others path (run_steps (at_start s batch) steps).groups
          (run_apart laws.keep (at_start s batch) steps (opened_apart laws s batch of));
      not_beside =
          (laws.moved (all_names batch) s).gone path
          (named (flat_map footprint (batch_of batch)) path true inside);
    }
  where
    of : OfBatch batch
    of = of_batch laws txns batch is

    inside : has_path (flat_map footprint (batch_of batch)) path ≡ true
    inside = ap (λ ts. has_path (flat_map footprint ts) path) (laws.each txns batch is).0 ∙ at

    has : HasGroup (group_count batch) (λ k. paths_in k batch) path
    has = group_of (group_count batch) (λ k. paths_in k batch) batch path of.among of.below inside
