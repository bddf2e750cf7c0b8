-- Groups that are applied separately and put back leave what the batch leaves.
use Rattle.std.proofs.Common.{◌≡◌, ◌⊎◌, ℕ, zero, suc, ◌+◌, ◌<◌, ◌≤◌, List, [], ◌∷◌, Bool, true, false, true≢false, cond, ◌==◌, ◌||◌, Option, Some, None, is_some, map, length, inl, inr, refl, sym, ap, ◌∙◌, subst, subst₂, arith, eq-or-lt_of_le}
use Rattle.std.proofs.lemmas.Bool.{eqb-true}
use Rattle.std.specs.List.{range_with_len, flat_map, AllByRecursion}
use Rattle.std.specs.FinSet as set
use Rattle.ephemerals.specs.Orders.{Bytes}
use Rattle.ephemerals.proofs.Totals.{path_total}
use Rattle.txn_codec.specs.declared.txn.Txn.{Txn}
use Rattle.data_tree.specs.State.{State}
use Rattle.data_tree.specs.Meaning.{effect_of_txn, state_after, outcomes_of_txns}
use Rattle.data_tree.specs.Cells.{cells_at, without_cells, with_cells, after_in_cells, outcomes_in_cells, IsEmptyCell, TakenCellsMove, CellsComeToEmptyCells}
use Rattle.data_tree.specs.Footprint.{has_path, footprint, KeepsToCells, IsSameCell, AreSameAt}
use Rattle.data_tree.specs.Commuting.{GroupedTxn, txns_of_group, batch_of, KeepsToGroupPaths, AreDisjoint, with_timeouts, GroupsAreTheBatch, CellsPutBackAreTheBatch}
use Rattle.batcher.specs.Class.{TxnGroup}
use Rattle.batcher.specs.Groups.{group_count, tagged_txns, places_from, paths_in, txn_group_at, txn_groups_of}
use Rattle.batcher.specs.Cut.{groups_of, groups_if_tagged, is_batch, is_barrier_alone}
use Rattle.batcher.specs.Laws.{GroupsAreApart, EachIsInAGroup, NoneIsABarrier, GroupsCoverTheirPaths}
use Rattle.apply_workers.specs.Places.{at_places}
use Rattle.apply_workers.specs.Taking.{cells_of_each, without_group_cells}
use Rattle.apply_workers.specs.Homing.{split_by_group, after_each, outcomes_of_each, with_all_cells, with_timeouts_set, IsTheBatch, GroupsComeHome}
use Rattle.apply_workers.proofs.BatchPaths.{all_free, keeps_to}
use Rattle.apply_workers.proofs.Places.{at_its_places, txns_at_places, batch_length}

-- The laws of cells and of groups.
pub record Laws : Type 0 where
  pub cells : GroupsAreTheBatch
  pub state : CellsPutBackAreTheBatch
  pub moved : TakenCellsMove
  pub put : CellsComeToEmptyCells
  pub apart : GroupsAreApart
  pub each : EachIsInAGroup
  pub barriers : NoneIsABarrier
  pub cover : GroupsCoverTheirPaths

-- The properties of tagged transactions that are a batch.
pub record AreGroups (ts : List GroupedTxn) : Type 0 where
  pub apart : AreDisjoint (λ k. paths_in k ts)
  pub keeps : KeepsToGroupPaths (λ k. paths_in k ts) ts
  pub below : AllByRecursion (λ (t : GroupedTxn). t.0 < group_count ts) ts

-- ---- cells

pub same_sym : (s t : State) (p : Bytes) → IsSameCell s t p → IsSameCell t s p
same_sym s t p h = record { node = sym h.node; owners = λ o. sym (h.owners o) }

pub same_trans : (s t u : State) (p : Bytes) → IsSameCell s t p → IsSameCell t u p → IsSameCell s u p
same_trans s t u p h k = record { node = h.node ∙ k.node; owners = λ o. h.owners o ∙ k.owners o }

empty_same : (s t : State) (p : Bytes) → IsEmptyCell t p → IsSameCell s t p → IsEmptyCell s p
empty_same s t p e h = record { node = h.node ∙ e.node; owners = λ o. h.owners o ∙ e.owners o }

in_class : (ts : List GroupedTxn) (k : ℕ) (p : Bytes) (b : Bool) → has_path (paths_in k ts) p ≡ b
    → set.contains (txn_group_at ts k).paths p ≡ b
in_class ts k p b h = set.contains-from_list path_total (paths_in k ts) p ∙ h

-- A path of one group is in no other.
elsewhere : (ts : List GroupedTxn) → AreDisjoint (λ k. paths_in k ts) → (j k : ℕ) (p : Bytes) → j < k
    → has_path (paths_in j ts) p ≡ true → has_path (paths_in k ts) p ≡ false
elsewhere ts apart j k p l at = apart j k (λ e. absurd (omega arith)) p at

before : (ts : List GroupedTxn) → AreDisjoint (λ k. paths_in k ts) → (j k : ℕ) (p : Bytes) → j < k
    → has_path (paths_in k ts) p ≡ true → has_path (paths_in j ts) p ≡ false
before ts apart j k p l at = apart k j (λ e. absurd (omega arith)) p at

-- ---- the rest of the state

pub left_elsewhere : Laws → (ts : List GroupedTxn) (j m : ℕ) (s : State) (p : Bytes)
    → ((k : ℕ) → j ≤ k → has_path (paths_in k ts) p ≡ false)
    → IsSameCell (without_group_cells (map (txn_group_at ts) (range_with_len j m)) s) s p
left_elsewhere laws ts j zero s p out = record { node = refl; owners = λ o. refl }
left_elsewhere laws ts j (suc m) s p out =
    let u = without_cells (txn_group_at ts j).paths s in
    same_trans (without_group_cells (map (txn_group_at ts) (range_with_len (j + 1) m)) u) u s p
    (left_elsewhere laws ts (j + 1) m u p (λ k l. out k (omega arith)))
    ((laws.moved (txn_group_at ts j).paths s).left p (in_class ts j p false (out j (omega arith))))

pub left_empty : Laws → (ts : List GroupedTxn) → AreDisjoint (λ k. paths_in k ts)
    → (j m : ℕ) (s : State) (k : ℕ) (p : Bytes)
    → j ≤ k → k < j + m → has_path (paths_in k ts) p ≡ true
    → IsEmptyCell (without_group_cells (map (txn_group_at ts) (range_with_len j m)) s) p
left_empty laws ts apart j zero s k p l n at = absurd (omega arith)
left_empty laws ts apart j (suc m) s k p l n at = by (eq-or-lt_of_le l)
    (λ o. left_empty laws ts apart (j + 1) m (without_cells (txn_group_at ts j).paths s) k p (omega arith)
    (omega arith) at)
  where
    by : (j ≡ k) ⊎ (j < k)
        → (j < k → IsEmptyCell (without_group_cells (map (txn_group_at ts) (range_with_len j (suc m))) s) p)
        → IsEmptyCell (without_group_cells (map (txn_group_at ts) (range_with_len j (suc m))) s) p
    by (inl e) rest =
        let here : has_path (paths_in j ts) p ≡ true = subst (λ i. has_path (paths_in i ts) p ≡ true) (sym e) at in
        let u = without_cells (txn_group_at ts j).paths s in
        empty_same (without_group_cells (map (txn_group_at ts) (range_with_len (j + 1) m)) u) u p
        ((laws.moved (txn_group_at ts j).paths s).gone p (in_class ts j p true here))
        (left_elsewhere laws ts (j + 1) m u p (λ i o. elsewhere ts apart j i p (omega arith) here))
    by (inr o) rest = rest o

-- ---- putting back

-- The cells are as the batch leaves them, and there is nothing elsewhere.
record Returned (ts : List GroupedTxn) (whole : State) (k : ℕ) (c : State) : Type 0 where
  own : AreSameAt (paths_in k ts) c whole
  nothing : (p : Bytes) → has_path (paths_in k ts) p ≡ false → IsEmptyCell c p

abbrev AllReturned : List GroupedTxn → State → ℕ → List State → Type 0
AllReturned ts whole j [] = Unit {0}
AllReturned ts whole j (c ∷ cs) = Returned ts whole j c × AllReturned ts whole (j + 1) cs

put_elsewhere : Laws → (ts : List GroupedTxn) (whole : State) (j : ℕ) (cs : List State) → AllReturned ts whole j cs
    → (t : State) (p : Bytes) → ((k : ℕ) → j ≤ k → has_path (paths_in k ts) p ≡ false)
    → IsSameCell (with_all_cells cs t) t p
put_elsewhere laws ts whole j [] h t p out = record { node = refl; owners = λ o. refl }
put_elsewhere laws ts whole j (c ∷ cs) h t p out =
    same_trans (with_all_cells cs (with_cells c t)) (with_cells c t) t p
    (put_elsewhere laws ts whole (j + 1) cs h.1 (with_cells c t) p (λ k l. out k (omega arith)))
    ((laws.put c t).left p (h.0.nothing p (out j (omega arith))))

put_home : Laws → (ts : List GroupedTxn) → AreDisjoint (λ k. paths_in k ts) → (whole : State) (j : ℕ) (cs : List State)
    → AllReturned ts whole j cs → (t : State) (k : ℕ) (p : Bytes) → j ≤ k → k < j + length cs
    → has_path (paths_in k ts) p ≡ true → IsEmptyCell t p → IsSameCell (with_all_cells cs t) whole p
put_home laws ts apart whole j [] h t k p l n at empty = absurd (omega arith)
put_home laws ts apart whole j (c ∷ cs) h t k p l n at empty = by (eq-or-lt_of_le l)
    (λ o. put_home laws ts apart whole (j + 1) cs h.1 (with_cells c t) k p (omega arith) (omega arith) at
    (empty_same (with_cells c t) t p empty ((laws.put c t).left p (h.0.nothing p (before ts apart j k p o at)))))
  where
    by : (j ≡ k) ⊎ (j < k) → (j < k → IsSameCell (with_all_cells cs (with_cells c t)) whole p)
        → IsSameCell (with_all_cells cs (with_cells c t)) whole p
    by (inl e) rest =
        let here : has_path (paths_in j ts) p ≡ true = subst (λ i. has_path (paths_in i ts) p ≡ true) (sym e) at in
        same_trans (with_all_cells cs (with_cells c t)) (with_cells c t) whole p
        (put_elsewhere laws ts whole (j + 1) cs h.1 (with_cells c t) p
        (λ i o. elsewhere ts apart j i p (omega arith) here))
        (same_trans (with_cells c t) c whole p ((laws.put c t).put p empty) (h.0.own p here))
    by (inr o) rest = rest o

-- ---- groups that are applied

abbrev pub classes_from : List GroupedTxn → ℕ → ℕ → List TxnGroup
classes_from ts j m = map (txn_group_at ts) (range_with_len j m)

-- The state u has the old cells of group j and of those after it.
abbrev pub IsNear : List GroupedTxn → State → ℕ → State → Type 0
IsNear ts s j u = (k : ℕ) (p : Bytes) → j ≤ k → has_path (paths_in k ts) p ≡ true → IsSameCell u s p

taken_same : Laws → (ts : List GroupedTxn) (s : State) (j : ℕ) (u : State) → IsNear ts s j u
    → AreSameAt (paths_in j ts) (cells_at (txn_group_at ts j).paths u) s
taken_same laws ts s j u near p at =
    same_trans (cells_at (txn_group_at ts j).paths u) u s p
    ((laws.moved (txn_group_at ts j).paths u).taken p (in_class ts j p true at)) (near j p (omega arith) at)

pub near_next : Laws → (ts : List GroupedTxn) → AreDisjoint (λ k. paths_in k ts) → (s : State) (j : ℕ) (u : State)
    → IsNear ts s j u → IsNear ts s (j + 1) (without_cells (txn_group_at ts j).paths u)
near_next laws ts apart s j u near k p l at =
    same_trans (without_cells (txn_group_at ts j).paths u) u s p
    ((laws.moved (txn_group_at ts j).paths u).left p (in_class ts j p false (before ts apart j k p (omega arith) at)))
    (near k p (omega arith) at)

all_returned : Laws → (ts : List GroupedTxn) → AreGroups ts → (s : State) (j m : ℕ) (u : State) → IsNear ts s j u
    → AllReturned ts (state_after s (batch_of ts)) j
    (after_each (cells_of_each (classes_from ts j m) u) (split_by_group (batch_of ts) (classes_from ts j m)))
all_returned laws ts groups s j zero u near = tt
all_returned laws ts groups s j (suc m) u near =
    let names = (txn_group_at ts j).paths in
    let taken = cells_at names u in
    let done = laws.cells (λ k. paths_in k ts) ts groups.apart groups.keeps s taken j
    (taken_same laws ts s j u near) in (
      subst (λ (todo : List Txn). Returned ts (state_after s (batch_of ts)) j (after_in_cells taken todo))
          (sym (txns_at_places j ts))
          (record {
            own = done.cells;
            nothing = λ p out.
                empty_same (after_in_cells taken (txns_of_group j ts)) taken p
                ((laws.moved names u).nothing p (in_class ts j p false out)) (done.others p out);
          }),
      all_returned laws ts groups s (j + 1) m (without_cells names u) (near_next laws ts groups.apart s j u near),
    )

outcomes_length : (s : State) (txns : List Txn) → length (outcomes_of_txns s txns) ≡ length txns
outcomes_length s [] = refl
outcomes_length s (t ∷ ts) = omega (arith, outcomes_length (effect_of_txn s t).state ts)

all_answered : Laws → (ts : List GroupedTxn) → AreGroups ts → (s : State) (j m : ℕ) (u : State) → IsNear ts s j u
    → outcomes_of_each (cells_of_each (classes_from ts j m) u) (split_by_group (batch_of ts) (classes_from ts j m))
    ≡ split_by_group (outcomes_of_txns s (batch_of ts)) (classes_from ts j m)
all_answered laws ts groups s j zero u near = refl
all_answered laws ts groups s j (suc m) u near =
    let names = (txn_group_at ts j).paths in
    let taken = cells_at names u in
    let done = laws.cells (λ k. paths_in k ts) ts groups.apart groups.keeps s taken j
    (taken_same laws ts s j u near) in
    let first : outcomes_in_cells taken (at_places (batch_of ts) (places_from 0 j ts))
    ≡ at_places (outcomes_of_txns s (batch_of ts)) (places_from 0 j ts) =
    ap (outcomes_in_cells taken) (txns_at_places j ts)
    ∙ done.answers
    ∙ sym (at_its_places j ts (outcomes_of_txns s (batch_of ts)) (outcomes_length s (batch_of ts) ∙ batch_length ts)) in
    (λ i. first i
    ∷ all_answered laws ts groups s (j + 1) m (without_cells names u) (near_next laws ts groups.apart s j u near) i)

done_length : (cs : List TxnGroup) (s : State) (txns : List Txn)
    → length (after_each (cells_of_each cs s) (split_by_group txns cs)) ≡ length cs
done_length [] s txns = refl
done_length (c ∷ cs) s txns = omega (arith, done_length cs (without_cells c.paths s) txns)

pub classes_length : (ts : List GroupedTxn) (j m : ℕ) → length (classes_from ts j m) ≡ m
classes_length ts j zero = refl
classes_length ts j (suc m) = omega (arith, classes_length ts (j + 1) m)

put_sessions : (cs : List State) (t : State) → (with_all_cells cs t).sessions ≡ t.sessions
put_sessions [] t = refl
put_sessions (c ∷ cs) t = put_sessions cs (with_cells c t)

pub left_sessions : (cs : List TxnGroup) (s : State) → (without_group_cells cs s).sessions ≡ s.sessions
left_sessions [] s = refl
left_sessions (c ∷ cs) s = left_sessions cs (without_cells c.paths s)

-- ---- the group of a path

-- Only groups that were opened have a path.
within : (ts : List GroupedTxn) (n : ℕ) → AllByRecursion (λ (t : GroupedTxn). t.0 < n) ts → (k : ℕ) (p : Bytes)
    → has_path (paths_in k ts) p ≡ true → k < n
within [] n below k p at = absurd (true≢false (sym at))
within (t ∷ ts) n below k p at = by (within ts n below.1 k p) (t.0 == k) refl at
  where
    by : (has_path (paths_in k ts) p ≡ true → k < n) → (b : Bool) → (t.0 == k) ≡ b
        → has_path (flat_map footprint (cond b (t.1 ∷ txns_of_group k ts) (txns_of_group k ts))) p ≡ true → k < n
    by rest true e at = subst (λ i. i < n) (eqb-true t.0 k e) below.0
    by rest false e at = rest at

find_below : (ts : List GroupedTxn) (p : Bytes) (n : ℕ)
    → ((k : ℕ) × (has_path (paths_in k ts) p ≡ true)) ⊎ ((k : ℕ) → k < n → has_path (paths_in k ts) p ≡ false)
find_below ts p zero = inr (λ k l. absurd (omega arith))
find_below ts p (suc n) = by (has_path (paths_in n ts) p) refl (find_below ts p n)
  where
    last : has_path (paths_in n ts) p ≡ false → ((k : ℕ) → k < n → has_path (paths_in k ts) p ≡ false) → (k : ℕ)
        → (k ≡ n) ⊎ (k < n) → has_path (paths_in k ts) p ≡ false
    last e out k (inl is) = subst (λ i. has_path (paths_in i ts) p ≡ false) (sym is) e
    last e out k (inr l) = out k l

    by : (b : Bool) → has_path (paths_in n ts) p ≡ b
        → ((k : ℕ) × (has_path (paths_in k ts) p ≡ true)) ⊎ ((k : ℕ) → k < n → has_path (paths_in k ts) p ≡ false)
        → ((k : ℕ) × (has_path (paths_in k ts) p ≡ true)) ⊎ ((k : ℕ) → k < suc n → has_path (paths_in k ts) p ≡ false)
    by true e rest = inl (n, e)
    by false e (inl found) = inl found
    by false e (inr out) = inr (λ k l. last e out k (eq-or-lt_of_le (omega arith)))

-- Each path is of one group or of none.
pub find_group : (ts : List GroupedTxn) → AllByRecursion (λ (t : GroupedTxn). t.0 < group_count ts) ts → (p : Bytes)
    → ((k : ℕ) × (has_path (paths_in k ts) p ≡ true)) ⊎ ((k : ℕ) → has_path (paths_in k ts) p ≡ false)
find_group ts below p = by (find_below ts p (group_count ts))
  where
    sure : ((k : ℕ) → k < group_count ts → has_path (paths_in k ts) p ≡ false) → (k : ℕ) → (b : Bool)
        → has_path (paths_in k ts) p ≡ b → has_path (paths_in k ts) p ≡ false
    sure out k false e = e
    sure out k true e = out k (within ts (group_count ts) below k p e)

    by : ((k : ℕ) × (has_path (paths_in k ts) p ≡ true)) ⊎
        ((k : ℕ) → k < group_count ts → has_path (paths_in k ts) p ≡ false)
        → ((k : ℕ) × (has_path (paths_in k ts) p ≡ true)) ⊎ ((k : ℕ) → has_path (paths_in k ts) p ≡ false)
    by (inl found) = inl found
    by (inr out) = inr (λ k. sure out k (has_path (paths_in k ts) p) refl)

-- ---- the properties of a batch

pub are_groups : Laws → (txns : List Txn) (ts : List GroupedTxn) → tagged_txns txns ≡ Some ts → AreGroups ts
are_groups laws txns ts is = record {
  apart = laws.apart txns ts is;
  keeps = keeps_to (λ k. paths_in k ts) ts
      (subst (AllByRecursion KeepsToCells) (sym (laws.each txns ts is).0) (all_free txns (laws.barriers txns ts is)))
      (laws.cover ts);
  below = (laws.each txns ts is).1;
}

-- ---- the batch

home_state : Laws → (ts : List GroupedTxn) → AreGroups ts → (s : State)
    → with_timeouts_set (batch_of ts) (with_all_cells
    (after_each (cells_of_each (txn_groups_of ts) s) (split_by_group (batch_of ts) (txn_groups_of ts)))
    (without_group_cells (txn_groups_of ts) s)) ≡ state_after s (batch_of ts)
home_state laws ts groups s =
    let classes = txn_groups_of ts in
    let left = without_group_cells classes s in
    let cs = after_each (cells_of_each classes s) (split_by_group (batch_of ts) classes) in
    let whole = state_after s (batch_of ts) in
    let put = with_all_cells cs left in
    let near : IsNear ts s 0 s = λ k p l at. record { node = refl; owners = λ o. refl } in
    let returned = all_returned laws ts groups s 0 (group_count ts) s near in
    let count : length cs ≡ group_count ts =
    done_length classes s (batch_of ts) ∙ classes_length ts 0 (group_count ts) in
    let taken : (k : ℕ) → State = λ k. cells_at (txn_group_at ts k).paths s in
    let same : (k : ℕ) → AreSameAt (paths_in k ts) (taken k) s =
    λ k. taken_same laws ts s k s (λ i p l at. record { node = refl; owners = λ o. refl }) in
    laws.state (λ k. paths_in k ts) ts groups.apart groups.keeps s (with_timeouts_set (batch_of ts) put) taken same
    (λ k p at.
    let below = within ts (group_count ts) groups.below k p at in
    let home = put_home laws ts groups.apart whole 0 cs returned left k p (omega arith) (omega arith) at
    (left_empty laws ts groups.apart 0 (group_count ts) s k p (omega arith) (omega arith) at) in
    let done = laws.cells (λ i. paths_in i ts) ts groups.apart groups.keeps s (taken k) k (same k) in
    let back = same_sym (after_in_cells (taken k) (txns_of_group k ts)) whole p (done.cells p at) in
    record { node = home.node ∙ back.node; owners = λ o. home.owners o ∙ back.owners o })
    (λ p out.
    let first = put_elsewhere laws ts whole 0 cs returned left p (λ k l. out k) in
    let then = left_elsewhere laws ts 0 (group_count ts) s p (λ k l. out k) in
    record { node = first.node ∙ then.node; owners = λ o. first.owners o ∙ then.owners o })
    (ap (λ sessions. with_timeouts sessions (batch_of ts)) (put_sessions cs left ∙ left_sessions classes s))
    (find_group ts groups.below)

grouped_home : Laws → (s : State) (txns : List Txn) (ts : List GroupedTxn) → tagged_txns txns ≡ Some ts
    → IsTheBatch s txns
grouped_home laws s txns ts is =
    let groups = are_groups laws txns ts is in
    let batch = (laws.each txns ts is).0 in
    let listed_so : txn_groups_of ts ≡ groups_of txns = sym (ap groups_if_tagged is) in
    let near : IsNear ts s 0 s = λ k p l at. record { node = refl; owners = λ o. refl } in
    let state = home_state laws ts groups s in
    let answered = all_answered laws ts groups s 0 (group_count ts) s near in
    record {
      state = subst₂ (λ (b : List Txn) (cs : List TxnGroup).
          with_timeouts_set b (with_all_cells (after_each (cells_of_each cs s) (split_by_group b cs))
          (without_group_cells cs s)) ≡ state_after s b)
          batch listed_so state;
      shares = record {
        count = outcomes_length s txns;
        each = subst₂ (λ (b : List Txn) (cs : List TxnGroup).
            outcomes_of_each (cells_of_each cs s) (split_by_group b cs) ≡ split_by_group (outcomes_of_txns s b) cs)
            batch listed_so answered;
      };
    }

-- A batch that isn't a barrier has groups.
pub has_groups : (txns : List Txn) → is_batch txns ≡ true → is_barrier_alone txns ≡ false
    → (ts : List GroupedTxn) × (tagged_txns txns ≡ Some ts)
has_groups txns batch alone =
    by (tagged_txns txns) refl (sym (ap (λ b. b || is_some (tagged_txns txns)) alone) ∙ batch)
  where
    by : (o : Option (List GroupedTxn)) → tagged_txns txns ≡ o → is_some (tagged_txns txns) ≡ true
        → (ts : List GroupedTxn) × (tagged_txns txns ≡ Some ts)
    by (Some ts) e h = (ts, e)
    by None e h = absurd (true≢false (sym h ∙ ap is_some e))

pub groups_come_home : Laws → GroupsComeHome
groups_come_home laws s txns batch alone =
    let found = has_groups txns batch alone in grouped_home laws s txns found.0 found.1
