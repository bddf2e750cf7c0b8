-- The cells taken from a state one group after the other are each group's cells of that state.
use Rattle.std.proofs.Common.{◌≡◌, ◌⊎◌, ℕ, zero, suc, ◌+◌, List, [], ◌∷◌, Bool, true, false, true≢false, Option, Some, None, map, inl, inr, refl, sym, ◌∙◌, arith}
use Rattle.std.specs.List.{flat_map}
use Rattle.std.specs.FinSet as set
use Rattle.ephemerals.specs.Orders.{Bytes, Names}
use Rattle.ephemerals.proofs.Totals.{path_total}
use Rattle.data_tree.specs.State.{State}
use Rattle.data_tree.specs.Cells.{cells_at, without_cells, IsEmptyCell}
use Rattle.data_tree.specs.Footprint.{has_path, footprint, IsSameCell}
use Rattle.data_tree.specs.Commuting.{GroupedTxn, batch_of, AreDisjoint, CellsPutBackAreTheBatch}
use Rattle.batcher.specs.Class.{TxnGroup}
use Rattle.batcher.specs.Cut.{groups_if_tagged}
use Rattle.batcher.specs.Groups.{group_count, tagged_txns, paths_in, txn_group_at, txn_groups_of}
use Rattle.apply_workers.specs.Taking.{cells_of_each, without_group_cells}
use Rattle.apply_workers.specs.Schedule.{without_batch_cells, left_with}
use Rattle.apply_workers.specs.Schedules.{GroupsAreTaken}
use Rattle.apply_workers.proofs.BatchPaths.{group_of, in_batch, is_below}
use Rattle.apply_workers.proofs.Returning.{Laws, AreGroups, same_sym, same_trans, left_elsewhere, left_empty, left_sessions, IsNear, near_next, classes_from, find_group, are_groups}

-- A state that has the cells and the sessions of another is that state: it is the one after no transaction.
is_same : CellsPutBackAreTheBatch → (s t : State) → ((p : Bytes) → IsSameCell t s p) → t.sessions ≡ s.sessions → t ≡ s
is_same law s t cells sessions =
    law (λ k. []) [] (λ j k other p at. refl) tt s t (λ k. s) (λ k p at. absurd (true≢false (sym at)))
    (λ k p at. absurd (true≢false (sym at))) (λ p out. cells p) sessions (λ p. inr (λ k. refl))

both_empty : (s t : State) (p : Bytes) → IsEmptyCell s p → IsEmptyCell t p → IsSameCell s t p
both_empty s t p e f = record { node = e.node ∙ sym f.node; owners = λ o. e.owners o ∙ sym (f.owners o) }

-- ---- the cells

-- From a state that has the old cells of the group the same is taken.
same_taken : Laws → (ts : List GroupedTxn) (s : State) (j : ℕ) (u : State) → IsNear ts s j u
    → cells_at (txn_group_at ts j).paths u ≡ cells_at (txn_group_at ts j).paths s
same_taken laws ts s j u near =
    is_same laws.state (cells_at names s) (cells_at names u) (λ p. by p (set.contains names p) refl) refl
  where
    names : Names
    names = (txn_group_at ts j).paths

    by : (p : Bytes) (b : Bool) → set.contains names p ≡ b → IsSameCell (cells_at names u) (cells_at names s) p
    by p true e =
        let at : has_path (paths_in j ts) p ≡ true = sym (set.contains-from_list path_total (paths_in j ts) p) ∙ e in
        same_trans (cells_at names u) u (cells_at names s) p ((laws.moved names u).taken p e)
        (same_trans u s (cells_at names s) p (near j p (omega arith) at)
        (same_sym (cells_at names s) s p ((laws.moved names s).taken p e)))
    by p false e =
        both_empty (cells_at names u) (cells_at names s) p ((laws.moved names u).nothing p e)
        ((laws.moved names s).nothing p e)

all_taken : Laws → (ts : List GroupedTxn) → AreDisjoint (λ k. paths_in k ts) → (s : State) (j m : ℕ) (u : State)
    → IsNear ts s j u
    → cells_of_each (classes_from ts j m) u ≡ map (λ (c : TxnGroup). cells_at c.paths s) (classes_from ts j m)
all_taken laws ts apart s j zero u near = refl
all_taken laws ts apart s j (suc m) u near = λ i.
    same_taken laws ts s j u near i
    ∷ all_taken laws ts apart s (j + 1) m (without_cells (txn_group_at ts j).paths u)
    (near_next laws ts apart s j u near) i

-- ---- the state that is left

rest_is : Laws → (ts : List GroupedTxn) → AreGroups ts → (s : State)
    → without_group_cells (txn_groups_of ts) s ≡ without_batch_cells s ts
rest_is laws ts groups s =
    is_same laws.state (without_batch_cells s ts) left (λ p. by p (find_group ts groups.below p))
    (left_sessions (txn_groups_of ts) s)
  where
    left : State
    left = without_group_cells (txn_groups_of ts) s

    names : Names
    names = set.from_list (flat_map footprint (batch_of ts))

    named : (p : Bytes) (b : Bool) → has_path (flat_map footprint (batch_of ts)) p ≡ b → set.contains names p ≡ b
    named p b e = set.contains-from_list path_total (flat_map footprint (batch_of ts)) p ∙ e

    in_none : (p : Bytes) → ((k : ℕ) → has_path (paths_in k ts) p ≡ false) → (b : Bool)
        → has_path (flat_map footprint (batch_of ts)) p ≡ b → set.contains names p ≡ false
    in_none p out false e = named p false e
    in_none p out true e =
        let has = group_of (group_count ts) (λ k. paths_in k ts) ts p (laws.cover ts) groups.below e in
        absurd (true≢false (sym has.there ∙ out has.number))

    by : (p : Bytes) → ((k : ℕ) × (has_path (paths_in k ts) p ≡ true)) ⊎ ((k : ℕ) → has_path (paths_in k ts) p ≡ false)
        → IsSameCell left (without_batch_cells s ts) p
    by p (inl found) =
        let k = found.0 in
        let at = found.1 in
        let below = is_below (group_count ts) k ts p groups.below at in
        both_empty left (without_batch_cells s ts) p
        (left_empty laws ts groups.apart 0 (group_count ts) s k p (omega arith) (omega arith) at)
        ((laws.moved names s).gone p (named p true (in_batch k ts p at)))
    by p (inr out) =
        same_trans left s (without_batch_cells s ts) p (left_elsewhere laws ts 0 (group_count ts) s p (λ k l. out k))
        (same_sym (without_batch_cells s ts) s p ((laws.moved names s).left p (in_none p out _ refl)))

pub groups_are_taken : Laws → GroupsAreTaken
groups_are_taken laws s txns =
    let both = by (tagged_txns txns) refl in record { each = both.0; rest = both.1 }
  where
    by : (o : Option (List GroupedTxn)) → tagged_txns txns ≡ o
        → (cells_of_each (groups_if_tagged o) s ≡ map (λ (c : TxnGroup). cells_at c.paths s) (groups_if_tagged o))
        × (without_group_cells (groups_if_tagged o) s ≡ left_with s o)
    by None e = (refl, refl)
    by (Some ts) e =
        let groups = are_groups laws txns ts e in (
          all_taken laws ts groups.apart s 0 (group_count ts) s
              (λ k p l at. record { node = refl; owners = λ o. refl }),
          rest_is laws ts groups s,
        )
