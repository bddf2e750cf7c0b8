-- The groups of a batch, each on its own cells.
use Rattle.std.proofs.Common.{◌≡◌, ◌≢◌, ◌⊎◌, ◌==◌, ℕ, List, [], ◌∷◌, Bool, true, false, refl, sym, ◌∙◌, subst, if◌then◌else◌, inl, inr}
use borrow.Author.Tests.{eqb-true, eqb-false}
use mathlib.Core.Bool.{true≢false}
use Rattle.ephemerals.specs.Orders.{Bytes}
use Rattle.data_tree.specs.State.{State}
use Rattle.std.specs.List.{AllByRecursion}
use Rattle.txn_codec.specs.declared.txn.Txn.{Txn}
use Rattle.data_tree.specs.Cells.{effect_in_cells, after_in_cells, outcomes_in_cells}
use Rattle.data_tree.specs.Meaning.{effect_of_txn, answer_of}
use Rattle.data_tree.specs.Meaning as meaning
use Rattle.data_tree.specs.Footprint.{has_path, IsSameCell, AreSameAt, footprint, KeepsToCells}
use Rattle.data_tree.specs.Commuting.{GroupedTxn, txns_of_group, entries_of_group, batch_of, KeepsToGroupPaths, AreDisjoint, AgreesWithBatch, GroupsAreTheBatch, CellsPutBackAreTheBatch, with_timeouts}
use Rattle.data_tree.proofs.SameCells.{same_state, same_cell_sym, same_cell_trans, same_cell_refl}
use Rattle.data_tree.proofs.Commute.{transactions_keep_to_their_footprints, transactions_set_their_timeouts, wider}

outside : (ps qs : List Bytes) → ((q : Bytes) → has_path ps q ≡ true → has_path qs q ≡ true) → (q : Bytes)
    → has_path qs q ≡ false → (b : Bool) → has_path ps q ≡ b → has_path ps q ≡ false
outside ps qs sub q out true e = absurd (true≢false (sym (sub q e) ∙ out))
outside ps qs sub q out false e = e

-- An operation of another group leaves the cells of group k.
others_leave : (paths : ℕ → List Bytes) → AreDisjoint paths → (t : GroupedTxn) → KeepsToCells t.1
    → ((p : Bytes) → has_path (footprint t.1) p ≡ true → has_path (paths t.0) p ≡ true)
    → (k : ℕ) → t.0 ≢ k → (s : State) (p : Bytes) → has_path (paths k) p ≡ true
    → IsSameCell (effect_of_txn s t.1).state s p
others_leave paths disjoint t cells keeps k other s p at =
    let apart : has_path (paths t.0) p ≡ false = disjoint k t.0 (λ e. other (sym e)) p at in
    (transactions_keep_to_their_footprints t.1 cells).state.frame s p
    (outside (footprint t.1) (paths t.0) keeps p apart _ refl)

-- A transaction leaves the same in its cells whether or not its timeout is set there.
same_in_cells : (paths : List Bytes) (t : Txn) (cells s : State)
    → AreSameAt paths (effect_of_txn cells t).state s → AreSameAt paths (effect_in_cells cells t).state s
same_in_cells paths t cells s same p at =
    let cell = same p at in record { node = cell.node; owners = cell.owners }

-- One more transaction of the group.
own_step : (paths : List Bytes) (t : Txn) → KeepsToCells t
    → ((p : Bytes) → has_path (footprint t) p ≡ true → has_path paths p ≡ true) → (s cells : State)
    → AreSameAt paths cells s
    → AreSameAt paths (effect_in_cells cells t).state (effect_of_txn s t).state
    × (answer_of (effect_in_cells cells t) ≡ answer_of (effect_of_txn s t))
own_step paths t keep within s cells same =
    let confined = transactions_keep_to_their_footprints t keep in (
      same_in_cells paths t cells (effect_of_txn s t).state
          (wider (footprint t) paths (λ u. (effect_of_txn u t).state) within confined.state cells s same),
      confined.answer cells s (λ p at. same p (within p at)),
    )

-- A group leaves all other cells as they were.
group_frame : (paths : ℕ → List Bytes) (ts : List GroupedTxn) → KeepsToGroupPaths paths ts
    → (cells : State) (k : ℕ) (p : Bytes)
    → has_path (paths k) p ≡ false → IsSameCell (after_in_cells cells (txns_of_group k ts)) cells p
group_frame paths [] keeps cells k p out = same_cell_refl cells p
group_frame paths (t ∷ ts) keeps cells k p out = by (t.0 == k) refl (λ c. group_frame paths ts keeps.1 c k p out)
  where
    by : (b : Bool) → (t.0 == k) ≡ b → ((c : State) → IsSameCell (after_in_cells c (txns_of_group k ts)) c p)
        → IsSameCell (after_in_cells cells (if b then t.1 ∷ txns_of_group k ts else txns_of_group k ts)) cells p
    by true e rest =
        let within = subst (λ j. (q : Bytes) → has_path (footprint t.1) q ≡ true → has_path (paths j) q ≡ true)
        (eqb-true t.0 k e) keeps.0.1 in
        let cell = (transactions_keep_to_their_footprints t.1 keeps.0.0).state.frame cells p
        (outside (footprint t.1) (paths k) within p out _ refl) in
        same_cell_trans (rest (effect_in_cells cells t.1).state) (record { node = cell.node; owners = cell.owners })
    by false e rest = rest cells

-- The claim for group k after one more transaction, and for the outcomes at its places.
GroupStep : (paths : List Bytes) (t : GroupedTxn) (ts : List GroupedTxn) (s cells : State) (k : ℕ) → Bool → Type 0
GroupStep paths t ts s cells k b =
    AreSameAt paths (after_in_cells cells (if b then t.1 ∷ txns_of_group k ts else txns_of_group k ts))
    (meaning.state_after (effect_of_txn s t.1).state (batch_of ts))
    × (outcomes_in_cells cells (if b then t.1 ∷ txns_of_group k ts else txns_of_group k ts)
    ≡ (if b then answer_of (effect_of_txn s t.1) ∷ entries_of_group k ts
    (meaning.outcomes_of_txns (effect_of_txn s t.1).state (batch_of ts))
    else entries_of_group k ts (meaning.outcomes_of_txns (effect_of_txn s t.1).state (batch_of ts))))

pub groups_are_the_batch : GroupsAreTheBatch
unfolding GroupStep
groups_are_the_batch paths [] disjoint keeps s cells k same = record {
  cells = same;
  others = λ p out. same_cell_refl cells p;
  answers = refl;
}
groups_are_the_batch paths (t ∷ ts) disjoint keeps s cells k same =
    let done = by (t.0 == k) refl (λ c d. groups_are_the_batch paths ts disjoint keeps.1 c d k) in
    record { cells = done.0; others = group_frame paths (t ∷ ts) keeps cells k; answers = done.1 }
  where
    by : (b : Bool) → (t.0 == k) ≡ b
        → ((u c : State) → AreSameAt (paths k) c u → AgreesWithBatch (paths k) ts u c k)
        → GroupStep (paths k) t ts s cells k b
    by true e rest =
        let own = own_step (paths k) t.1 keeps.0.0
        (subst (λ j. (p : Bytes) → has_path (footprint t.1) p ≡ true → has_path (paths j) p ≡ true) (eqb-true t.0 k e)
        keeps.0.1) s cells same in
        let next = rest (effect_of_txn s t.1).state (effect_in_cells cells t.1).state own.0 in
        (next.cells, λ i. own.1 i ∷ next.answers i)
    by false e rest =
        let next = rest (effect_of_txn s t.1).state cells
        (λ p at. same_cell_trans (same p at)
        (same_cell_sym (others_leave paths disjoint t keeps.0.0 keeps.0.1 k (eqb-false t.0 k e) s p at))) in
        (next.cells, next.answers)

run-sessions : (paths : ℕ → List Bytes) (ops : List GroupedTxn) → KeepsToGroupPaths paths ops → (s : State)
    → (meaning.state_after s (batch_of ops)).sessions ≡ with_timeouts s.sessions (batch_of ops)
run-sessions paths ops keeps s = transactions_set_their_timeouts (batch_of ops) s (all_keep paths ops keeps)
  where
    all_keep : (paths : ℕ → List Bytes) (ops : List GroupedTxn) → KeepsToGroupPaths paths ops
        → AllByRecursion KeepsToCells (batch_of ops)
    all_keep paths [] keeps = tt
    all_keep paths (t ∷ ts) keeps = (keeps.0.0, all_keep paths ts keeps.1)

run-frame : (paths : ℕ → List Bytes) (ops : List GroupedTxn) → KeepsToGroupPaths paths ops → (s : State) (p : Bytes)
    → ((k : ℕ) → has_path (paths k) p ≡ false) → IsSameCell (meaning.state_after s (batch_of ops)) s p
run-frame paths [] keeps s p out = same_cell_refl s p
run-frame paths (t ∷ ts) keeps s p out =
    same_cell_trans (run-frame paths ts keeps.1 (effect_of_txn s t.1).state p out)
    ((transactions_keep_to_their_footprints t.1 keeps.0.0).state.frame s p
    (outside (footprint t.1) (paths t.0) keeps.0.1 p (out t.0) _ refl))

pub cells_put_back_are_the_batch : CellsPutBackAreTheBatch
cells_put_back_are_the_batch paths batch disjoint keeps s new cells taken home elsewhere sessions find =
    same_state new (meaning.state_after s (batch_of batch)) (sessions ∙ sym (run-sessions paths batch keeps s))
    (λ p. by p (find p))
  where
    by : (p : Bytes) → ((k : ℕ) × (has_path (paths k) p ≡ true)) ⊎ ((k : ℕ) → has_path (paths k) p ≡ false)
        → IsSameCell new (meaning.state_after s (batch_of batch)) p
    by p (inl h) =
        same_cell_trans (home h.0 p h.1)
        ((groups_are_the_batch paths batch disjoint keeps s (cells h.0) h.0 (taken h.0)).cells p h.1)
    by p (inr out) = same_cell_trans (elsewhere p out) (same_cell_sym (run-frame paths batch keeps s p out))
