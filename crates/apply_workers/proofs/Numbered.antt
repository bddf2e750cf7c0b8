-- Groups that are numbered from a place on, one of which is the one looked for.
use Rattle.std.proofs.Common.{◌≡◌, ◌≢◌, ℕ, zero, suc, ◌+◌, ◌<◌, ◌≤◌, nat_eq, List, [], ◌∷◌, Bool, true, false, cond, map, refl, sym, ap, ◌∙◌, subst, arith}
use Rattle.std.specs.List.{AllByRecursion, count_by, range_with_len}
use Rattle.std.proofs.lemmas.List.Sums.{sum_by-cons}
use Rattle.std.proofs.lemmas.Bool.{eqb-true, eqb-false}
use Rattle.ephemerals.specs.Orders.{Bytes}
use Rattle.data_tree.specs.State.{State}
use Rattle.data_tree.specs.Footprint.{IsSameCell}
use Rattle.data_tree.specs.Cells.{with_cells, IsEmptyCell, CellsComeToEmptyCells}
use Rattle.apply_workers.specs.Schedule.{GroupState, put_back, outcomes_of}
use Rattle.apply_workers.proofs.Stepping.{same_empty}

pub same_cell_trans : {s t u : State} {path : Bytes} → IsSameCell s t path → IsSameCell t u path → IsSameCell s u path
same_cell_trans e f = record { node = e.node ∙ f.node; owners = λ w. e.owners w ∙ f.owners w }

pub all_numbered : (P : GroupState → Type 0) (group : ℕ → GroupState) (a n : ℕ) → ((j : ℕ) → a ≤ j → P (group j))
    → AllByRecursion P (map group (range_with_len a n))
all_numbered P group a zero each = tt
all_numbered P group a (suc n) each =
    (each a (omega arith), all_numbered P group (a + 1) n (λ j above. each j (omega arith)))

-- ---- the number of groups that pass a test

none_passes : (test : GroupState → Bool) (group : ℕ → GroupState) (a n : ℕ)
    → ((j : ℕ) → a ≤ j → test (group j) ≡ false) → count_by test (map group (range_with_len a n)) ≡ 0
none_passes test group a zero fails = refl
none_passes test group a (suc n) fails =
    sum_by-cons (λ (g : GroupState). cond (test g) 1 0) (group a) (map group (range_with_len (a + 1) n))
    ∙ ap (λ b. cond b 1 0 + count_by test (map group (range_with_len (a + 1) n))) (fails a (omega arith))
    ∙ ap (λ m. 0 + m) (none_passes test group (a + 1) n (λ j above. fails j (omega arith)))

pub one_passes : (test : GroupState → Bool) (group : ℕ → GroupState) (k : ℕ) → test (group k) ≡ true
    → ((j : ℕ) → j ≢ k → test (group j) ≡ false) → (a n : ℕ) → a ≤ k → k < a + n
    → count_by test (map group (range_with_len a n)) ≡ 1
one_passes test group k passes fails a zero above below = absurd (omega arith)
one_passes test group k passes fails a (suc n) above below =
    sum_by-cons (λ (g : GroupState). cond (test g) 1 0) (group a) (map group (range_with_len (a + 1) n))
    ∙ by (nat_eq a k) refl (one_passes test group k passes fails (a + 1) n)
  where
    by : (b : Bool) → nat_eq a k ≡ b
        → (a + 1 ≤ k → k < a + 1 + n → count_by test (map group (range_with_len (a + 1) n)) ≡ 1)
        → cond (test (group a)) 1 0 + count_by test (map group (range_with_len (a + 1) n)) ≡ 1
    by true e rest =
        let same = eqb-true a k e in
        ap (λ b. cond b 1 0 + count_by test (map group (range_with_len (a + 1) n)))
        (ap (λ j. test (group j)) same ∙ passes)
        ∙ ap (λ m. 1 + m) (none_passes test group (a + 1) n (λ j more. fails j (λ is. omega arith)))
    by false e rest =
        let other = eqb-false a k e in
        ap (λ b. cond b 1 0 + count_by test (map group (range_with_len (a + 1) n))) (fails a other)
        ∙ ap (λ m. 0 + m) (rest (omega arith) (omega arith))

-- ---- cells that are put back

pub put_back_sessions : (s : State) (groups : List GroupState) → (put_back s groups).sessions ≡ s.sessions
put_back_sessions s [] = refl
put_back_sessions s (g ∷ gs) = put_back_sessions (with_cells g.cells s) gs

pub nothing_put : CellsComeToEmptyCells → (groups : List GroupState) (s : State) (p : Bytes)
    → AllByRecursion (λ (g : GroupState). IsEmptyCell g.cells p) groups → IsSameCell (put_back s groups) s p
nothing_put put [] s p empty = record { node = refl; owners = λ w. refl }
nothing_put put (g ∷ gs) s p empty =
    same_cell_trans (nothing_put put gs (with_cells g.cells s) p empty.1) ((put g.cells s).left p empty.0)

pub one_put : CellsComeToEmptyCells → (group : ℕ → GroupState) (k : ℕ) (p : Bytes)
    → ((j : ℕ) → j ≢ k → IsEmptyCell (group j).cells p) → (a n : ℕ) → a ≤ k → k < a + n → (s : State)
    → IsEmptyCell s p → IsSameCell (put_back s (map group (range_with_len a n))) (group k).cells p
one_put put group k p others a zero above below s empty = absurd (omega arith)
one_put put group k p others a (suc n) above below s empty =
    by (nat_eq a k) refl
    (λ more less now. one_put put group k p others (a + 1) n more less (with_cells (group a).cells s) now)
  where
    by : (b : Bool) → nat_eq a k ≡ b
        → (a + 1 ≤ k → k < a + 1 + n → IsEmptyCell (with_cells (group a).cells s) p
        → IsSameCell (put_back (with_cells (group a).cells s) (map group (range_with_len (a + 1) n))) (group k).cells p)
        → IsSameCell (put_back (with_cells (group a).cells s) (map group (range_with_len (a + 1) n))) (group k).cells p
    by true e rest =
        let same = eqb-true a k e in
        subst
        (λ j. IsSameCell (put_back (with_cells (group a).cells s) (map group (range_with_len (a + 1) n)))
        (group j).cells p)
        same
        (same_cell_trans
        (nothing_put put (map group (range_with_len (a + 1) n)) (with_cells (group a).cells s) p
        (all_numbered (λ (g : GroupState). IsEmptyCell g.cells p) group (a + 1) n
        (λ j more. others j (λ is. omega arith))))
        ((put (group a).cells s).put p empty))
    by false e rest =
        let other = eqb-false a k e in
        rest (omega arith) (omega arith) (same_empty ((put (group a).cells s).left p (others a other)) empty)

-- ---- a group's outcomes

pub no_outcomes : (group : ℕ → GroupState) → ((j : ℕ) → (group j).number ≡ j) → (k a n : ℕ) → a + n ≤ k
    → outcomes_of k (map group (range_with_len a n)) ≡ []
no_outcomes group numbered k a zero above = refl
no_outcomes group numbered k a (suc n) above =
    by (nat_eq (group a).number k) refl (no_outcomes group numbered k (a + 1) n (omega arith))
  where
    by : (b : Bool) → nat_eq (group a).number k ≡ b → outcomes_of k (map group (range_with_len (a + 1) n)) ≡ []
        → cond b (group a).outcomes (outcomes_of k (map group (range_with_len (a + 1) n))) ≡ []
    by true e rest =
        let same : a ≡ k = sym (numbered a) ∙ eqb-true (group a).number k e in
        absurd (omega arith)
    by false e rest = rest

pub own_outcomes : (group : ℕ → GroupState) → ((j : ℕ) → (group j).number ≡ j) → (k a n : ℕ) → a ≤ k → k < a + n
    → outcomes_of k (map group (range_with_len a n)) ≡ (group k).outcomes
own_outcomes group numbered k a zero above below = absurd (omega arith)
own_outcomes group numbered k a (suc n) above below =
    by (nat_eq (group a).number k) refl (own_outcomes group numbered k (a + 1) n)
  where
    by : (b : Bool) → nat_eq (group a).number k ≡ b
        → (a + 1 ≤ k → k < a + 1 + n → outcomes_of k (map group (range_with_len (a + 1) n)) ≡ (group k).outcomes)
        → cond b (group a).outcomes (outcomes_of k (map group (range_with_len (a + 1) n))) ≡ (group k).outcomes
    by true e rest = ap (λ j. (group j).outcomes) (sym (numbered a) ∙ eqb-true (group a).number k e)
    by false e rest =
        let other = eqb-false (group a).number k e in
        let differ : a ≢ k = λ same. other (numbered a ∙ same) in
        rest (omega arith) (omega arith)
