-- Transactions that got groups, and their paths.
use Rattle.std.proofs.Common.{◌≡◌, ℕ, ◌<◌, ◌≤◌, nat_eq, List, [], ◌∷◌, ◌++◌, Bool, true, false, cond, ◌||◌, refl, sym, ap, ◌∙◌, subst, arith}
use Rattle.std.specs.List.{flat_map, AllByRecursion}
use Rattle.std.specs.Ordering.{eq_by_cmp}
use Rattle.std.proofs.lemmas.Bool.{eqb-true}
use Rattle.std.proofs.lemmas.List.Folds.{list_any-append}
use mathlib.Core.Bool.{true≢false}
use Rattle.ephemerals.specs.Orders.{Bytes, path_cmp}
use Rattle.txn_codec.specs.declared.txn.Txn.{Txn}
use Rattle.txn_codec.specs.Row.{ends_session}
use Rattle.data_tree.specs.Footprint.{has_path, footprint, KeepsToCells}
use Rattle.data_tree.specs.Commuting.{GroupedTxn, txns_of_group, batch_of, KeepsToGroupPaths, entries_of_group}
use Rattle.footprint.specs.Footprints.{has_too_many, is_barrier}
use Rattle.batcher.specs.Groups.{paths_in}
use Rattle.batcher.specs.Laws.{AreAmong}

-- ---- none of them is a barrier

free : (t : Txn) → is_barrier t ≡ false → KeepsToCells t
free t none = neither (ends_session t.body) (has_too_many (footprint t)) none
  where
    neither : (a b : Bool) → (a || b) ≡ false → a ≡ false
    neither true b e = e
    neither false b e = refl

pub all_free : (txns : List Txn) → AllByRecursion (λ t. is_barrier t ≡ false) txns → AllByRecursion KeepsToCells txns
all_free [] none = tt
all_free (t ∷ txns) none = (free t none.0, all_free txns none.1)

pub keeps_to : (paths : ℕ → List Bytes) (batch : List GroupedTxn) → AllByRecursion KeepsToCells (batch_of batch)
    → AllByRecursion (λ (t : GroupedTxn). AreAmong (footprint t.1) (paths t.0)) batch → KeepsToGroupPaths paths batch
keeps_to paths [] free among = tt
keeps_to paths (t ∷ ts) free among = ((free.0, among.0), keeps_to paths ts free.1 among.1)

-- ---- the group of a path

in_front : (p : Bytes) (xs ys : List Bytes) → has_path xs p ≡ true → has_path (xs ++ ys) p ≡ true
in_front p xs ys h = list_any-append (eq_by_cmp path_cmp p) xs ys ∙ ap (λ b. b || has_path ys p) h

or_true : (b : Bool) → (b || true) ≡ true
or_true true = refl
or_true false = refl

in_rest : (p : Bytes) (xs ys : List Bytes) → has_path ys p ≡ true → has_path (xs ++ ys) p ≡ true
in_rest p xs ys h =
    list_any-append (eq_by_cmp path_cmp p) xs ys ∙ ap (λ b. has_path xs p || b) h ∙ or_true (has_path xs p)

-- A group below the number that has the path.
pub record HasGroup (n : ℕ) (paths : ℕ → List Bytes) (p : Bytes) : Type 0 where
  pub number : ℕ
  pub below : number < n
  pub there : has_path (paths number) p ≡ true

pub group_of : (n : ℕ) (paths : ℕ → List Bytes) (batch : List GroupedTxn) (p : Bytes)
    → AllByRecursion (λ (t : GroupedTxn). AreAmong (footprint t.1) (paths t.0)) batch
    → AllByRecursion (λ (t : GroupedTxn). t.0 < n) batch
    → has_path (flat_map footprint (batch_of batch)) p ≡ true → HasGroup n paths p
group_of n paths [] p among below h = absurd (true≢false (sym h))
group_of n paths (t ∷ ts) p among below h =
    by (has_path (footprint t.1) p) refl (λ e. group_of n paths ts p among.1 below.1 e)
    (sym (list_any-append (eq_by_cmp path_cmp p) (footprint t.1) (flat_map footprint (batch_of ts))) ∙ h)
  where
    by : (b : Bool) → has_path (footprint t.1) p ≡ b
        → (has_path (flat_map footprint (batch_of ts)) p ≡ true → HasGroup n paths p)
        → (has_path (footprint t.1) p || has_path (flat_map footprint (batch_of ts)) p) ≡ true → HasGroup n paths p
    by true e rest h = record { number = t.0; below = below.0; there = among.0 p e }
    by false e rest h = rest (ap (λ b. b || has_path (flat_map footprint (batch_of ts)) p) (sym e) ∙ h)

-- A group's path is the batch's.
pub in_batch : (k : ℕ) (batch : List GroupedTxn) (p : Bytes) → has_path (paths_in k batch) p ≡ true
    → has_path (flat_map footprint (batch_of batch)) p ≡ true
in_batch k [] p h = h
in_batch k (t ∷ ts) p h = by (nat_eq t.0 k) (in_batch k ts p) h
  where
    either : (b : Bool) → has_path (footprint t.1) p ≡ b
        → (has_path (paths_in k ts) p ≡ true → has_path (flat_map footprint (batch_of ts)) p ≡ true)
        → (has_path (footprint t.1) p || has_path (paths_in k ts) p) ≡ true
        → has_path (footprint t.1 ++ flat_map footprint (batch_of ts)) p ≡ true
    either true e rest h = in_front p (footprint t.1) (flat_map footprint (batch_of ts)) e
    either false e rest h =
        in_rest p (footprint t.1) (flat_map footprint (batch_of ts))
        (rest (ap (λ b. b || has_path (paths_in k ts) p) (sym e) ∙ h))

    by : (b : Bool) → (has_path (paths_in k ts) p ≡ true → has_path (flat_map footprint (batch_of ts)) p ≡ true)
        → has_path (flat_map footprint (cond b (t.1 ∷ txns_of_group k ts) (txns_of_group k ts))) p ≡ true
        → has_path (footprint t.1 ++ flat_map footprint (batch_of ts)) p ≡ true
    by true rest h =
        either (has_path (footprint t.1) p) refl rest
        (sym (list_any-append (eq_by_cmp path_cmp p) (footprint t.1) (paths_in k ts)) ∙ h)
    by false rest h = in_rest p (footprint t.1) (flat_map footprint (batch_of ts)) (rest h)

-- A group that has a path was opened.
pub is_below : (n k : ℕ) (batch : List GroupedTxn) (p : Bytes) → AllByRecursion (λ (t : GroupedTxn). t.0 < n) batch
    → has_path (paths_in k batch) p ≡ true → k < n
is_below n k [] p below h = absurd (true≢false (sym h))
is_below n k (t ∷ ts) p below h = by (nat_eq t.0 k) refl (is_below n k ts p below.1) h
  where
    by : (b : Bool) → nat_eq t.0 k ≡ b → (has_path (paths_in k ts) p ≡ true → k < n)
        → has_path (flat_map footprint (cond b (t.1 ∷ txns_of_group k ts) (txns_of_group k ts))) p ≡ true → k < n
    by true e rest h = subst (λ j. j < n) (eqb-true t.0 k e) below.0
    by false e rest h = rest h

-- A group that wasn't opened has no places.
pub nothing_at : {A : Type 0} (n k : ℕ) (batch : List GroupedTxn) (xs : List A)
    → AllByRecursion (λ (t : GroupedTxn). t.0 < n) batch → n ≤ k → entries_of_group k batch xs ≡ []
nothing_at n k [] xs below above = refl
nothing_at n k (t ∷ ts) [] below above = refl
nothing_at {A} n k (t ∷ ts) (x ∷ xs) below above = by (nat_eq t.0 k) refl (nothing_at n k ts xs below.1 above)
  where
    by : (b : Bool) → nat_eq t.0 k ≡ b → entries_of_group k ts xs ≡ []
        → cond b (x ∷ entries_of_group k ts xs) (entries_of_group k ts xs) ≡ []
    by true e rest = let same = eqb-true t.0 k e in let less = below.0 in absurd (omega arith)
    by false e rest = rest
