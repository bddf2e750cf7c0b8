-- The group that has a path, and groups without a common path.
use Rattle.std.proofs.Common.{◌≡◌, ℕ, ◌+◌, max, nat_eq, List, [], ◌∷◌, ◌++◌, Bool, true, false, cond, ◌||◌, ◌&&◌, Option, Some, None, refl, sym, ap, ◌∙◌, subst, arith}
use Rattle.std.specs.List.{cons_option, filter_map, flat_map, list_any, list_all, AllByRecursion}
use Rattle.std.specs.Option.{option_and_then}
use Rattle.std.specs.Ordering.{eq_by_cmp}
use Rattle.std.proofs.lemmas.Bool.{eqb-true, eq-eqb}
use Rattle.std.proofs.lemmas.List.Folds.{list_any-append}
use Rattle.std.proofs.lemmas.Map.Views.{tells_apart}
use Rattle.std.proofs.lemmas.Map.Lookups.{exact_bytes}
use mathlib.Core.Bool.{true≢false}
use Rattle.ephemerals.specs.Orders.{Bytes, path_cmp}
use Rattle.txn_codec.specs.declared.txn.Txn.{Txn}
use Rattle.data_tree.specs.Footprint.{has_path, footprint}
use Rattle.data_tree.specs.Commuting.{GroupedTxn, txns_of_group}
use Rattle.footprint.specs.Footprints.{is_barrier}
use Rattle.batcher.specs.Groups.{group_with, group_count, only_group, group_for, group_of_next, tagged_txns_after, tagged_txns, paths_in}
use Rattle.batcher.specs.Laws.{GroupsAreApart}

pub same : {A : Type 0} {x y : A} → Some x ≡ Some y → x ≡ y
same e = cc

pub none : {A : Type 0} (x : A) → Some x ≡ None → ⊥
none x e = cc

-- ---- an invariant of each transaction that gets a group holds for all

pub grouped-keeps : (P : List GroupedTxn → Type 0)
    → ((before : List GroupedTxn) (t : Txn) (k : ℕ) → P before → group_of_next before t ≡ Some k
    → P (before ++ (k, t) ∷ []))
    → (before : List GroupedTxn) (txns : List Txn) (ts : List GroupedTxn) → P before
    → tagged_txns_after before txns ≡ Some ts
    → P ts
grouped-keeps P step before [] ts p is = subst P (same is) p
grouped-keeps P step before (t ∷ txns) ts p is =
    by (λ k q. grouped-keeps P step (before ++ (k, t) ∷ []) txns ts q) (group_of_next before t) refl is
  where
    by : ((k : ℕ) → P (before ++ (k, t) ∷ []) → tagged_txns_after (before ++ (k, t) ∷ []) txns ≡ Some ts → P ts)
        → (o : Option ℕ) → group_of_next before t ≡ o
        → option_and_then (λ k. tagged_txns_after (before ++ (k, t) ∷ []) txns) o ≡ Some ts → P ts
    by rest None e is = absurd (none ts (sym is))
    by rest (Some k) e is = rest k (step before t k p e) is

pub opened-behind : (before : List GroupedTxn) (t : GroupedTxn)
    → group_count (before ++ t ∷ []) ≡ max (group_count before) (t.0 + 1)
opened-behind [] t = omega arith
opened-behind (b ∷ bs) t = let rest = opened-behind bs t in omega arith

-- ---- the group that has a path

abbrev pub or_else : Option ℕ → Option ℕ → Option ℕ
or_else None y = y
or_else (Some x) y = Some x

abbrev pub owner_of : GroupedTxn → Bytes → Option ℕ
owner_of t p = cond (has_path (footprint t.1) p) (Some t.0) None

pub group_with-behind : (before : List GroupedTxn) (t : GroupedTxn) (p : Bytes)
    → group_with (before ++ t ∷ []) p ≡ or_else (group_with before p) (owner_of t p)
group_with-behind [] t p = refl
group_with-behind (b ∷ bs) t p = by (group_with-behind bs t p) (has_path (footprint b.1) p)
  where
    by : group_with (bs ++ t ∷ []) p ≡ or_else (group_with bs p) (owner_of t p) → (x : Bool)
        → cond x (Some b.0) (group_with (bs ++ t ∷ []) p)
        ≡ or_else (cond x (Some b.0) (group_with bs p)) (owner_of t p)
    by rest true = refl
    by rest false = rest

all_equal : (k j : ℕ) (ks : List ℕ) → list_all (λ i. nat_eq i k) ks ≡ true
    → list_any (λ i. nat_eq i j) ks ≡ true → j ≡ k
all_equal k j [] all some = absurd (true≢false (sym some))
all_equal k j (i ∷ is) all some = by (all_equal k j is) (nat_eq i k) refl (nat_eq i j) refl all some
  where
    by : (list_all (λ i. nat_eq i k) is ≡ true → list_any (λ i. nat_eq i j) is ≡ true → j ≡ k) → (x : Bool)
        → nat_eq i k ≡ x → (y : Bool) → nat_eq i j ≡ y → (x && list_all (λ i. nat_eq i k) is) ≡ true
        → (y || list_any (λ i. nat_eq i j) is) ≡ true → j ≡ k
    by rest false ex y ey all some = absurd (true≢false (sym all))
    by rest true ex true ey all some = sym (eqb-true i j ey) ∙ eqb-true i k ex
    by rest true ex false ey all some = rest all some

-- If one group was met, it is the only one.
pub only_one : (new : ℕ) (ks : List ℕ) (k j : ℕ) → only_group new ks ≡ Some k → list_any (λ i. nat_eq i j) ks ≡ true
    → j ≡ k
only_one new [] k j is some = absurd (true≢false (sym some))
only_one new (i ∷ is') k j is some = by (list_all (λ x. nat_eq x i) is') refl is (nat_eq i j) refl some
  where
    by : (x : Bool) → list_all (λ x. nat_eq x i) is' ≡ x → cond x (Some i) None ≡ Some k → (y : Bool) → nat_eq i j ≡ y
        → (y || list_any (λ x. nat_eq x j) is') ≡ true → j ≡ k
    by false all is y ey some = absurd (none k (sym is))
    by true all is true ey some = sym (eqb-true i j ey) ∙ same is
    by true all is false ey some = all_equal i j is' all some ∙ same is

pub met_one : (g : Bytes → Option ℕ) (p : Bytes) (j : ℕ) → g p ≡ Some j → (ps : List Bytes) → has_path ps p ≡ true
    → list_any (λ i. nat_eq i j) (filter_map g ps) ≡ true
met_one g p j is [] h = absurd (true≢false (sym h))
met_one g p j is (q ∷ qs) h = by (met_one g p j is qs) (eq_by_cmp path_cmp p q) refl h
  where
    or_true : (b : Bool) → (b || true) ≡ true
    or_true true = refl
    or_true false = refl

    keep : (o : Option ℕ) → list_any (λ i. nat_eq i j) (filter_map g qs) ≡ true
        → list_any (λ i. nat_eq i j) (cons_option o (filter_map g qs)) ≡ true
    keep None h = h
    keep (Some x) h = ap (λ b. nat_eq x j || b) h ∙ or_true (nat_eq x j)

    by : (has_path qs p ≡ true → list_any (λ i. nat_eq i j) (filter_map g qs) ≡ true) → (b : Bool)
        → eq_by_cmp path_cmp p q ≡ b → (b || has_path qs p) ≡ true
        → list_any (λ i. nat_eq i j) (filter_map g (q ∷ qs)) ≡ true
    by rest true e h =
        subst (λ (o : Option ℕ). list_any (λ i. nat_eq i j) (cons_option o (filter_map g qs)) ≡ true)
        (sym is ∙ ap g (tells_apart exact_bytes p q e))
        (ap (λ b. b || list_any (λ i. nat_eq i j) (filter_map g qs)) (eq-eqb j j refl))
    by rest false e h = keep (g q) (rest h)

-- A path of a transaction that gets a group is that group's, or no group's yet.
pub met_or_new : (before : List GroupedTxn) (ps : List Bytes) (k : ℕ) → group_for before ps ≡ Some k
    → (p : Bytes) → has_path ps p ≡ true → or_else (group_with before p) (Some k) ≡ Some k
met_or_new before [] k is p h = absurd (true≢false (sym h))
met_or_new before (q ∷ qs) k is p h = by (group_with before p) refl
  where
    by : (o : Option ℕ) → group_with before p ≡ o → or_else o (Some k) ≡ Some k
    by None e = refl
    by (Some j) e =
        ap Some
        (only_one (group_count before) (filter_map (group_with before) (q ∷ qs)) k j is
        (met_one (group_with before) p j e (q ∷ qs) h))

-- ---- each path belongs to the group of any transaction that has it

abbrev pub Own : (Bytes → Option ℕ) → List GroupedTxn → Type 0
Own owner ts = AllByRecursion (λ (t : GroupedTxn). (p : Bytes) → has_path (footprint t.1) p ≡ true
    → owner p ≡ Some t.0) ts

pub next_group : (before : List GroupedTxn) (t : Txn) (k : ℕ) → group_of_next before t ≡ Some k
    → group_for before (footprint t) ≡ Some k
next_group before t k = by (is_barrier t)
  where
    by : (b : Bool) → cond b None (group_for before (footprint t)) ≡ Some k → group_for before (footprint t) ≡ Some k
    by true is = absurd (none k (sym is))
    by false is = is

own_more : (before : List GroupedTxn) (t : Txn) (k : ℕ) → Own (group_with before) before
    → group_of_next before t ≡ Some k
    → Own (group_with (before ++ (k, t) ∷ [])) (before ++ (k, t) ∷ [])
own_more before t k own is = each before own
  where
    old : (b : GroupedTxn) (p : Bytes) → group_with before p ≡ Some b.0
        → group_with (before ++ (k, t) ∷ []) p ≡ Some b.0
    old b p e = group_with-behind before (k, t) p ∙ ap (λ o. or_else o (owner_of (k, t) p)) e

    new : (p : Bytes) → has_path (footprint t) p ≡ true → group_with (before ++ (k, t) ∷ []) p ≡ Some k
    new p h =
        group_with-behind before (k, t) p
        ∙ ap (λ b. or_else (group_with before p) (cond b (Some k) None)) h
        ∙ met_or_new before (footprint t) k (next_group before t k is) p h

    each : (bs : List GroupedTxn) → Own (group_with before) bs
        → Own (group_with (before ++ (k, t) ∷ [])) (bs ++ (k, t) ∷ [])
    each [] own = (new, tt)
    each (b ∷ bs) own = ((λ p h. old b p (own.0 p h)), each bs own.1)

pub groups_own : (txns : List Txn) (ts : List GroupedTxn) → tagged_txns txns ≡ Some ts → Own (group_with ts) ts
groups_own txns ts is = grouped-keeps (λ bs. Own (group_with bs) bs) own_more [] txns ts tt is

-- A path of a group is its own.
in_group : (owner : Bytes → Option ℕ) (k : ℕ) (p : Bytes) (ts : List GroupedTxn) → Own owner ts
    → has_path (paths_in k ts) p ≡ true → owner p ≡ Some k
in_group owner k p [] own h = absurd (true≢false (sym h))
in_group owner k p (t ∷ ts) own h = by (in_group owner k p ts own.1) (nat_eq t.0 k) refl h
  where
    here : (has_path (paths_in k ts) p ≡ true → owner p ≡ Some k) → t.0 ≡ k → (x : Bool)
        → has_path (footprint t.1) p ≡ x → (x || has_path (paths_in k ts) p) ≡ true
        → owner p ≡ Some k
    here rest e true ex h = own.0 p ex ∙ ap Some e
    here rest e false ex h = rest h

    by : (has_path (paths_in k ts) p ≡ true → owner p ≡ Some k) → (b : Bool) → nat_eq t.0 k ≡ b
        → has_path (flat_map footprint (cond b (t.1 ∷ txns_of_group k ts) (txns_of_group k ts))) p ≡ true
        → owner p ≡ Some k
    by rest true e h =
        here rest (eqb-true t.0 k e) (has_path (footprint t.1) p) refl
        (sym (list_any-append (eq_by_cmp path_cmp p) (footprint t.1) (paths_in k ts)) ∙ h)
    by rest false e h = rest h

pub groups_are_apart : GroupsAreApart
groups_are_apart txns ts is j k apart p h = by (has_path (paths_in k ts) p) refl
  where
    by : (b : Bool) → has_path (paths_in k ts) p ≡ b → b ≡ false
    by false e = refl
    by true e =
        absurd
        (apart
        (same
        (sym (in_group (group_with ts) j p ts (groups_own txns ts is) h)
        ∙ in_group (group_with ts) k p ts (groups_own txns ts is) e)))
