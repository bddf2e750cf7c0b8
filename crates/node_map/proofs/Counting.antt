-- Distinct items of a set are the whole set exactly if they are as many as it has.
use Rattle.std.proofs.Common.{◌≡◌, ℕ, zero, suc, ◌+◌, ◌-◌, ◌<◌, List, [], ◌∷◌, Bool, true, false, cond, not, ◌&&◌, ◌||◌, refl, sym, ap, ◌∙◌, length, arith}
use mathlib.Core.Bool.{true≢false}
use Rattle.std.specs.declared.cmp.Ordering.{Ordering}
use Rattle.std.specs.List.{list_any, AllByRecursion}
use Rattle.std.specs.Ordering.{eq_by_cmp}
use Rattle.std.specs.Cmp.{IsTotalOrder}
use Rattle.std.proofs.lemmas.Map.Lookups.{CmpEqualImpliesEq}
use Rattle.std.proofs.lemmas.Map.Views.{tells_apart}
use Rattle.std.specs.FinSet as set

-- No item is there twice.
abbrev pub AreDistinct : {K : Type 0} (R : K → K → Ordering) → List K → Type 0
AreDistinct R [] = Unit {0}
AreDistinct R (k ∷ ks) = (list_any (eq_by_cmp R k) ks ≡ false) × AreDistinct R ks

module _ {K : Type 0} {R : K → K → Ordering} where
  abbrev pub AreIn : set.FinSet R → List K → Type 0
  AreIn s ks = AllByRecursion (λ k. set.contains s k ≡ true) ks

  abbrev without : set.FinSet R → List K → set.FinSet R
  without s [] = s
  without s (k ∷ ks) = set.remove (without s ks) k

module _ {K : Type 0} {R : K → K → Ordering} (o : IsTotalOrder R) (exact : CmpEqualImpliesEq R) where
  contains-without : (s : set.FinSet R) (ks : List K) (q : K)
      → set.contains (without s ks) q ≡ (not (list_any (eq_by_cmp R q) ks) && set.contains s q)
  contains-without s [] q = refl
  contains-without s (k ∷ ks) q =
      set.contains-remove o (without s ks) k q
      ∙ ap (λ b. not (eq_by_cmp R q k) && b) (contains-without s ks q)
      ∙ by (eq_by_cmp R q k) (list_any (eq_by_cmp R q) ks) (set.contains s q)
    where
      by : (a b c : Bool) → (not a && (not b && c)) ≡ (not (a || b) && c)
      by true b c = refl
      by false b c = refl

  not_empty : (s : set.FinSet R) (k : K) → set.contains s k ≡ true → set.len s ≡ 0 → ⊥
  not_empty s k one none =
      true≢false (sym one ∙ ap (λ t. set.contains t k) (set.empty_of_len s none) ∙ set.contains-empty R k)

  len-without : (s : set.FinSet R) (ks : List K) → AreDistinct R ks → AreIn s ks
      → set.len (without s ks) + length ks ≡ set.len s
  len-without s [] d all = omega arith
  len-without s (k ∷ ks) d all =
      let rest : set.len (without s ks) + length ks ≡ set.len s = len-without s ks d.1 all.1 in
      let here : set.contains (without s ks) k ≡ true = contains-without s ks k ∙ (λ i. not (d.0 i) && all.0 i) in
      let some : 0 < set.len (without s ks) = positive (set.len (without s ks)) (not_empty (without s ks) k here) in
      let one : set.len (set.remove (without s ks) k) ≡ set.len (without s ks) - 1 =
      set.len-remove o (without s ks) k ∙ ap (λ b. cond b (set.len (without s ks) - 1) (set.len (without s ks))) here in
      omega arith
    where
      positive : (n : ℕ) → (n ≡ 0 → ⊥) → 0 < n
      positive zero not = absurd (not refl)
      positive (suc n) not = omega arith

  contains-any : (s : set.FinSet R) (ks : List K) (q : K) → AreIn s ks → list_any (eq_by_cmp R q) ks ≡ true
      → set.contains s q ≡ true
  contains-any s [] q all one = absurd (true≢false (sym one))
  contains-any s (k ∷ ks) q all one = by (contains-any s ks q all.1) (eq_by_cmp R q k) refl one
    where
      by : (list_any (eq_by_cmp R q) ks ≡ true → set.contains s q ≡ true) → (b : Bool) → eq_by_cmp R q k ≡ b
          → (b || list_any (eq_by_cmp R q) ks) ≡ true → set.contains s q ≡ true
      by rest true e one = ap (set.contains s) (tells_apart exact q k e) ∙ all.0
      by rest false e one = rest one

  pub as_many : (s : set.FinSet R) (ks : List K) → AreDistinct R ks → AreIn s ks → length ks ≡ set.len s → (q : K)
      → set.contains s q ≡ list_any (eq_by_cmp R q) ks
  as_many s ks d all same q =
      let sum : set.len (without s ks) + length ks ≡ set.len s = len-without s ks d all in
      let none : set.len (without s ks) ≡ 0 = omega arith in
      by (list_any (eq_by_cmp R q) ks) refl
      (sym (contains-without s ks q) ∙ ap (λ t. set.contains t q) (set.empty_of_len (without s ks) none)
      ∙ set.contains-empty R q)
    where
      by : (b : Bool) → list_any (eq_by_cmp R q) ks ≡ b → (not b && set.contains s q) ≡ false → set.contains s q ≡ b
      by true e h = contains-any s ks q all e
      by false e h = h

  len-list : (ks : List K) → AreDistinct R ks → set.len (set.from_list {R = R} ks) ≡ length ks
  len-list [] d = set.len-empty R
  len-list (k ∷ ks) d =
      let rest : set.len (set.from_list {R = R} ks) ≡ length ks = len-list ks d.1 in
      let new : set.contains (set.from_list {R = R} ks) k ≡ false = set.contains-from_list o ks k ∙ d.0 in
      set.len-insert o (set.from_list {R = R} ks) k
      ∙ ap (λ b. cond b (set.len (set.from_list {R = R} ks)) (set.len (set.from_list {R = R} ks) + 1)) new
      ∙ omega arith

  pub all_counted : (s : set.FinSet R) (ks : List K) → AreDistinct R ks
      → ((q : K) → set.contains s q ≡ list_any (eq_by_cmp R q) ks) → length ks ≡ set.len s
  all_counted s ks d is =
      sym (ap set.len (set.same_set o exact s (set.from_list ks) (λ q. is q ∙ sym (set.contains-from_list o ks q)))
      ∙ len-list ks d)
