-- A list that a loop visits: the elements taken, and those left; and tests of all elements.
use Rattle.std.proofs.Common.{◌≡◌, ℕ, ◌+◌, ◌<◌, List, [], ◌∷◌, ◌++◌, Bool, ◌||◌, ◌&&◌, true, false, length, take, drop, get_or, refl, sym, ap, ◌∙◌, add-one, drop-cons}
use mathlib.Core.Bool.{true≢false}
use Rattle.std.proofs.lemmas.Cmp.{eq_by_cmp_equiv}
use Rattle.std.proofs.lemmas.Map.Lookups.{exact_bytes}
use Rattle.std.proofs.lemmas.Map.Views.{tells_apart}
use Rattle.std.proofs.Math.Seq.{take-suc}
use Rattle.std.specs.FinSet as set
use Rattle.std.specs.List.{list_any, list_all}
use Rattle.std.specs.Ordering.{eq_by_cmp}
use Rattle.ephemerals.specs.Orders.{Bytes, Names, path_cmp, sorted_names}
use Rattle.ephemerals.proofs.Ascending.{any-in_order}
use Rattle.ephemerals.proofs.Totals.{path_total}

pub left_is : {A : Type 0} (xs : List A) (i : ℕ) (x : A) → i < length xs → x ≡ get_or xs i x
    → drop i xs ≡ x ∷ drop (i + 1) xs
left_is xs i x lt is = drop-cons xs i x lt ∙ (λ j. sym is j ∷ drop (sym (add-one i) j) xs)

pub front_is : {A : Type 0} (xs : List A) (i : ℕ) (x : A) → i < length xs → x ≡ get_or xs i x
    → take (i + 1) xs ≡ take i xs ++ x ∷ []
front_is xs i x lt is = ap (λ k. take k xs) (add-one i) ∙ take-suc xs i x lt ∙ (λ j. take i xs ++ sym is j ∷ [])

-- ---- a test of all elements

front_holds : (a b : Bool) → (a && b) ≡ true → a ≡ true
front_holds true b h = refl
front_holds false b h = h

rest_holds : (a b : Bool) → (a && b) ≡ true → b ≡ true
rest_holds true b h = h
rest_holds false b h = absurd (true≢false (sym h))

or_true : (b : Bool) → (b || true) ≡ true
or_true true = refl
or_true false = refl

passes-each : (test : Bytes → Bool) (xs : List Bytes) (q : Bytes) → list_all test xs ≡ true
    → list_any (eq_by_cmp path_cmp q) xs ≡ true → test q ≡ true
passes-each test [] q all any = absurd (true≢false (sym any))
passes-each test (x ∷ xs) q all any = by (eq_by_cmp path_cmp q x) refl (passes-each test xs q)
  where
    by : (t : Bool) → eq_by_cmp path_cmp q x ≡ t
        → (list_all test xs ≡ true → list_any (eq_by_cmp path_cmp q) xs ≡ true → test q ≡ true) → test q ≡ true
    by true e later = ap test (tells_apart exact_bytes q x e) ∙ front_holds (test x) (list_all test xs) all
    by false e later =
        later (rest_holds (test x) (list_all test xs) all)
        (ap (λ b. b || list_any (eq_by_cmp path_cmp q) xs) (sym e) ∙ any)

each-passes : (test : Bytes → Bool) (xs : List Bytes)
    → ((q : Bytes) → list_any (eq_by_cmp path_cmp q) xs ≡ true → test q ≡ true) → list_all test xs ≡ true
each-passes test [] each = refl
each-passes test (x ∷ xs) each = λ i. each x here i && each-passes test xs (λ q any. each q (later q any)) i
  where
    here : list_any (eq_by_cmp path_cmp x) (x ∷ xs) ≡ true
    here = ap (λ b. b || list_any (eq_by_cmp path_cmp x) xs) ((eq_by_cmp_equiv path_total).refl x)

    later : (q : Bytes) → list_any (eq_by_cmp path_cmp q) xs ≡ true → list_any (eq_by_cmp path_cmp q) (x ∷ xs) ≡ true
    later q any = ap (λ b. eq_by_cmp path_cmp q x || b) any ∙ or_true (eq_by_cmp path_cmp q x)

-- Two lists with the same elements pass the same tests.
pub same_tests : (test : Bytes → Bool) (xs ys : List Bytes)
    → ((q : Bytes) → list_any (eq_by_cmp path_cmp q) xs ≡ list_any (eq_by_cmp path_cmp q) ys)
    → list_all test xs ≡ list_all test ys
same_tests test xs ys same = by (list_all test xs) refl (list_all test ys) refl
  where
    by : (a : Bool) → list_all test xs ≡ a → (b : Bool) → list_all test ys ≡ b → list_all test xs ≡ list_all test ys
    by true a true b = a ∙ sym b
    by true a false b =
        absurd (true≢false (sym (each-passes test ys (λ q any. passes-each test xs q a (same q ∙ any))) ∙ b))
    by false a true b =
        absurd (true≢false (sym (each-passes test xs (λ q any. passes-each test ys q b (sym (same q) ∙ any))) ∙ a))
    by false a false b = a ∙ sym b

-- The names of a set, listed in any order or in ascending order.
pub same_in_order : (test : Bytes → Bool) (xs : List Bytes) (names : Names) → set.from_list xs ≡ names
    → list_all test xs ≡ list_all test (sorted_names names)
same_in_order test xs names is = same_tests test xs (sorted_names names) (λ q.
    sym (set.contains-from_list path_total xs q)
    ∙ ap (λ (s : Names). set.contains s q) is
    ∙ sym (any-in_order names q))
