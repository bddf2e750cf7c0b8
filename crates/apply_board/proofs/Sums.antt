-- Sums over lists that change at one place, and the number of occurrences in a list.
use Rattle.std.proofs.Common.{◌≡◌, ℕ, zero, suc, ◌+◌, ◌<◌, ◌≤◌, ◌≢◌, ◌⊎◌, List, [], ◌∷◌, ◌++◌, map, length, set, get_or, sym, refl, ap, inl, inr, ⊎_elim, arith, cond, eqb, eq-eqb, ne_eqb, Bool, true, false}
use mathlib.Core.Logic.{dite}
use native.Mathlib.Decide.{ℕ_discrete}
use mathlib.Core.Option.{some, some-injective, some-ne-none}
use lib.ListN.{get_elem?}
use Rattle.std.specs.List.Sorted.{IsStrictlyIncreasing}
use Rattle.apply_board.specs.Board.{sum_of, occurrences_of}

pub bit_le : (b : Bool) → cond b 1 0 ≤ 1
bit_le true = omega arith
bit_le false = omega arith

pub bit_zero : (b : Bool) → cond {A = ℕ} b 1 0 ≡ 0 → b ≡ false
bit_zero true e = absurd (omega arith)
bit_zero false e = refl

module _ {A : Type 0} where
  module _ (g : A → ℕ) where
    pub total-append : (l m : List A) → sum_of g (l ++ m) ≡ sum_of g l + sum_of g m
    total-append [] m = omega arith
    total-append (x ∷ xs) m = omega (arith, total-append xs m)

    pub total-set : (l : List A) (j : ℕ) (v w : A) → get_elem? l j ≡ some v
        → sum_of g (set l j w) + g v ≡ sum_of g l + g w
    total-set [] j v w e = absurd (some-ne-none v (sym e))
    total-set (x ∷ xs) zero v w e = omega (arith, ap g (some-injective x v e))
    total-set (x ∷ xs) (suc j) v w e = omega (arith, total-set xs j v w e)

    pub term_le : (l : List A) (j : ℕ) (v : A) → get_elem? l j ≡ some v → g v ≤ sum_of g l
    term_le [] j v e = absurd (some-ne-none v (sym e))
    term_le (x ∷ xs) zero v e = omega (arith, ap g (some-injective x v e))
    term_le (x ∷ xs) (suc j) v e = omega (arith, term_le xs j v e)

    pub terms_le : (l : List A) (j k : ℕ) (v u : A) → k ≢ j → get_elem? l j ≡ some v → get_elem? l k ≡ some u
        → g v + g u ≤ sum_of g l
    terms_le [] j k v u n e d = absurd (some-ne-none v (sym e))
    terms_le (x ∷ xs) zero zero v u n e d = absurd (n refl)
    terms_le (x ∷ xs) zero (suc k) v u n e d = omega (arith, ap g (some-injective x v e), term_le xs k u d)
    terms_le (x ∷ xs) (suc j) zero v u n e d = omega (arith, ap g (some-injective x u d), term_le xs j v e)
    terms_le (x ∷ xs) (suc j) (suc k) v u n e d = omega (arith, terms_le xs j k v u (λ h. n (ap suc h)) e d)

    pub total_few : (l : List A) → ((x : A) → g x ≤ 1) → sum_of g l ≤ length l
    total_few [] h = omega arith
    total_few (x ∷ xs) h = omega (arith, h x, total_few xs h)

    pub total_none : (h : A → ℕ) (l : List A) → ((j : ℕ) (x : A) → get_elem? l j ≡ some x → g x ≡ 0 → h x ≡ 0)
        → sum_of g l ≡ 0 → sum_of h l ≡ 0
    total_none h [] z e = refl
    total_none h (x ∷ xs) z e = let a : g x ≡ 0 = omega arith in
        omega (arith, z 0 x refl a, total_none h xs (λ j. z (suc j)) (omega arith))

    -- If only v has a positive value under g, and h is 0 where g is, only v has one under h.
    pub total_only : (h : A → ℕ) (l : List A) (j : ℕ) (v : A) → ((j : ℕ) (x : A) → get_elem? l j ≡ some x → g x ≡ 0
        → h x ≡ 0) → get_elem? l j ≡ some v → sum_of g l ≡ g v → sum_of h l ≡ h v
    total_only h [] j v z e t = absurd (some-ne-none v (sym e))
    total_only h (x ∷ xs) zero v z e t = let is = some-injective x v e in let a = ap g is in let b = ap h is in
        omega (arith, total_none h xs (λ j. z (suc j)) (omega arith))
    total_only h (x ∷ xs) (suc j) v z e t = let l = term_le xs j v e in let a : g x ≡ 0 = omega arith in
        omega (arith, z 0 x refl a, total_only h xs j v (λ j. z (suc j)) e (omega arith))

module _ {A : Type 0} (g h : A → ℕ) where
  pub total-both : (l : List A) → sum_of (λ x. g x + h x) l ≡ sum_of g l + sum_of h l
  total-both [] = refl
  total-both (x ∷ xs) = omega (arith, total-both xs)

  -- If g is at most h everywhere, so is the sum.
  pub total_le : (l : List A) → ((i : ℕ) (x : A) → get_elem? l i ≡ some x → g x ≤ h x) → sum_of g l ≤ sum_of h l
  total_le [] below = omega arith
  total_le (x ∷ xs) below = let a = below 0 x refl in let b = total_le xs (λ i. below (suc i)) in omega arith

  -- The sums differ by at least as much as the terms of v.
  pub total_le_at : (l : List A) (j : ℕ) (v : A) → get_elem? l j ≡ some v
      → ((i : ℕ) (x : A) → get_elem? l i ≡ some x → g x ≤ h x) → sum_of g l + h v ≤ sum_of h l + g v
  total_le_at [] j v e below = absurd (some-ne-none v (sym e))
  total_le_at (x ∷ xs) zero v e below = let is = some-injective x v e in let a = ap g is in let b = ap h is in
      let c = total_le xs (λ i. below (suc i)) in omega arith
  total_le_at (x ∷ xs) (suc j) v e below = let a = below 0 x refl in
      let b = total_le_at xs j v e (λ i. below (suc i)) in omega arith

pub times-snoc : (k x : ℕ) (xs : List ℕ) → occurrences_of k (xs ++ x ∷ []) ≡ occurrences_of k xs + cond (eqb x k) 1 0
times-snoc k x xs = omega (arith, total-append (λ y. cond (eqb y k) 1 0) xs (x ∷ []))

pub same_bit : (k x : ℕ) → x ≡ k → cond {A = ℕ} (eqb x k) 1 0 ≡ 1
same_bit k x e = ap (λ (b : Bool). cond {A = ℕ} b 1 0) (eq-eqb x k e)

pub other_bit : (k x : ℕ) → x ≢ k → cond {A = ℕ} (eqb x k) 1 0 ≡ 0
other_bit k x n = ap (λ (b : Bool). cond {A = ℕ} b 1 0) (ne_eqb x k n)

pub in_times : (xs : List ℕ) (i k : ℕ) → get_elem? xs i ≡ some k → 1 ≤ occurrences_of k xs
in_times xs i k e = omega (arith, term_le (λ y. cond (eqb y k) 1 0) xs i k e, same_bit k k refl)

pub times-append : (k : ℕ) (xs ys : List ℕ) → occurrences_of k (xs ++ ys) ≡ occurrences_of k xs + occurrences_of k ys
times-append k xs ys = total-append (λ y. cond (eqb y k) 1 0) xs ys

pub times-snoc_here : (k : ℕ) (xs : List ℕ) → occurrences_of k (xs ++ k ∷ []) ≡ occurrences_of k xs + 1
times-snoc_here k xs = omega (arith, times-snoc k k xs, same_bit k k refl)

pub at_of : (xs : List ℕ) (i : ℕ) → i < length xs → get_elem? xs i ≡ some (get_or xs i 0)
at_of [] i h = absurd (omega arith)
at_of (x ∷ xs) zero h = refl
at_of (x ∷ xs) (suc i) h = at_of xs i (omega arith)

-- A number that occurs in the list has a place there.
pub place_of : (k : ℕ) (xs : List ℕ) → 1 ≤ occurrences_of k xs → (i : ℕ) × (get_elem? xs i ≡ some k)
place_of k [] h = absurd (omega arith)
place_of k (x ∷ xs) h = dite (ℕ_discrete x k) (λ e. (0, ap some e)) (λ n. let b = other_bit k x n in
    let p = place_of k xs (omega arith) in (suc p.0, p.1))

pub unmap : {A B : Type 0} (f : A → B) (l : List A) (i : ℕ) (b : B) → get_elem? (map f l) i ≡ some b
    → (a : A) × (get_elem? l i ≡ some a) × (f a ≡ b)
unmap f [] i b e = absurd (some-ne-none b (sym e))
unmap f (x ∷ xs) zero b e = (x, refl, some-injective (f x) b e)
unmap f (x ∷ xs) (suc i) b e = unmap f xs i b e

pub at_insert : {A : Type 0} (a b : List A) (x y : A) (i : ℕ) → get_elem? ((a ++ x ∷ []) ++ b) i ≡ some y
    → ((j : ℕ) × (get_elem? (a ++ b) j ≡ some y)) ⊎ (x ≡ y)
at_insert [] b x y zero e = inr (some-injective x y e)
at_insert [] b x y (suc i) e = inl (i, e)
at_insert (z ∷ zs) b x y zero e = inl (zero, e)
at_insert (z ∷ zs) b x y (suc i) e = ⊎_elim (λ p. inl (suc p.0, p.1)) (λ is. inr is) (at_insert zs b x y i e)

pub at_either : {A : Type 0} (a b : List A) (y : A) (i : ℕ) → get_elem? (a ++ b) i ≡ some y
    → ((j : ℕ) × (get_elem? a j ≡ some y)) ⊎ ((j : ℕ) × (get_elem? b j ≡ some y))
at_either [] b y i e = inr (i, e)
at_either (z ∷ zs) b y zero e = inl (zero, e)
at_either (z ∷ zs) b y (suc i) e = ⊎_elim (λ p. inl (suc p.0, p.1)) (λ q. inr q) (at_either zs b y i e)

pub at_behind : {A : Type 0} (a b : List A) (y : A) (j : ℕ) → get_elem? b j ≡ some y
    → (i : ℕ) × (get_elem? (a ++ b) i ≡ some y)
at_behind [] b y j e = (j, e)
at_behind (z ∷ zs) b y j e = let p = at_behind zs b y j e in (suc p.0, p.1)

pub at_front : {A : Type 0} (a b : List A) (y : A) (j : ℕ) → get_elem? a j ≡ some y → get_elem? (a ++ b) j ≡ some y
at_front [] b y j e = absurd (some-ne-none y (sym e))
at_front (z ∷ zs) b y zero e = e
at_front (z ∷ zs) b y (suc j) e = at_front zs b y j e

pub at_last : {A : Type 0} (l : List A) (x : A) → get_elem? (l ++ x ∷ []) (length l) ≡ some x
at_last [] x = refl
at_last (y ∷ ys) x = at_last ys x

pub at_inside : {A : Type 0} (l : List A) (i : ℕ) (a : A) → get_elem? l i ≡ some a → i < length l
at_inside [] i a e = absurd (some-ne-none a (sym e))
at_inside (x ∷ xs) zero a e = omega arith
at_inside (x ∷ xs) (suc i) a e = omega (arith, at_inside xs i a e)

pub there : {A : Type 0} (l : List A) (i : ℕ) → i < length l → (a : A) × (get_elem? l i ≡ some a)
there [] i h = absurd (omega arith)
there (x ∷ xs) zero h = (x, refl)
there (x ∷ xs) (suc i) h = there xs i (omega arith)

get_or-front : (xs : List ℕ) (n k : ℕ) → k < length xs → get_or (xs ++ n ∷ []) k 0 ≡ get_or xs k 0
get_or-front [] n k h = absurd (omega arith)
get_or-front (x ∷ xs) n zero h = refl
get_or-front (x ∷ xs) n (suc k) h = get_or-front xs n k (omega arith)

get_or-last : (xs : List ℕ) (n k : ℕ) → k ≡ length xs → get_or (xs ++ n ∷ []) k 0 ≡ n
get_or-last [] n zero h = refl
get_or-last [] n (suc k) h = absurd (omega arith)
get_or-last (x ∷ xs) n zero h = absurd (omega arith)
get_or-last (x ∷ xs) n (suc k) h = get_or-last xs n k (omega arith)

length-snoc : (xs : List ℕ) (n : ℕ) → length (xs ++ n ∷ []) ≡ length xs + 1
length-snoc [] n = refl
length-snoc (x ∷ xs) n = omega (arith, length-snoc xs n)

pub rises-snoc : (xs : List ℕ) (n : ℕ) → IsStrictlyIncreasing xs → ((i : ℕ) → i < length xs → get_or xs i 0 < n)
    → IsStrictlyIncreasing (xs ++ n ∷ [])
rises-snoc xs n up below k inside = let l = length-snoc xs n in dite (ℕ_discrete (k + 1) (length xs))
    (λ e. let a = get_or-front xs n k (omega arith) in let b = get_or-last xs n (k + 1) e in
    let c = below k (omega arith) in omega arith)
    (λ ne. let a = get_or-front xs n k (omega arith) in let b = get_or-front xs n (k + 1) (omega arith) in
    let c = up k (omega arith) in omega arith)
