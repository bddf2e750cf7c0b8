-- Finite sets of pairs of a text and a number.
use Rattle.std.specs.Prelude.{ℕ, List, [], ◌∷◌, ◌++◌, Bool, not, map}
use Rattle.std.specs.List.{filter}
use Rattle.std.specs.declared.cmp.Ordering.{Ordering}
use Rattle.std.specs.Ordering.{nat_cmp, eq_by_cmp, then_cmp, on}
use Rattle.std.specs.Cmp.Lexicographic.{slice_cmp}
use Rattle.std.specs.FinMap as finmap
use Rattle.std.specs.FinSet as set

abbrev pub Bytes : Type 0
Bytes = List ℕ

-- Ascending bytes.
abbrev pub text_cmp : Bytes → Bytes → Ordering
text_cmp = slice_cmp nat_cmp

abbrev pub TextKeys : Type 0
TextKeys = set.FinSet text_cmp

abbrev pub Numbers : Type 0
Numbers = set.FinSet nat_cmp

-- By the first, then by the second.
abbrev pub pair_cmp : {K V : Type 0} → (K → K → Ordering) → (V → V → Ordering) → K × V → K × V → Ordering
pair_cmp {K} {V} R S = then_cmp (on (λ (p : K × V). p.0) R) (on (λ (p : K × V). p.1) S)

-- By text, then by number.
abbrev pub TextPairs : Type 0
TextPairs = set.FinSet (pair_cmp text_cmp nat_cmp)

abbrev pub same_text : Bytes → Bytes → Bool
same_text a b = eq_by_cmp text_cmp a b

abbrev pub same_number : ℕ → ℕ → Bool
same_number a b = eq_by_cmp nat_cmp a b

-- The numbers in ascending order.
abbrev pub sorted_numbers : Numbers → List ℕ
sorted_numbers numbers =
    finmap.keys (finmap.from_entries {R = nat_cmp} (map (λ (number : ℕ). (number, tt {0})) (set.items numbers)))

-- The numbers of the text.
abbrev pub numbers_at : Bytes → TextPairs → Numbers
numbers_at text pairs =
    set.from_list (map (λ (p : Bytes × ℕ). p.1) (filter (λ (p : Bytes × ℕ). same_text text p.0) (set.items pairs)))

-- The texts of the number.
abbrev pub texts_at : ℕ → TextPairs → TextKeys
texts_at number pairs =
    set.from_list (map (λ (p : Bytes × ℕ). p.0) (filter (λ (p : Bytes × ℕ). same_number number p.1) (set.items pairs)))

abbrev pub without_text : Bytes → TextPairs → TextPairs
without_text text pairs = set.retain pairs (λ (p : Bytes × ℕ). not (same_text text p.0))

abbrev pub without_number : ℕ → TextPairs → TextPairs
without_number number pairs = set.retain pairs (λ (p : Bytes × ℕ). not (same_number number p.1))

abbrev pub pairs_of_text : Bytes → TextPairs → TextPairs
pairs_of_text text pairs = set.retain pairs (λ (p : Bytes × ℕ). same_text text p.0)

abbrev pub pairs_of_number : ℕ → TextPairs → TextPairs
pairs_of_number number pairs = set.retain pairs (λ (p : Bytes × ℕ). same_number number p.1)

-- The pairs of each number with each of its texts.
abbrev pub listed_pairs : List (ℕ × TextKeys) → List (Bytes × ℕ)
listed_pairs [] = []
listed_pairs (e ∷ es) = map (λ (t : Bytes). (t, e.0)) (set.items e.1) ++ listed_pairs es

-- The first parts of the pairs.
abbrev pub keys_in : {K V : Type 0} {P : K × V → K × V → Ordering} → (R : K → K → Ordering) → set.FinSet P
    → set.FinSet R
keys_in {K} {V} R pairs = set.from_list (map (λ (p : K × V). p.0) (set.items pairs))

-- The first parts of these pairs that none of three others has.
abbrev pub keys_beyond : {K V : Type 0} {P : K × V → K × V → Ordering} → (R : K → K → Ordering)
    → (pairs first second third : set.FinSet P) → set.FinSet R
keys_beyond R pairs first second third =
    set.difference (keys_in R pairs) (set.union (keys_in R first) (set.union (keys_in R second) (keys_in R third)))

-- The numbers that have a text.
abbrev pub numbers_in : TextPairs → Numbers
numbers_in pairs = set.from_list (map (λ (p : Bytes × ℕ). p.1) (set.items pairs))

-- The numbers that have a text here and none in the others.
abbrev pub numbers_beyond : (pairs first second third : TextPairs) → Numbers
numbers_beyond pairs first second third =
    set.difference (numbers_in pairs) (set.union (numbers_in first) (set.union (numbers_in second) (numbers_in third)))
