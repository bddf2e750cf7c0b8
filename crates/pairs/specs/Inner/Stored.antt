-- Pairs, stored as a set for each text and for each number.
use Rattle.std.specs.Prelude.{◌≡◌, ◌≢◌, ℕ, List, [], ◌∷◌, ◌++◌, ◌&&◌, not, map, IfSome}
use Rattle.std.specs.declared.cmp.Ordering.{Ordering}
use Rattle.std.specs.Ordering.{nat_cmp}
use Rattle.std.specs.FinMap as finmap
use Rattle.std.specs.FinSet as set
use Rattle.pairs.specs.Pairs.{Bytes, TextKeys, Numbers, TextPairs, pair_cmp, text_cmp, keys_in, same_text, same_number}

abbrev pub all_pairs : {K V : Type 0} {S : V → V → Ordering} → List (K × set.FinSet S) → List (K × V)
all_pairs [] = []
all_pairs {K} {V} {S} (e ∷ es) = map (λ (v : V). (e.0, v)) (set.items e.1) ++ all_pairs es

abbrev pub pairs_of : {K V : Type 0} {R : K → K → Ordering} {S : V → V → Ordering} → finmap.FinMap R (set.FinSet S)
    → set.FinSet (pair_cmp R S)
pairs_of m = set.from_list (all_pairs (finmap.entries m))

-- By number, then by text.
abbrev pub NumberPairs : Type 0
NumberPairs = set.FinSet (pair_cmp nat_cmp text_cmp)

abbrev pub text_pairs_in : List (Bytes × Numbers) → TextPairs
text_pairs_in es = pairs_of (finmap.from_entries {R = text_cmp} es)

abbrev pub number_pairs_in : List (ℕ × TextKeys) → NumberPairs
number_pairs_in es = pairs_of (finmap.from_entries {R = nat_cmp} es)

-- The keys that one of three has.
abbrev pub keys_in_one : {K V : Type 0} {P : K × V → K × V → Ordering} → (R : K → K → Ordering)
    → (first second third : set.FinSet P) → set.FinSet R
keys_in_one R first second third = set.union (keys_in R first) (set.union (keys_in R second) (keys_in R third))

-- Each key has a value.
abbrev pub HaveValues : {K V : Type 0} {R : K → K → Ordering} {S : V → V → Ordering} → finmap.FinMap R (set.FinSet S)
    → Type 0
HaveValues {K} m = (key : K) → IfSome (finmap.get m key) (λ values. values ≢ set.empty)

-- Both hold the same pairs, one by text and one by number.
abbrev pub AgreeOn : TextPairs → NumberPairs → Type 0
AgreeOn by_text by_number =
    (text : Bytes) (number : ℕ) → set.contains by_text (text, number) ≡ set.contains by_number (number, text)

-- The number was removed from these texts.
abbrev pub HasLostTexts : ℕ → TextKeys → TextPairs → TextPairs → Type 0
HasLostTexts number texts old new =
    (t : Bytes) (n : ℕ) → set.contains new (t, n)
    ≡ (set.contains old (t, n) && not (same_number n number && set.contains texts t))

-- The text was removed from these numbers.
abbrev pub HasLostNumbers : Bytes → Numbers → NumberPairs → NumberPairs → Type 0
HasLostNumbers text numbers old new =
    (n : ℕ) (t : Bytes) → set.contains new (n, t)
    ≡ (set.contains old (n, t) && not (same_text t text && set.contains numbers n))

-- The number with each of the texts.
abbrev pub pairs_with_number : ℕ → TextKeys → TextPairs
pairs_with_number number texts = set.from_list (map (λ (t : Bytes). (t, number)) (set.items texts))

-- Without the pairs of the number.
abbrev pub without_key : ℕ → NumberPairs → NumberPairs
without_key number pairs = set.retain pairs (λ (p : ℕ × Bytes). not (same_number number p.0))
