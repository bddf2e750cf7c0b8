-- The pairs of one text, and those with one number, as lists.
use Rattle.std.proofs.Common.{◌≡◌, ℕ, List, Bool, true, false, ◌&&◌, refl, sym, ap, ◌∙◌, map}
use Rattle.std.proofs.Math.Bool.{and-false}
use Rattle.std.specs.Ordering.{eq_by_cmp, nat_cmp}
use Rattle.std.specs.Cmp.{nat_cmp_total, eq_by_cmp_equiv}
use Rattle.std.proofs.lemmas.Map.Views.{tells_apart}
use Rattle.std.proofs.lemmas.Map.Lookups.{exact_unsigned, exact_bytes}
use Rattle.std.specs.FinSet as set
use Rattle.pairs.specs.Pairs.{Bytes, TextKeys, TextPairs, pair_cmp, text_cmp, same_text, sorted_numbers, numbers_at, pairs_of_text}
use Rattle.pairs.specs.Inner.Stored.{pairs_with_number}
use Rattle.pairs.proofs.Totals.{text_total, pair_total, pair_exact}
use Rattle.pairs.proofs.Ascending.{any-sorted}
use Rattle.pairs.proofs.Grouped.{any-one}
use Rattle.pairs.proofs.NumbersOf.{contains-numbers}
use Rattle.pairs.proofs.SetCounts.{contains-kept}
use Rattle.pairs.proofs.TableCounts.{any-of_number}

-- The text with each of the numbers.
abbrev pub with_text : Bytes → List ℕ → List (Bytes × ℕ)
with_text text numbers = map (λ (n : ℕ). (text, n)) numbers

-- Each of the texts with the number.
abbrev pub with_number : ℕ → List Bytes → List (Bytes × ℕ)
with_number number texts = map (λ (t : Bytes). (t, number)) texts

pub listed-of_text : (text : Bytes) (pairs : TextPairs)
    → set.from_list (with_text text (sorted_numbers (numbers_at text pairs))) ≡ pairs_of_text text pairs
listed-of_text text pairs = set.same_set pair_total pair_exact _ _ (λ r. each r.0 r.1)
  where
    by : (t b c : Bool) → (t ≡ true → b ≡ c) → (t && b) ≡ (c && t)
    by true true c same = ap (λ x. x && true) (same refl)
    by true false c same = ap (λ x. x && true) (same refl)
    by false b c same = sym (and-false c)

    each : (q : Bytes) (d : ℕ)
        → set.contains (set.from_list {R = pair_cmp text_cmp nat_cmp} (with_text text (sorted_numbers (numbers_at text pairs)))) (q, d)
        ≡ set.contains (pairs_of_text text pairs) (q, d)
    each q d =
        set.contains-from_list pair_total (with_text text (sorted_numbers (numbers_at text pairs))) (q, d)
        ∙ any-one text_total nat_cmp_total exact_bytes exact_unsigned q text d (sorted_numbers (numbers_at text pairs))
        ∙ ap (λ b. eq_by_cmp text_cmp q text && b) (any-sorted (numbers_at text pairs) d ∙ contains-numbers text pairs d)
        ∙ by (eq_by_cmp text_cmp q text) (set.contains pairs (text, d)) (set.contains pairs (q, d))
        (λ t. ap (λ x. set.contains pairs (x, d)) (sym (tells_apart exact_bytes q text t)))
        ∙ ap (λ b. set.contains pairs (q, d) && b) ((eq_by_cmp_equiv text_total).symm q text)
        ∙ sym (contains-kept pair_total pair_exact pairs (λ (p : Bytes × ℕ). same_text text p.0) (q, d))

pub listed-with_number : (number : ℕ) (ts : List Bytes) (texts : TextKeys) → set.from_list ts ≡ texts
    → set.from_list (with_number number ts) ≡ pairs_with_number number texts
listed-with_number number ts texts is = set.same_set pair_total pair_exact _ _ (λ r. each r.0 r.1)
  where
    each : (q : Bytes) (d : ℕ)
        → set.contains (set.from_list {R = pair_cmp text_cmp nat_cmp} (with_number number ts)) (q, d)
        ≡ set.contains (pairs_with_number number texts) (q, d)
    each q d =
        set.contains-from_list pair_total (with_number number ts) (q, d)
        ∙ any-of_number q d number ts
        ∙ ap (λ b. b && eq_by_cmp nat_cmp d number) (sym (set.contains-from_list text_total ts q)
        ∙ ap (λ s. set.contains s q) is ∙ set.contains-items texts q)
        ∙ sym (any-of_number q d number (set.items texts))
        ∙ sym (set.contains-from_list pair_total (with_number number (set.items texts)) (q, d))
