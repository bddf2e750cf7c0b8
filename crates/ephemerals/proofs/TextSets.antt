-- A set of texts after one text came or went.
use Rattle.std.proofs.Common.{◌≡◌, ℕ, ◌+◌, List, [], ◌∷◌, Bool, true, false, not, ◌&&◌, length, refl, sym, ap, subst, ◌∙◌, arith}
use Rattle.std.specs.List.{IsDistinct, insert, remove}
use Rattle.std.specs.List.Sorted.{IsStrictlySortedBy}
use Rattle.std.specs.Ordering.{eq_by_cmp}
use Rattle.std.specs.Str.{bytes_eq}
use Rattle.std.specs.FinSet as set
use Rattle.std.proofs.lemmas.List.Edits.{length-insert, length-remove}
use Rattle.std.proofs.lemmas.Map.Lookups.{exact_bytes}
use Rattle.std.proofs.lemmas.Map.Views.{tells_apart}
use Rattle.values.proofs.Keyed.{set_of-in_order}
use Rattle.ephemerals.specs.Orders.{Bytes, Names, path_cmp, sorted_names}
use Rattle.ephemerals.specs.Inner.Runs.{joined, names_in, AreFilled, AreRuns, IsAt, IsGapFor}
use Rattle.ephemerals.proofs.Totals.{path_total}
use Rattle.ephemerals.proofs.Places.{ascending_insert, names-insert, left_out}

pub in_order : (texts : List Bytes) → IsStrictlySortedBy path_cmp texts → sorted_names (set.from_list texts) ≡ texts
in_order texts s = set_of-in_order path_total exact_bytes texts s

pub none_left : (runs : List (List Bytes)) → length runs ≡ 0 → joined runs ≡ []
none_left [] e = refl
none_left (run ∷ runs) e = absurd (omega arith)

pub remove-absent : (names : Names) (text : Bytes) → set.contains names text ≡ false → set.remove names text ≡ names
remove-absent names text none = set.same_set path_total exact_bytes _ _ (λ q.
    set.contains-remove path_total names text q ∙ by q (eq_by_cmp path_cmp q text) refl)
  where
    by : (q : Bytes) (t : Bool) → eq_by_cmp path_cmp q text ≡ t → (not t && set.contains names q) ≡ set.contains names q
    by q true e = sym (ap (set.contains names) (tells_apart exact_bytes q text e) ∙ none)
    by q false e = refl

-- The runs, with the text.
pub record IsWith (text : Bytes) (runs new : List (List Bytes)) : Type 0 where
  pub are : AreRuns new
  pub names : names_in new ≡ set.insert (names_in runs) text
  pub len : length (joined new) ≡ length (joined runs) + 1

pub with_text : (text : Bytes) (runs new : List (List Bytes)) (place : ℕ) → AreRuns runs
    → IsGapFor text (joined runs) place → AreFilled new → joined new ≡ insert (joined runs) place text
    → IsWith text runs new
with_text text runs new place are gap filled is = record {
  are = record {
    filled = filled;
    ascending = subst (IsStrictlySortedBy path_cmp) (sym is)
        (ascending_insert (joined runs) place text are.ascending gap.below gap.above);
  };
  names = ap (λ ts. set.from_list {R = path_cmp} ts) is ∙ names-insert (joined runs) place text;
  len = ap length is ∙ length-insert (joined runs) place text gap.in_range;
}

-- The runs, without the text.
pub record IsWithout (text : Bytes) (runs new : List (List Bytes)) : Type 0 where
  pub are : AreRuns new
  pub names : names_in new ≡ set.remove (names_in runs) text
  pub was : set.contains (names_in runs) text ≡ true
  pub len : length (joined new) + 1 ≡ length (joined runs)

pub without_text : (text : Bytes) (runs new : List (List Bytes)) (place : ℕ) → AreRuns runs
    → IsAt text (joined runs) place → AreFilled new → joined new ≡ remove (joined runs) place
    → IsWithout text runs new
without_text text runs new place are at filled is =
    let left = left_out (joined runs) place text are.ascending at in
    record {
      are = record { filled = filled; ascending = subst (IsStrictlySortedBy path_cmp) (sym is) left.ascending };
      names = ap (λ ts. set.from_list {R = path_cmp} ts) is ∙ left.names;
      was = left.was;
      len = ap (λ ts. length ts + 1) is ∙ length-remove (joined runs) place at.in_range;
    }

pub distinct-none : IsDistinct bytes_eq []
unfolding IsDistinct
distinct-none = tt
