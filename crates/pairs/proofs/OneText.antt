-- Sets of no text and of one.
use Rattle.std.proofs.Common.{◌≡◌, ◌≢◌, ◌+◌, [], ◌∷◌, true, false, sym, ap, ◌∙◌}
use Rattle.std.proofs.Math.Bool.{or-false}
use Rattle.std.specs.Cmp.Lexicographic.{bytes_decides, nat_list_eq_equiv}
use Rattle.std.specs.List.{IsDistinct}
use Rattle.std.specs.Str.{bytes_eq}
use Rattle.std.proofs.lemmas.Map.Lookups.{exact_bytes}
use Rattle.std.specs.FinSet as set
use Rattle.values.proofs.SetSteps.{insert-present, remove-insert}
use Rattle.pairs.specs.Pairs.{Bytes, TextKeys, text_cmp}
use Rattle.pairs.proofs.Totals.{text_total}
use Rattle.pairs.proofs.Hashed.{contains-hashed}
use Rattle.pairs.proofs.SetCounts.{len-insert-new, remove-absent}
use Rattle.pairs.proofs.Keys.{with-value}

abbrev pub only_text : Bytes → TextKeys
only_text t = set.insert set.empty t

pub text-member : (only t : Bytes) → bytes_eq only t ≡ set.contains (only_text only) t
text-member only t =
    nat_list_eq_equiv.symm only t ∙ sym (contains-hashed (only ∷ []) t ∙ or-false (bytes_eq t only))

pub text-len : (only : Bytes) → 1 ≡ set.len (only_text only)
text-len only =
    sym (len-insert-new text_total exact_bytes set.empty only (set.contains-empty text_cmp only)
    ∙ ap (λ n. n + 1) (set.len-empty text_cmp))

pub text-full : (only : Bytes) → only_text only ≢ set.empty
text-full only = with-value text_total set.empty only

pub remove-only_text : (only t : Bytes) → bytes_eq only t ≡ true → set.empty ≡ set.remove (only_text only) t
remove-only_text only t e =
    sym (remove-insert text_total exact_bytes set.empty only (set.contains-empty text_cmp only))
    ∙ ap (set.remove (only_text only)) ((bytes_decides only t).0 e)

pub remove-other_text : (only t : Bytes) → bytes_eq only t ≡ false → only_text only ≡ set.remove (only_text only) t
remove-other_text only t e =
    remove-absent text_total exact_bytes (only_text only) t (sym (text-member only t) ∙ e)

pub remove-no_text : (t : Bytes) → set.empty ≡ set.remove (set.empty {R = text_cmp}) t
remove-no_text t = remove-absent text_total exact_bytes set.empty t (set.contains-empty text_cmp t)

pub insert-only_text : (only t : Bytes) → bytes_eq only t ≡ true → only_text only ≡ set.insert (only_text only) t
insert-only_text only t e =
    insert-present text_total exact_bytes (only_text only) t (sym (text-member only t) ∙ e)

pub distinct-none : IsDistinct bytes_eq []
unfolding IsDistinct
distinct-none = tt

pub distinct-one : (t : Bytes) → IsDistinct bytes_eq (t ∷ [])
unfolding IsDistinct
distinct-one t = (tt, tt)
