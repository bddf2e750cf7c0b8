-- The parts of a text before and after its last slash.
use Rattle.std.proofs.Common.{◌≡◌, ◌≢◌, ℕ, suc, ◌<◌, Bool, true, false, eqb, ◌||◌, List, [], ◌∷◌, ◌++◌, length, get_or, take, drop, Some, None, refl, sym, ap, ◌∙◌, arith}
use Rattle.std.proofs.lemmas.Bool.{ne_eqb}
use Rattle.std.proofs.lemmas.List.{take-append-drop}
use Rattle.std.proofs.lemmas.Str.Pattern.{NoCharPasses-char, drop_at_char}
use Rattle.std.specs.Str.Pattern.{RFindsChar}
use Rattle.paths_and_acls.specs.Paths.{has_slash, before_last_slash, after_last_slash, or_root, parent_of, name_of}

pub no_slash : (text : List ℕ) → ((i : ℕ) → i < length text → get_or text i 0 ≢ 47) → has_slash text ≡ false
no_slash [] none = refl
no_slash (b ∷ text) none =
    rw (ne_eqb b 47 (none 0 (omega arith)), no_slash text (λ i l. none (suc i) (omega arith))) refl

slash_in : (front back : List ℕ) → has_slash (front ++ 47 ∷ back) ≡ true
slash_in [] back = refl
slash_in (b ∷ front) back =
    elim (eqb b 47) as (λ v. v || has_slash (front ++ 47 ∷ back) ≡ true) [ true ↦ refl | false ↦ slash_in front back ]

pub all_after : (text : List ℕ) → has_slash text ≡ false → after_last_slash text ≡ text
all_after [] none = refl
all_after (b ∷ text) none = rw none refl

or-right : (a b : Bool) → (a || b) ≡ false → b ≡ false
or-right true b none = cc
or-right false b none = none

pub none_before : (text : List ℕ) → has_slash text ≡ false → before_last_slash text ≡ []
none_before [] none = refl
none_before (b ∷ text) none = rw (or-right (eqb b 47) (has_slash text) none) refl

pub cut_before : (front back : List ℕ) → has_slash back ≡ false → before_last_slash (front ++ 47 ∷ back) ≡ front
cut_before [] back none = rw none refl
cut_before (b ∷ front) back none = rw (slash_in front back, cut_before front back none) refl

or-true : (b : Bool) → (b || true) ≡ true
or-true true = refl
or-true false = refl

pub cut_after : (front back : List ℕ) → has_slash back ≡ false → after_last_slash (front ++ 47 ∷ back) ≡ back
cut_after [] back none = all_after back none
cut_after (b ∷ front) back none = rw (slash_in front back, or-true (eqb b 47), cut_after front back none) refl

-- The contract of `rsplit_once` for its parts.
pub is_cut : (text : List ℕ) (i j : ℕ) → RFindsChar 47 text (Some (i, j)) → (text ≡ take i text ++ 47 ∷ drop j text)
    × (has_slash (drop j text) ≡ false)
is_cut text i j found = (
  sym (take-append-drop i text) ∙ ap (λ (rest : List ℕ). take i text ++ rest)
      (drop_at_char 47 text i j found.1 (omega arith)),
  no_slash (drop j text) (λ k l. NoCharPasses-char 47 (drop j text) k found.0 (omega arith) l),
)

pub or_root_some : (front : List ℕ) → length front ≢ 0 → front ≡ or_root front
or_root_some [] some = absurd (some refl)
or_root_some (b ∷ front) some = refl

pub parent_of_cut : (text : List ℕ) (i j : ℕ) → RFindsChar 47 text (Some (i, j))
    → parent_of text ≡ or_root (take i text)
parent_of_cut text i j found =
    let cut = is_cut text i j found in
    ap parent_of cut.0 ∙ ap or_root (cut_before (take i text) (drop j text) cut.1)

pub name_of_cut : (text : List ℕ) (i j : ℕ) → RFindsChar 47 text (Some (i, j)) → name_of text ≡ drop j text
name_of_cut text i j found =
    let cut = is_cut text i j found in
    ap name_of cut.0 ∙ cut_after (take i text) (drop j text) cut.1

pub uncut : (text : List ℕ) → RFindsChar 47 text None → has_slash text ≡ false
uncut text found = no_slash text (λ k l. NoCharPasses-char 47 text k found (omega arith) l)
