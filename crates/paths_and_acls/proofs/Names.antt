-- Names between slashes, read byte by byte.
use Rattle.std.proofs.Common.{◌≡◌, ℕ, Bool, true, false, not, eqb, ◌&&◌, ◌||◌, cond, List, [], ◌∷◌, refl, ap, sym, ◌∙◌}
use Rattle.std.specs.List.{list_all, slice_split, onto_first}
use Rattle.paths_and_acls.specs.Paths.{is_name, are_names}

-- The bytes that may follow a slash (the flag is true), or continue a name: no NUL, and no slash after a slash or at
-- the end.
abbrev pub goes_on : Bool → List ℕ → Bool
goes_on after_slash [] = not after_slash
goes_on after_slash (b ∷ bytes) = cond (eqb b 0 || (after_slash && eqb b 47)) false (goes_on (eqb b 47) bytes)

abbrev is_slash : ℕ → Bool
is_slash b = eqb b 47

abbrev has_no_nul : List ℕ → Bool
has_no_nul text = list_all (λ b. not (eqb b 0)) text

-- The first part continues a name, and the others are names.
abbrev behind_first : List (List ℕ) → List (List ℕ)
behind_first [] = []
behind_first (part ∷ parts) = parts

abbrev names_in : Bool → List (List ℕ) → Bool
names_in true parts = list_all is_name parts
names_in false parts = list_all is_name (behind_first parts)

and-false : (b : Bool) → (b && false) ≡ false
and-false true = refl
and-false false = refl

onto : (after : Bool) (b : ℕ) (parts : List (List ℕ)) → names_in after (onto_first b parts) ≡ names_in false parts
onto true b [] = refl
onto true b (part ∷ parts) = refl
onto false b [] = refl
onto false b (part ∷ parts) = refl

-- A byte before a text that may follow.
step : (nul slash after : Bool) (b : ℕ) (parts : List (List ℕ)) (fine : Bool)
    → cond (nul || (after && slash)) false (fine && names_in slash parts)
    ≡ ((not nul && fine) && names_in after (cond slash ([] ∷ parts) (onto_first b parts)))
step true slash after b parts fine = refl
step false true true b parts fine = sym (and-false fine)
step false true false b parts fine = refl
step false false true b parts fine = ap (λ (v : Bool). fine && v) (sym (onto true b parts))
step false false false b parts fine = ap (λ (v : Bool). fine && v) (sym (onto false b parts))

goes_on_is : (after : Bool) (text : List ℕ)
    → goes_on after text ≡ (has_no_nul text && names_in after (slice_split is_slash text))
goes_on_is true [] = refl
goes_on_is false [] = refl
goes_on_is after (b ∷ text) =
    ap (λ (v : Bool). cond (eqb b 0 || (after && eqb b 47)) false v) (goes_on_is (eqb b 47) text)
    ∙ step (eqb b 0) (eqb b 47) after b (slice_split is_slash text) (has_no_nul text)

-- After a slash these are names.
pub names_go_on : (text : List ℕ) → goes_on true text ≡ are_names text
names_go_on text = goes_on_is true text
