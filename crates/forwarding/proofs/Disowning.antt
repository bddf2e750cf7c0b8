-- The places of a connection in the list of syncs become nobody's, one after the other.
use Rattle.std.proofs.Common.{◌≡◌, ℕ, zero, suc, ◌+◌, ◌<◌, ◌==◌, true, false, cond, List, [], ◌∷◌, ◌++◌, map, take, drop, length, get_or, slice_set, Option, Some, None, refl, sym, ap, ◌∙◌, add-one, arith}
use Rattle.std.specs.Option.{option_eq}
use Rattle.forwarding.specs.Pending.{without_owner}

abbrev pub half_disowned : ℕ → ℕ → List (Option ℕ) → List (Option ℕ)
half_disowned n i xs = map (without_owner n) (take i xs) ++ drop i xs

sets : (n : ℕ) (xs : List (Option ℕ)) (i : ℕ) (x : Option ℕ) → i < length xs → x ≡ get_or (half_disowned n i xs) i x
    → slice_set (half_disowned n i xs) i (without_owner n x) ≡ half_disowned n (suc i) xs
sets n [] i x l at = absurd (omega arith)
sets n (z ∷ zs) zero x l at = ap (λ y. without_owner n y ∷ zs) at
sets n (z ∷ zs) (suc i) x l at = ap (λ ys. without_owner n z ∷ ys) (sets n zs i x (omega arith) at)

keeps : (n : ℕ) (xs : List (Option ℕ)) (i : ℕ) (x : Option ℕ) → i < length xs → x ≡ get_or (half_disowned n i xs) i x
    → x ≡ without_owner n x → half_disowned n i xs ≡ half_disowned n (suc i) xs
keeps n [] i x l at same = absurd (omega arith)
keeps n (z ∷ zs) zero x l at same = ap (λ y. y ∷ zs) (sym at ∙ same ∙ ap (without_owner n) at)
keeps n (z ∷ zs) (suc i) x l at same = ap (λ ys. without_owner n z ∷ ys) (keeps n zs i x (omega arith) at same)

owned : (n : ℕ) (x : Option ℕ) → option_eq (λ (a b : ℕ). a == b) x (Some n) ≡ true → None ≡ without_owner n x
owned n None e = cc
owned n (Some m) e = sym (ap (λ b. cond b None (Some m)) e)

not_owned : (n : ℕ) (x : Option ℕ) → option_eq (λ (a b : ℕ). a == b) x (Some n) ≡ false → x ≡ without_owner n x
not_owned n None e = refl
not_owned n (Some m) e = sym (ap (λ b. cond b None (Some m)) e)

pub disowned : (n : ℕ) (xs items : List (Option ℕ)) (i : ℕ) (x : Option ℕ) → i < length xs
    → items ≡ half_disowned n i xs → x ≡ get_or items i x → option_eq (λ (a b : ℕ). a == b) x (Some n) ≡ true
    → slice_set items i None ≡ half_disowned n (i + 1) xs
disowned n xs items i x l is at own =
    (λ k. slice_set (is k) i (owned n x own k)) ∙ sets n xs i x l (at ∙ ap (λ ys. get_or ys i x) is)
    ∙ ap (λ j. half_disowned n j xs) (sym (add-one i))

pub passed : (n : ℕ) (xs items : List (Option ℕ)) (i : ℕ) (x : Option ℕ) → i < length xs
    → items ≡ half_disowned n i xs → x ≡ get_or items i x → option_eq (λ (a b : ℕ). a == b) x (Some n) ≡ false
    → items ≡ half_disowned n (i + 1) xs
passed n xs items i x l is at other =
    is ∙ keeps n xs i x l (at ∙ ap (λ ys. get_or ys i x) is) (not_owned n x other)
    ∙ ap (λ j. half_disowned n j xs) (sym (add-one i))
