-- A list that grew and was cut back.
use Rattle.std.proofs.Common.{◌≡◌, List, [], ◌∷◌, ◌++◌, length, take, refl, ap, sym}

pub taken_back : {A : Type 0} (xs ys : List A) → take (length xs) (xs ++ ys) ≡ xs
taken_back [] ys = refl
taken_back (x ∷ xs) ys = ap (λ r. x ∷ r) (taken_back xs ys)

pub nothing_more : {A : Type 0} (xs ys : List A) → ys ≡ [] → xs ≡ xs ++ ys
nothing_more [] ys e = sym e
nothing_more (x ∷ xs) ys e = ap (λ r. x ∷ r) (nothing_more xs ys e)
