-- A property of each element, when the list is reversed and taken from its end.
use Rattle.std.proofs.Common.{suc, List, [], ◌∷◌, ◌++◌, arith, All}

module _ {A : Type 0} (P : A → Type 0) where
  abbrev pub Each : List A → Type 0
  Each [] = Unit {0}
  Each (x ∷ xs) = P x × Each xs

  pub each : (xs : List A) → All P xs → Each xs
  each [] h = tt
  each (x ∷ xs) h = (h 0 x (omega arith), each xs (λ k d l. h (suc k) d (omega arith)))

  each_append : (xs ys : List A) → Each xs → Each ys → Each (xs ++ ys)
  each_append [] ys h k = k
  each_append (x ∷ xs) ys h k = (h.0, each_append xs ys h.1 k)

  pub each_last : (xs : List A) (x : A) → Each (xs ++ x ∷ []) → Each xs × P x
  each_last [] x h = (tt, h.0)
  each_last (y ∷ ys) x h = let t = each_last ys x h.1 in ((h.0, t.0), t.1)
