-- A loop that appends one item after another: the bytes so far, and the items left.
use Rattle.std.proofs.Common.{◌≡◌, ℕ, List, ◌∷◌, ◌++◌, ◌↔◌, sym, ap, subst, ◌∙◌, append_assoc}
use Rattle.std.specs.List.{flat_map, AllByRecursion}

module _ {A : Type 0} (w : A → List ℕ) (F : A → Type 0) (old : List ℕ) (all : List A) where
  -- Appending the items left completes the whole, and they fit exactly if all do.
  abbrev pub Left : List ℕ → List A → Type 0
  Left now rest = (now ++ flat_map w rest ≡ old ++ flat_map w all) × (AllByRecursion F rest ↔ AllByRecursion F all)

  pub begins : (now : List ℕ) (rest : List A) → now ≡ old → rest ≡ all → Left now rest
  begins now rest e f =
      (λ i. e i ++ flat_map w (f i), (moved f, moved (sym f)))
    where
      moved : {xs ys : List A} → xs ≡ ys → AllByRecursion F xs → AllByRecursion F ys
      moved e h = subst (λ (l : List A). AllByRecursion F l) e h

  pub wrote : (now new : List ℕ) (x : A) (rest : List A) → new ≡ now ++ w x → F x → Left now (x ∷ rest) → Left new rest
  wrote now new x rest e f l = (
    ap (λ (b : List ℕ). b ++ flat_map w rest) e ∙ append_assoc now (w x) (flat_map w rest) ∙ l.0,
    ((λ h. l.1.0 (f, h)), (λ h. (l.1.1 h).1)),
  )
