-- A loop over a list that stops at the first item that fails: the rest of the list decides.
use Rattle.std.proofs.Common.{List, [], ◌∷◌, false, true, IsTrue, ◌↔◌, refl, sym}
use mathlib.Core.Bool.{true≢false}
use Rattle.std.specs.List.{AllByRecursion}

module _ {A : Type 0} (P : A → Type 0) (X : Type 0) where
  -- X holds exactly if all the items left pass.
  abbrev pub Decides : List A → Type 0
  Decides rest = AllByRecursion P rest ↔ X

  pub passes : (x : A) (rest : List A) → P x → Decides (x ∷ rest) → Decides rest
  passes x rest p d = ((λ all. d.0 (p, all)), (λ holds. (d.1 holds).1))

  pub fails : (x : A) (rest : List A) → (P x → ⊥) → Decides (x ∷ rest) → IsTrue false ↔ X
  fails x rest not d = ((λ t. absurd (true≢false (sym t))), (λ holds. absurd (not (d.1 holds).0)))

  pub all_pass : Decides [] → IsTrue true ↔ X
  all_pass d = ((λ t. d.0 tt), (λ holds. refl))
