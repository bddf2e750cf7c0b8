-- The loops that put works into slots, and take groups out of them.
use Rattle.std.proofs.Common.{◌≡◌, ℕ, zero, suc, ◌+◌, Bool, false, List, [], ◌∷◌, ◌++◌, map, take, get_or, set, sym, refl, ap, ◌∙◌, subst, arith, get_or-set_other}
use mathlib.Core.Logic.{dite}
use mathlib.Core.Option.{some, some-injective, some-ne-none}
use mathlib.Core.List.{map-append}
use native.Mathlib.Decide.{ℕ_discrete}
use lib.ListN.{get_elem?}
use Rattle.apply_board.specs.Inner.Slots.{IsFilled}

take_next : {A : Type 0} (xs : List A) (n : ℕ) (x : A) → get_elem? xs n ≡ some x → take (suc n) xs ≡ take n xs ++ x ∷ []
take_next [] n x e = absurd (some-ne-none x (sym e))
take_next (y ∷ ys) zero x e = λ i. some-injective y x e i ∷ []
take_next {A} (y ∷ ys) (suc n) x e = ap (λ (l : List A). y ∷ l) (take_next ys n x e)

pub take_one_more : {A B : Type 0} (f : A → B) (gs : List A) (g : A) (xs : List B) (n : ℕ) → map f gs ≡ take n xs
    → get_elem? xs n ≡ some (f g) → map f (gs ++ g ∷ []) ≡ take (n + 1) xs
take_one_more {A} {B} f gs g xs n e at = map-append f gs (g ∷ [])
    ∙ (ap (λ (l : List B). l ++ f g ∷ []) e ∙ (sym (take_next xs n (f g) at)
    ∙ (let m : suc n ≡ n + 1 = omega arith in ap (λ (k : ℕ). take k xs) m)))

set_false : (xs : List Bool) (i : ℕ) → get_or (set xs i false) i false ≡ false
set_false [] i = refl
set_false (x ∷ xs) zero = refl
set_false (x ∷ xs) (suc i) = set_false xs i

pub takes_one : (fs fs' : List Bool) (n count count' : ℕ) → fs' ≡ set fs n false → count' ≡ count
    → IsFilled (λ k. get_or fs k false) n count → IsFilled (λ k. get_or fs' k false) (n + 1) count'
takes_one fs fs' n count count' e same h = subst (λ (gs : List Bool). IsFilled (λ k. get_or gs k false)
    (n + 1) count') (sym e) (
      λ k l. dite (ℕ_discrete k n) (λ e. subst (λ (j : ℕ). get_or (set fs n false) j false ≡ false) (sym e)
          (set_false fs n)) (λ ne. get_or-set_other fs n k false false ne ∙ h.0 k (omega arith)),
      λ k a b. get_or-set_other fs n k false false (λ e. omega arith) ∙ h.1 k (omega arith) (omega arith),
    )
