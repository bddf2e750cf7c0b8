-- Ports that are added to a list.
use Rattle.std.proofs.Common.{◌≡◌, ℕ, List, [], ◌∷◌, ◌++◌, ◌⊎◌, inl, inr, Result, Ok, Err, sym, subst}
use Rattle.std.specs.Prelude.{is_ok, Contains, if◌then◌else◌}
use Rattle.std.proofs.lemmas.List.Elements.{Contains-append_left, Contains-push_cases}
use Rattle.port_hints.specs.Slots.{Slots}
use Rattle.port_hints.specs.Lists.{HasSlot, HasMarked}

-- A port that has a slot is pushed, or the list is as it was.
pub marked_in_push : {E : Type 0} (slots : Slots) (result : Result (Unit {0}) E) (start old new : List ℕ) (x : ℕ)
    → new ≡ (if is_ok result then old ++ x ∷ [] else old) → HasSlot slots x → HasMarked slots start old
    → HasMarked slots start new
marked_in_push slots (Ok u) start old new x is has before =
    subst (λ (l : List ℕ). HasMarked slots start l) (sym is) (record {
      kept = λ n h. Contains-append_left old (x ∷ []) n (before.kept n h);
      added = λ n h. of n (Contains-push_cases old x n h);
    })
  where
    of : (n : ℕ) → Contains old n ⊎ (x ≡ n) → Contains start n ⊎ HasSlot slots n
    of n (inl h) = before.added n h
    of n (inr same) = inr (subst (λ (k : ℕ). HasSlot slots k) same has)
marked_in_push slots (Err e) start old new x is has before =
    subst (λ (l : List ℕ). HasMarked slots start l) (sym is) before

-- Ports are added twice.
pub marked_after : (slots : Slots) (start old new : List ℕ) → HasMarked slots start old → HasMarked slots old new
    → HasMarked slots start new
marked_after slots start old new before after = record {
  kept = λ n h. after.kept n (before.kept n h);
  added = λ n h. of n (after.added n h);
}
  where
    of : (n : ℕ) → Contains old n ⊎ HasSlot slots n → Contains start n ⊎ HasSlot slots n
    of n (inl h) = before.added n h
    of n (inr has) = inr has
