-- The slots that a seat holds.
use Rattle.std.proofs.Common.{◌≡◌, ℕ, ◌+◌, ◌<◌, false, List, [], ◌∷◌, ◌++◌, map, drop, length, get_or, sym, refl, ap, ◌∙◌, arith, Option, None, Bool}
use Rattle.std.proofs.lemmas.List.{append-nil}
use Rattle.apply_board.specs.declared.view.View.{View}
use Rattle.apply_board.specs.declared.group.Group.{Group}
use Rattle.apply_board.specs.Views.{result_numbers, opener_view, new_seat_view, with_seat_made, with_result}
use Rattle.apply_board.specs.Board.{Moment}
use Rattle.apply_board.specs.Inner.Fields.{held_by, IsSitting}
use Rattle.apply_board.proofs.Histories.{numbers-append}

drop_numbers : {F : Type 0} (given : List (ℕ × F)) (more : List ℕ)
    → drop (length given) (result_numbers given ++ more) ≡ more
drop_numbers [] more = refl
drop_numbers (one ∷ given) more = drop_numbers given more

length_numbers : {F : Type 0} (given : List (ℕ × F)) (k : ℕ) → length given < length (result_numbers given ++ k ∷ [])
length_numbers [] k = omega arith
length_numbers (one ∷ given) k = omega (arith, length_numbers given k)

last_number : {F : Type 0} (given : List (ℕ × F)) (k : ℕ) → get_or (result_numbers given ++ k ∷ []) (length given) 0 ≡ k
last_number [] k = refl
last_number (one ∷ given) k = last_number given k

module _ {W F : Type 0} where
  pub idle_hand : (v : View W F) → v.claimed ≡ result_numbers v.given → held_by v ≡ []
  idle_hand v idle = ap (λ l. map (λ k. (k, None)) (drop (length v.given) l))
      (idle ∙ sym (append-nil (result_numbers v.given))) ∙ ap (λ l. map (λ k. (k, None)) l) (drop_numbers v.given [])

  pub one_hand : (v : View W F) (k : ℕ) → v.claimed ≡ result_numbers v.given ++ k ∷ [] → held_by v ≡ (k, None) ∷ []
  one_hand v k holds = ap (λ l. map (λ k. (k, None)) (drop (length v.given) l)) holds
      ∙ ap (λ l. map (λ k. (k, None)) l) (drop_numbers v.given (k ∷ []))

  -- A number that is held is a slot's.
  pub held_within : (slots : ℕ) (v : View W F) (k : ℕ)
      → ((i : ℕ) → i < length v.claimed → get_or v.claimed i 0 < slots) → v.claimed ≡ result_numbers v.given ++ k ∷ []
      → k < slots
  held_within slots v k within holds = let n = length_numbers v.given k in let last = last_number v.given k in
      let l = ap (λ (xs : List ℕ). length xs) holds in
      let g = ap (λ (xs : List ℕ). get_or xs (length v.given) 0) holds in
      let w = within (length v.given) (omega arith) in omega arith

  pub gives_all : (v : View W F) (k : ℕ) (f : F) → v.claimed ≡ result_numbers v.given ++ k ∷ []
      → v.claimed ≡ result_numbers (v.given ++ (k, f) ∷ [])
  gives_all v k f holds = holds ∙ sym (numbers-append v.given ((k, f) ∷ []))

  -- A seat that has given k.
  pub sits_given : (gives : W → F → Type 0) (slots : ℕ) (v : View W F) (hand : List (ℕ × Option (Group W F)))
      (spent : Bool) (made k : ℕ) (f : F) → IsSitting gives slots v hand spent made
      → v.claimed ≡ result_numbers v.given ++ k ∷ [] → Moment gives (with_result v k f)
      → IsSitting gives slots (with_result v k f) [] spent made
  sits_given gives slots v hand spent made k f sits holds moment = record {
    seated = sits.seated;
    alone = sits.alone;
    unmarked = sits.unmarked;
    spent_is = sits.spent_is;
    made_is = sits.made_is;
    hand_is = sym (idle_hand (with_result v k f) (gives_all v k f holds));
    within = sits.within;
    history = moment;
  }

module _ {W F : Type 0} (gives : W → F → Type 0) (slots : ℕ) where
  -- The seat that a board is opened with.
  pub sits_opening : (works : List W) → Moment gives (opener_view works)
      → IsSitting gives slots (opener_view works) [] false 1
  sits_opening works moment = record {
    seated = refl;
    alone = refl;
    unmarked = refl;
    spent_is = refl;
    made_is = refl;
    hand_is = refl;
    within = λ i l. absurd (omega arith);
    history = moment;
  }

  -- A seat that was made.
  pub sits_new : (v : View W F) → Moment gives (new_seat_view v) → IsSitting gives slots (new_seat_view v) [] false 0
  sits_new v moment = record {
    seated = refl;
    alone = refl;
    unmarked = refl;
    spent_is = refl;
    made_is = refl;
    hand_is = refl;
    within = λ i l. absurd (omega arith);
    history = moment;
  }

  -- The opener's seat that made it.
  pub sits_seating : (v : View W F) (hand : List (ℕ × Option (Group W F))) (spent : Bool) (made : ℕ)
      → IsSitting gives slots v hand spent made → Moment gives (with_seat_made v)
      → IsSitting gives slots (with_seat_made v) hand spent (made + 1)
  sits_seating v hand spent made sits moment = record {
    seated = sits.seated;
    alone = sits.alone;
    unmarked = sits.unmarked;
    spent_is = sits.spent_is;
    made_is = ap (λ (n : ℕ). n + 1) sits.made_is;
    hand_is = sits.hand_is;
    within = sits.within;
    history = moment;
  }
