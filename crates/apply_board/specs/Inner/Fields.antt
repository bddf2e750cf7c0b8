-- The relation between the fields of a seat or a board and their models.
use Rattle.std.specs.Prelude.{◌≡◌, ℕ, ◌+◌, ◌-◌, ◌<◌, ◌≤◌, ◌^◌, Bool, true, cond, List, [], ◌∷◌, ◌++◌, map, drop, length, slice_index, Option, None}
use Rattle.apply_board.specs.declared.view.View.{View}
use Rattle.apply_board.specs.declared.group.Group.{Group}
use Rattle.apply_board.specs.Sitting.{BoardId, Sitting}
use Rattle.apply_board.specs.Board.{Moment}

module _ {W F : Type 0} where
  -- The slots that a seat holds: those of the numbers that it claimed and didn't give, emptied.
  abbrev pub held_by : View W F → List (ℕ × Option (Group W F))
  held_by v = map (λ k. (k, None)) (drop (length v.given) v.claimed)

  -- A seat that wasn't joined: the fields agree with its view, and it had this view at some moment.
  pub record IsSitting (gives : W → F → Type 0) (slots : ℕ) (v : View W F) (hand : List (ℕ × Option (Group W F)))
      (spent : Bool) (made : ℕ) : Type 0 where
    pub seated : v.seated ≡ true
    pub alone : v.gathered ≡ []
    pub unmarked : v.gathered_marks ≡ 0
    pub spent_is : v.spent ≡ spent
    pub made_is : v.made ≡ made
    pub hand_is : hand ≡ held_by v
    pub within : (i : ℕ) → i < length v.claimed → slice_index v.claimed i < slots
    pub history : Moment gives v

module _ {W F : Type 0} where
  -- The opener's view v after this seat, into which none was joined, was joined into it.
  abbrev pub with_sitting : View W F → Sitting W F → View W F
  with_sitting v seat = record v {
    gathered = v.gathered ++ seat.view.given;
    gathered_marks = v.gathered_marks + cond seat.view.spent 1 0;
    unjoined = v.unjoined - 1;
  }

  -- The same after these seats were joined, one after the other.
  abbrev pub with_sittings : View W F → List (Sitting W F) → View W F
  with_sittings v [] = v
  with_sittings v (seat ∷ seats) = with_sittings (with_sitting v seat) seats

-- There is one more word than slots, and capacity to list the contents of the slots.
pub record IsRoomy {A : Type 0} (board : BoardId) (groups : List A) (capacity : ℕ) : Type 0 where
  pub empty : groups ≡ []
  pub room : board.slots ≤ capacity
  pub words_is : board.words ≡ board.slots + 1
  pub few : board.slots < 2 ^ 63
