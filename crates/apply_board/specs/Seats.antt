-- Predicates of seats for contracts.
use Rattle.std.specs.Prelude.{◌≡◌, ℕ, ◌<◌, Bool, false, ◌||◌, List, [], ◌∷◌, ◌++◌, length, All}
use Rattle.apply_board.specs.Sitting.{BoardId, Sitting}
use Rattle.apply_board.specs.Views.{result_numbers}

module _ {W F : Type 0} where
  -- The seat has given everything that it claimed.
  abbrev pub IsIdle : Sitting W F → Type 0
  IsIdle seat = seat.view.claimed ≡ result_numbers seat.view.given

  -- The seat claimed k last, and has given everything before.
  abbrev pub HoldsClaim : Sitting W F → ℕ → Type 0
  HoldsClaim seat k = seat.view.claimed ≡ result_numbers seat.view.given ++ k ∷ []

  -- The seat that the board was opened with.
  abbrev pub IsOpener : Sitting W F → Type 0
  IsOpener seat = 0 < seat.view.made

  -- All seats of the board, none with an open claim: the opener's first, and as many as it counts.
  abbrev pub AreAllSeats : BoardId → List (Sitting W F) → Type 0
  AreAllSeats board [] = ⊥
  AreAllSeats board (first ∷ others) = IsOpener first × (first.view.unjoined ≡ length (first ∷ others))
      × All (λ seat. (seat.board ≡ board) × IsIdle seat) (first ∷ others)

  abbrev pub all_given : List (Sitting W F) → List (ℕ × F)
  all_given [] = []
  all_given (seat ∷ seats) = seat.view.given ++ all_given seats

  abbrev pub any_spent : List (Sitting W F) → Bool
  any_spent [] = false
  any_spent (seat ∷ seats) = seat.view.spent || any_spent seats

  -- The works, from the first of these seats.
  abbrev pub works_of : List (Sitting W F) → List W
  works_of [] = []
  works_of (seat ∷ seats) = seat.view.works
