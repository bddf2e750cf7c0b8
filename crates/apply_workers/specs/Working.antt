-- What a worker leaves, and what workers together do.
use Rattle.std.specs.Prelude.{◌≡◌, ℕ, true, List, ◌++◌}
use Rattle.apply_board.specs.Sitting.{Sitting}
use Rattle.apply_board.specs.Seats.{IsIdle}

-- A worker's seat s is t when all numbers are claimed: after what it had given before, it has given everything that it
-- claimed.
pub record IsWorked {W F : Type 0} (s t : Sitting W F) : Type 0 where
  pub own : t.board ≡ s.board
  pub idle : IsIdle t
  pub spent : t.view.spent ≡ true
  pub works : t.view.works ≡ s.view.works
  pub made : t.view.made ≡ s.view.made
  pub unjoined : t.view.unjoined ≡ s.view.unjoined
  pub begins : (more : List (ℕ × F)) × (t.view.given ≡ s.view.given ++ more)
