-- The result of closing a board.
use Rattle.std.specs.Prelude.{◌≡◌, ℕ, ◌≤◌, Bool, true, List, length}
use mathlib.Core.Option.{some}
use lib.ListN.{get_elem?}
use Rattle.apply_board.specs.declared.group.Group.{Group}
use Rattle.apply_board.specs.declared.group.Group.TheVariants.{Home, Unclaimed}
use Rattle.apply_board.specs.Views.{result_numbers}
use Rattle.apply_board.specs.Board.{occurrences_of}

-- Each work has a result.
abbrev pub AreHome : {W F : Type 0} → (W → F → Type 0) → List W → List (Group W F) → Type 0
AreHome {W} {F} gives works groups = (k : ℕ) (w : W) → get_elem? works k ≡ some w
    → (finished : F) × (get_elem? groups k ≡ some (Home finished)) × gives w finished

-- The groups of these works, given these results and whether a seat was spent.
pub record IsSettled {W F : Type 0} (gives : W → F → Type 0) (works : List W) (given : List (ℕ × F)) (spent : Bool)
    (groups : List (Group W F)) : Type 0 where
  -- One for each number.
  pub count : length groups ≡ length works
  -- If a result was given, that result.
  pub home : (i k : ℕ) (finished : F) → get_elem? given i ≡ some (k, finished)
      → get_elem? groups k ≡ some (Home finished)
  -- If none was given, the work as it was when the board was opened.
  pub unclaimed : (k : ℕ) (w : W) → get_elem? works k ≡ some w → occurrences_of k (result_numbers given) ≡ 0
      → get_elem? groups k ≡ some (Unclaimed w)
  -- Each result is of its work.
  pub fits : (i k : ℕ) (finished : F) (w : W) → get_elem? given i ≡ some (k, finished) → get_elem? works k ≡ some w
      → gives w finished
  -- No number was given twice.
  pub once : (k : ℕ) → occurrences_of k (result_numbers given) ≤ 1
  -- If a seat is spent, each work has a result.
  pub whole : spent ≡ true → AreHome gives works groups
