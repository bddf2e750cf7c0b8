-- The invariant of a board between any two steps of any seats.
use Rattle.std.specs.Prelude.{◌≡◌, ◌⊎◌, ℕ, ◌+◌, ◌<◌, ◌≤◌, ◌^◌, min, true, false, cond, ◌==◌, List, [], ◌∷◌, ◌++◌, length, slice_index, Option, Some}
use mathlib.Core.Option.{some}
use lib.ListN.{get_elem?}
use Rattle.std.specs.List.Sorted.{IsStrictlyIncreasing}
use Rattle.atomic_table.specs.Table.{State}
use Rattle.apply_board.specs.declared.view.View.{View}
use Rattle.apply_board.specs.declared.group.Group.{Group}
use Rattle.apply_board.specs.declared.group.Group.TheVariants.{Home, Unclaimed}
use Rattle.apply_board.specs.Views.{result_numbers, marks_of, vacated_view}

-- The sum of a number of each.
abbrev pub sum_of : {A : Type 0} → (A → ℕ) → List A → ℕ
sum_of f [] = 0
sum_of f (x ∷ xs) = f x + sum_of f xs

abbrev pub occurrences_of : ℕ → List ℕ → ℕ
occurrences_of k list = sum_of (λ x. cond (x == k) 1 0) list

-- The state that all seats of a board share: its words, its slots and their views.
abbrev pub Shared : Type 0 → Type 0 → Type 0
Shared W F = State (Option (Group W F)) (View W F)

module _ {W F : Type 0} where
  -- Word 0 counts the draws.
  abbrev pub draw_count : Shared W F → ℕ
  draw_count board = slice_index board.words 0

  abbrev pub work_word : Shared W F → ℕ → ℕ
  work_word board k = slice_index board.words (k + 1)

  -- The slot of k isn't held by a seat, and has this group.
  abbrev pub LiesIn : Shared W F → ℕ → Group W F → Type 0
  LiesIn board k group = get_elem? board.homes k ≡ some (some (Some group))

  -- How often k was claimed by this seat and by those joined into it, which gave everything that they had claimed.
  abbrev pub claims_of : ℕ → View W F → ℕ
  claims_of k v = occurrences_of k v.claimed + occurrences_of k (result_numbers v.gathered)

  -- How often k was given by this seat and by those joined into it.
  abbrev pub gifts_of : ℕ → View W F → ℕ
  gifts_of k v = occurrences_of k (result_numbers v.given) + occurrences_of k (result_numbers v.gathered)

  abbrev pub seats_of : View W F → ℕ
  seats_of v = cond v.seated 1 0

  -- The first of these seats is the opener's, and wasn't joined into another.
  abbrev pub OpenerIsFirst : List (View W F) → Type 0
  OpenerIsFirst [] = ⊥
  OpenerIsFirst (v ∷ vs) = (0 < v.made) × (v.seated ≡ true)

-- The invariant of the view v of a seat that wasn't joined into another.
pub record IsSeat {W F : Type 0} (gives : W → F → Type 0) (works : List W) (board : Shared W F)
    (v : View W F) : Type 0 where
  -- The works stay as they were when the board was opened.
  pub keeps : v.works ≡ works
  -- Each claim has a number above all before it.
  pub claimed_rises : IsStrictlyIncreasing v.claimed
  -- The results given are those of the claims, except perhaps of the last one.
  pub given_is : (v.claimed ≡ result_numbers v.given) ⊎ ((k : ℕ) × (v.claimed ≡ result_numbers v.given ++ k ∷ []))
  -- The slot of a number that was given has the result.
  pub home : (i k : ℕ) (finished : F) → get_elem? (v.given ++ v.gathered) i ≡ some (k, finished)
      → LiesIn board k (Home finished)
  -- Each result is of its work.
  pub fits : (i k : ℕ) (finished : F) (w : W) → get_elem? (v.given ++ v.gathered) i ≡ some (k, finished)
      → get_elem? works k ≡ some w → gives w finished
  -- The seat, or one joined into it, is spent only if every number was drawn.
  pub spent_late : 0 < marks_of v → length works ≤ draw_count board

-- The invariant of a board with these works.
pub record BoardHistory {W F : Type 0} (gives : W → F → Type 0) (works : List W) (board : Shared W F) : Type 0 where
  -- There is one more word than works, and a slot for each work.
  pub words_count : length board.words ≡ length works + 1
  pub slots_count : length board.homes ≡ length works
  pub works_count : length works < 2 ^ 63
  -- The numbers claimed are those below word 0, each once in the lists of all seats together.
  pub claimed : (k : ℕ) → k < min (draw_count board) (length works) → sum_of (claims_of k) board.views ≡ 1
  pub unclaimed : (k : ℕ) → min (draw_count board) (length works) ≤ k → sum_of (claims_of k) board.views ≡ 0
  -- The word of a number is 1 if the number was given, and 0 otherwise.
  pub words : (k : ℕ) → k < length works → work_word board k ≡ sum_of (gifts_of k) board.views
  -- The slot of a number that isn't claimed has its work as it was when the board was opened.
  pub waits : (k : ℕ) (w : W) → draw_count board ≤ k → get_elem? works k ≡ some w → LiesIn board k (Unclaimed w)
  -- Word 0 counts the numbers claimed and the seats that are spent, and nothing else.
  pub marks : draw_count board ≡ min (draw_count board) (length works) + sum_of marks_of board.views
  -- There are no more marks of joined seats than joined seats, so word 0 never wraps.
  pub gathered_marks_few : sum_of (λ v. v.gathered_marks) board.views + sum_of seats_of board.views ≤ length board.views
  pub seats_at_most_64 : length board.views ≤ 64
  -- The opener's seat is the first. It alone counts the seats made, and those of them that weren't joined.
  pub opener_is_first : OpenerIsFirst board.views
  pub opener_counts : (j : ℕ) (v : View W F) → get_elem? board.views j ≡ some v → 0 < v.made
      → (j ≡ 0) × (v.made ≡ length board.views) × (v.unjoined ≡ sum_of seats_of board.views)
  pub each_seat : (j : ℕ) (v : View W F) → get_elem? board.views j ≡ some v → v.seated ≡ true
      → IsSeat gives works board v
  pub each_vacated : (j : ℕ) (v : View W F) → get_elem? board.views j ≡ some v → v.seated ≡ false → v ≡ vacated_view

-- A moment between two steps of the board, and a seat that had this view then.
pub record Moment {W F : Type 0} (gives : W → F → Type 0) (v : View W F) : Type 0 where
  pub board : Shared W F
  pub history : BoardHistory gives v.works board
  pub seat : ℕ
  pub has : get_elem? board.views seat ≡ some v
