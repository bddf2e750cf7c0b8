-- What a seat learns from each of its steps on the board's words.
use Rattle.std.specs.Prelude.{◌≡◌, ℕ, ◌<◌, ◌≤◌, [], ◌∷◌, length, slice_index, Option, Some}
use mathlib.Core.Option.{some}
use lib.ListN.{get_elem?}
use Rattle.atomic_table.specs.Table.{Me, Step}
use Rattle.apply_board.specs.declared.view.View.{View}
use Rattle.apply_board.specs.declared.group.Group.{Group}
use Rattle.apply_board.specs.declared.group.Group.TheVariants.{Home, Unclaimed}
use Rattle.apply_board.specs.Views.{with_claim, with_spent, with_result}
use Rattle.apply_board.specs.Board.{Moment}

abbrev pub ViewAndSlots : Type 0 → Type 0 → Type 0
ViewAndSlots W F = Me (Option (Group W F)) (View W F)

module _ {W F : Type 0} where
  -- The number drawn is a work's, and the seat holds its slot.
  pub record TakesWork (old : ViewAndSlots W F) (k : ℕ) (new : ViewAndSlots W F) : Type 0 where
    pub work : W
    pub opened : get_elem? old.0.works k ≡ some work
    pub above : (i : ℕ) → i < length old.0.claimed → slice_index old.0.claimed i < k
    pub new_is : new ≡ (with_claim old.0 k, (k, Some (Unclaimed work)) ∷ old.1)

  -- A claim draws a number and takes its work, or finds every number drawn.
  pub record DrawsNumber (gives : W → F → Type 0) (st : Step (Option (Group W F))) (old : ViewAndSlots W F) (found : ℕ)
      (new : ViewAndSlots W F) : Type 0 where
    pub takes : found < st.slots → TakesWork old found new
    pub ends : st.slots ≤ found → new ≡ (with_spent old.0, old.1)
    pub history : Moment gives new.0

  -- The result is in its slot.
  pub record GivesResult (gives : W → F → Type 0) (st : Step (Option (Group W F))) (old : ViewAndSlots W F)
      (new : ViewAndSlots W F) : Type 0 where
    pub gone : (k : ℕ) (finished : F) → old.1 ≡ (k, Some (Home finished)) ∷ []
        → new ≡ (with_result old.0 k finished, [])
    pub history : Moment gives new.0
