-- The contents of a board's slots at the end.
use Rattle.std.specs.Prelude.{◌≡◌, ℕ, ◌<◌, ◌≤◌, Bool, true, false, List, length, Option, Some}
use mathlib.Core.Option.{some}
use lib.ListN.{get_elem?}
use Rattle.apply_board.specs.declared.group.Group.{Group}

-- Each slot holds a group.
abbrev pub AreFull : {W F : Type 0} → List (Option (Group W F)) → Type 0
AreFull {W} {F} slots = (k : ℕ) → k < length slots → (group : Group W F) × (get_elem? slots k ≡ some (Some group))

-- The places below n are taken out, and no others.
abbrev pub IsFilled : (ℕ → Bool) → ℕ → ℕ → Type 0
IsFilled filled n count = ((k : ℕ) → k < n → filled k ≡ false) × ((k : ℕ) → n ≤ k → k < count → filled k ≡ true)
