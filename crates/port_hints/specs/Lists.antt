-- Lists of ports.
use Rattle.std.specs.Prelude.{◌≡◌, ℕ, List, ◌⊎◌, Some, Contains}
use Rattle.port_hints.specs.Slots.{Slots, port_at}

-- Each number of a list is still in it.
abbrev pub KeepsEach : List ℕ → List ℕ → Type 0
KeepsEach old new = (n : ℕ) → Contains old n → Contains new n

-- A slot is given to the port.
abbrev pub HasSlot : Slots → ℕ → Type 0
HasSlot slots n = (slot : ℕ) × (port_at slots slot ≡ Some n)

-- Only ports that have a slot are added.
abbrev pub AddsPorts : Slots → List ℕ → List ℕ → Type 0
AddsPorts slots old new = (n : ℕ) → Contains new n → Contains old n ⊎ HasSlot slots n

-- What a list of ports is after ports that have a slot were added.
pub record HasMarked (slots : Slots) (old new : List ℕ) : Type 0 where
  pub kept : KeepsEach old new
  pub added : AddsPorts slots old new
