-- The port that has each slot, and how many bytes were put to clients.
use Rattle.std.specs.Prelude.{◌≡◌, ◌≢◌, ℕ, ◌-◌, List, Option, Some, None, nat_eq, if◌then◌else◌, slice_index_or, refl}
use Rattle.std.specs.Coded.{Coded, code_by, coded×, coded_list, coded_option, coded_ℕ}

abbrev pub Slots : Type 0
Slots = List (Option ℕ)

-- What is given out, and to whom.
pub record Given : Type 0 where
  pub slots : Slots
  pub put : ℕ

abbrev pub given_code : Coded Given
given_code =
    code_by (Slots × ℕ) (coded× (coded_list (coded_option coded_ℕ)) coded_ℕ) (λ g. (g.slots, g.put))
    (λ p. record { slots = p.0; put = p.1 }) (λ _. refl)

abbrev pub port_at : Slots → ℕ → Option ℕ
port_at slots slot = slice_index_or slots slot None

-- The slot has this port, or is free. All others stay.
pub record GivesSlot (slot : ℕ) (port : Option ℕ) (old new : Slots) : Type 0 where
  pub at : port_at new slot ≡ port
  pub others : (k : ℕ) → k ≢ slot → port_at new k ≡ port_at old k

abbrev pub GivesNoSlot : Slots → Slots → Type 0
GivesNoSlot old new = (k : ℕ) → port_at new k ≡ port_at old k

-- The count without the bytes that were put to a port. Those that were put to the leader, port 0, aren't in it.
abbrev pub put_without : Option ℕ → ℕ → ℕ → ℕ
put_without None put count = count
put_without (Some number) put count = if nat_eq number 0 then count else count - put
