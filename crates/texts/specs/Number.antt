-- Decimal numbers.
use Rattle.std.specs.Prelude.{ℕ, ◌+◌, ◌-◌, ◌*◌, List, [], ◌∷◌, Option, Some, None, nat_le, if◌then◌else◌}
use Rattle.std.specs.Char.{is_ascii_digit}

-- The number that decimal digits spell after those that spell n.
abbrev pub number_after : ℕ → List ℕ → Option ℕ
number_after n [] = Some n
number_after n (b ∷ bs) = if is_ascii_digit b then number_after (n * 10 + (b - 48)) bs else None

-- The number that a text spells: at least one decimal digit, with any number of leading zeros.
abbrev pub number_of : List ℕ → Option ℕ
number_of [] = None
number_of (b ∷ bs) = number_after 0 (b ∷ bs)

-- None in place of a number above a limit.
abbrev pub if_at_most : ℕ → Option ℕ → Option ℕ
if_at_most limit None = None
if_at_most limit (Some n) = if nat_le n limit then Some n else None

abbrev pub number_up_to : ℕ → List ℕ → Option ℕ
number_up_to limit text = if_at_most limit (number_of text)
