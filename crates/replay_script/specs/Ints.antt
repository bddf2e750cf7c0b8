-- Decimal numbers that fit an int.
use Rattle.std.specs.Prelude.{ℕ, ℤ, pos, ◌-◌, ◌^◌, List, Option, Some}
use Rattle.std.specs.Option.{option_map}
use Rattle.values.specs.Maybe.{◌>>=◌}
use Rattle.texts.specs.Cut.{cut_at}
use Rattle.texts.specs.Number.{number_up_to}

-- The number that a text spells, if it fits an int.
abbrev pub int_of : List ℕ → Option ℤ
int_of text = option_map pos (number_up_to (2 ^ 31 - 1) text)

-- Two of these with one blank between them.
abbrev pub ints_of : List ℕ → Option (ℤ × ℤ)
ints_of text = do
  let words = cut_at 32 text
  first ← int_of words.front
  behind ← words.behind
  second ← int_of behind
  Some (first, second)
