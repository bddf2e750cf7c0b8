-- Bytes as hexadecimal digits.
use Rattle.std.specs.Prelude.{ℕ, ◌+◌, ◌-◌, ◌*◌, ◌/◌, ◌%◌, ◌==◌, not, List, [], ◌∷◌, Option, Some, None, filter, nat_lt, if◌then◌else◌}
use Rattle.std.specs.Int.{is_in_range}
use Rattle.std.specs.List.{flat_map}
use Rattle.values.specs.Maybe.{◌>>=◌}

-- The value of a hexadecimal digit of either case.
abbrev pub digit_value : ℕ → Option ℕ
digit_value b =
    if is_in_range 48 57 b then Some (b - 48)
    else (if is_in_range 97 102 b then Some (b - 87)
    else (if is_in_range 65 70 b then Some (b - 55) else None))

-- The bytes that digits spell, two for each.
abbrev pub bytes_of_digits : List ℕ → Option (List ℕ)
bytes_of_digits [] = Some []
bytes_of_digits (high ∷ []) = None
bytes_of_digits (high ∷ low ∷ text) = do
  h ← digit_value high
  l ← digit_value low
  bytes ← bytes_of_digits text
  Some ((h * 16 + l) ∷ bytes)

abbrev pub without_blanks : List ℕ → List ℕ
without_blanks text = filter (λ b. not (b == 32)) text

-- None in place of no bytes.
abbrev pub at_least_one : List ℕ → Option (List ℕ)
at_least_one [] = None
at_least_one (b ∷ bytes) = Some (b ∷ bytes)

-- HEX: the bytes that a text spells; blanks are ignored.
abbrev pub bytes_of_hex : List ℕ → Option (List ℕ)
bytes_of_hex text = bytes_of_digits (without_blanks text) >>= at_least_one

-- The bytes that a text spells, or no bytes if it spells none.
abbrev pub bytes_in : Option (List ℕ) → List ℕ
bytes_in None = []
bytes_in (Some bytes) = bytes

abbrev pub hex_bytes : List ℕ → List ℕ
hex_bytes text = bytes_in (bytes_of_hex text)

-- The lower-case digit of a value.
abbrev pub hex_digit : ℕ → ℕ
hex_digit value = if nat_lt value 10 then 48 + value else 87 + value

-- Bytes in lower-case digits.
abbrev pub hex_digits : List ℕ → List ℕ
hex_digits bytes = flat_map (λ b. hex_digit (b / 16) ∷ hex_digit (b % 16) ∷ []) bytes
