-- The characters of a text of JSON.
use Rattle.std.specs.Prelude.{ℕ, ◌/◌, ◌%◌, ◌==◌, ◌||◌, List, [], ◌∷◌, ◌++◌, nat_lt, if◌then◌else◌, codes, encode_utf8}
use Rattle.std.specs.Char.{digit_char}

-- A character by its code, as a backslash, `u` and four digits, of which the first two are 0.
abbrev pub code_escape : ℕ → List ℕ
code_escape c = codes "\\u00" ++ digit_char (c / 16) ∷ digit_char (c % 16) ∷ []

-- A quote (34) or a backslash (92) has a backslash in front, a line feed is `n` behind one, and any other control
-- character stands by its code. All else stands for itself.
abbrev pub json_char : ℕ → List ℕ
json_char c =
    if (c == 34) || (c == 92) then 92 ∷ encode_utf8 c
    else (if c == 10 then 92 ∷ 110 ∷ []
    else (if nat_lt c 32 || (c == 127) then code_escape c
    else encode_utf8 c))
