-- Texts, each with the number of its place.
use Rattle.std.specs.Prelude.{ℕ, List, [], ◌∷◌, ◌++◌, Option, position, if◌then◌else◌}
use Rattle.std.specs.List.{list_any, position_or_len}
use Rattle.std.specs.Str.{bytes_eq}
use Rattle.pairs.specs.Pairs.{Bytes}

-- The number of a text.
abbrev pub number_among : List Bytes → Bytes → Option ℕ
number_among names text = position (bytes_eq text) names

-- A new text comes last.
abbrev pub with_new_name : List Bytes → Bytes → List Bytes
with_new_name names text = if list_any (bytes_eq text) names then names else names ++ text ∷ []

-- The number of a text that was added: its own, or that of the last place.
abbrev pub number_or_next : List Bytes → Bytes → ℕ
number_or_next names text = position_or_len (bytes_eq text) names
