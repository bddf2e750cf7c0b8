-- The option that a misspelled word is near to.
use Rattle.std.specs.Prelude.{ℕ, ◌<◌, ◌≤◌, List, length, Option, Some, None, nat_eq}
use Rattle.std.specs.Str.{chars}
use Rattle.strsim.specs.Edits.{levenshtein_row}
use Rattle.serve_options.specs.declared.row.Name.{Name}
use Rattle.serve_options.specs.Places.{name_place}
use Rattle.serve_options.specs.Rows.{option_word}

-- How many edits lead from one text to another: characters put in, left out or changed.
abbrev pub edits_between : List ℕ → List ℕ → ℕ
edits_between word other = levenshtein_row nat_eq (chars word) (chars other) (length (chars other))

unfoldable pub edits_to : List ℕ → Name → ℕ
edits_to word name = edits_between word (option_word name)

-- At most two edits lead to its name, no fewer to another's, and more to that of each option before it.
abbrev pub IsNearest : List ℕ → Option Name → Type 0
IsNearest word None = (name : Name) → 2 < edits_to word name
IsNearest word (Some near) =
    (edits_to word near ≤ 2) × ((name : Name) → edits_to word near ≤ edits_to word name)
    × ((name : Name) → name_place name < name_place near → edits_to word near < edits_to word name)
