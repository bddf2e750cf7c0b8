-- What a table of options says of each.
use Rattle.std.specs.Prelude.{◌≡◌, ℕ, List, Option, map}
use Rattle.serve_options.specs.declared.row.Name.{Name}
use Rattle.serve_options.specs.declared.row.Kind.{Kind}
use Rattle.serve_options.specs.declared.row.Row.{Row}
use Rattle.serve_options.specs.declared.row.TheConstants.{NAMES}
use Rattle.serve_options.specs.Rows.{option_word, option_kind}
use Rattle.serve_options.specs.Defaults.{option_default, default_value}

-- The word of an option, what its value may be, and its default.
abbrev pub row_said : Row → List ℕ × Kind × Option (List ℕ)
row_said row = (row.word.now, row.kind, default_value row.without)

abbrev pub option_said : Name → List ℕ × Kind × Option (List ℕ)
option_said name = (option_word name, option_kind name, option_default name)

-- A row for each option, in their order.
abbrev pub IsOptionTable : List Row → Type 0
IsOptionTable rows = map row_said rows ≡ map option_said NAMES
