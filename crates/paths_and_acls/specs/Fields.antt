-- Paths as fields.
use Rattle.std.specs.Prelude.{ℕ, Bool, List, Option, Some, None, Result, Ok, Err, if◌then◌else◌}
use Rattle.values.specs.declared.fault.Fault.{Fault}
use Rattle.values.specs.declared.fault.Fault.TheVariants.{BadPath}
use Rattle.jute.specs.Format.{Format, text_format, judged_format}
use Rattle.paths_and_acls.specs.Paths.{is_path, is_child_path}

-- A text that passes a test; null passes none.
abbrev pub tested_text : (List ℕ → Bool) → Option (List ℕ) → Result (List ℕ) Fault
tested_text test None = Err BadPath
tested_text test (Some p) = if test p then Ok p else Err BadPath

abbrev pub path_by : (List ℕ → Bool) → Format (List ℕ)
path_by test = judged_format (tested_text test) (λ p. Some (Some p)) text_format

abbrev pub path_format : Format (List ℕ)
path_format = path_by is_path

-- The path of a node that has a parent.
abbrev pub child_path : Format (List ℕ)
child_path = path_by is_child_path
