use Rattle.std.proofs.Common.{◌≢◌, ℕ, ◌<◌}
use Rattle.std.specs.Prelude.{slice_index_or}
use Rattle.serve_options.specs.declared.row.Name.{Name}
use Rattle.serve_options.specs.Rows.{option_word}
use Rattle.serve_options.proofs.given.name_of.Given as goal

abbrev pub invariant-loop-name : goal.invariant-loop-name
invariant-loop-name l =
    (k : ℕ) (name : Name) → k < l.name-index → option_word (slice_index_or l.name-items k name) ≢ l.word
