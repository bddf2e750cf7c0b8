use Rattle.std.proofs.Common.{◌≡◌, ◌++◌, map, drop}
use Rattle.std.specs.Prelude.{filter}
use Rattle.serve_options.specs.Filed.{given_spelling, filed_spelling, counts_beside}
use Rattle.serve_options.proofs.filed.given_by.Given as goal

-- The options so far, and those that are left.
abbrev pub invariant-loop-option : goal.invariant-loop-option
invariant-loop-option l =
    map given_spelling l.given.items
    ++ map filed_spelling (filter (counts_beside l.has_leader) (drop l.option-index l.filed))
    ≡ map filed_spelling (filter (counts_beside l.has_leader) l.filed)
