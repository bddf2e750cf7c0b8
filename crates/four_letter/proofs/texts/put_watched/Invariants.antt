use Rattle.std.proofs.Common.{◌≡◌, ◌++◌}
use Rattle.four_letter.specs.Inner.Gathered.{watched_lines}
use Rattle.four_letter.proofs.texts.put_watched.Given as goal

abbrev pub invariant-loop-path : goal.invariant-loop-path
invariant-loop-path l =
    (goal.iterator-loop-path).can_next l.path-iterator
    × (goal.iterator-loop-path).is_finite l.path-iterator
    × (l.out.items ++ watched_lines l.path-iterator ≡ l.fn.out.items ++ watched_lines l.paths.keys)
