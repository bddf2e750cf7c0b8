use Rattle.std.proofs.Common.{◌≡◌, ◌++◌}
use Rattle.std.specs.List.{flat_map}
use Rattle.ephemerals.specs.Orders.{sorted_names}
use Rattle.four_letter.specs.Texts.{path_line}
use Rattle.four_letter.proofs.dump.put_paths.Given as goal

abbrev pub invariant-loop-path : goal.invariant-loop-path
invariant-loop-path l =
    (goal.iterator-loop-path).can_next l.path-iterator
    × (goal.iterator-loop-path).is_finite l.path-iterator
    × (l.out.items ++ flat_map path_line l.path-iterator
    ≡ l.fn.out.items ++ flat_map path_line (sorted_names l.paths))
