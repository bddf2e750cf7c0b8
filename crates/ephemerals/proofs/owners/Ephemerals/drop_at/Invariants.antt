use Rattle.std.proofs.Common.{◌≡◌}
use Rattle.ephemerals.specs.Orders.{sorted_names}
use Rattle.ephemerals.specs.Inner.Steps.{without_listed_paths}
use Rattle.ephemerals.proofs.owners.Ephemerals.drop_at.Given as goal

abbrev pub invariant-loop-path : goal.invariant-loop-path
invariant-loop-path l =
    (goal.iterator-loop-path).can_next l.path-iterator
    × (goal.iterator-loop-path).is_finite l.path-iterator
    × (without_listed_paths l.path-iterator l.self
    ≡ without_listed_paths (sorted_names l.paths) l.fn.self)
