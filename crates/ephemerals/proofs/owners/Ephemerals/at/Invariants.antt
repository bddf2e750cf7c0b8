use Rattle.std.proofs.Common.{◌≡◌}
use Rattle.std.specs.FinSet as set
use Rattle.ephemerals.specs.Orders.{sorted_names}
use Rattle.ephemerals.specs.Inner.Steps.{with_pairs_from}
use Rattle.ephemerals.proofs.owners.Ephemerals.at.Given as goal

abbrev pub invariant-loop-path : goal.invariant-loop-path
invariant-loop-path l =
    (goal.iterator-loop-path).can_next l.path-iterator
    × (goal.iterator-loop-path).is_finite l.path-iterator
    × (with_pairs_from l.self l.path-iterator l.found
    ≡ with_pairs_from l.self (sorted_names l.paths) set.empty)
