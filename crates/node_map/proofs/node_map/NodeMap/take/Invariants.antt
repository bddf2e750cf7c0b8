use Rattle.std.proofs.Common.{◌≡◌}
use Rattle.ephemerals.specs.Orders.{sorted_names}
use Rattle.node_map.specs.Inner.Moving.{without_nodes, with_moved_nodes}
use Rattle.node_map.proofs.node_map.NodeMap.take.Given as goal

abbrev pub invariant-loop-path : goal.invariant-loop-path
invariant-loop-path l =
    (goal.iterator-loop-path).can_next l.path-iterator
    × (goal.iterator-loop-path).is_finite l.path-iterator
    × (without_nodes l.path-iterator l.self ≡ without_nodes (sorted_names l.paths) l.fn.self)
    × (with_moved_nodes l.path-iterator l.self l.taken
    ≡ with_moved_nodes (sorted_names l.paths) l.fn.self l.initial.taken)
