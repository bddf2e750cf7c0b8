use Rattle.node_map.proofs.CountedOwners.{AreCounted}
use Rattle.node_map.proofs.node_map.NodeMap.are_owned.Given as goal

abbrev pub invariant-loop-path : goal.invariant-loop-path
invariant-loop-path l =
    (goal.iterator-loop-path).can_next l.path-iterator
    × (goal.iterator-loop-path).is_finite l.path-iterator
    × AreCounted l.self l.pairs l.path-iterator l.owned
