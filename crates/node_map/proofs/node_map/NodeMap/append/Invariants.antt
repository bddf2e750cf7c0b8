use Rattle.node_map.proofs.MovedNodes.{IsJoining}
use Rattle.node_map.proofs.node_map.NodeMap.append.Given as goal

abbrev pub invariant-loop-key : goal.invariant-loop-key
invariant-loop-key l =
    (goal.iterator-loop-key).can_next l.key-iterator
    × (goal.iterator-loop-key).is_finite l.key-iterator
    × IsJoining l.fn.others l.fn.self l.key-iterator l.self
