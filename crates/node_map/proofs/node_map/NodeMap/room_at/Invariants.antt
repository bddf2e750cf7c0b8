use Rattle.node_map.proofs.MovedNodes.{HasRoomFor}
use Rattle.node_map.proofs.node_map.NodeMap.room_at.Given as goal

abbrev pub invariant-loop-path : goal.invariant-loop-path
invariant-loop-path l =
    (goal.iterator-loop-path).can_next l.path-iterator
    × (goal.iterator-loop-path).is_finite l.path-iterator
    × HasRoomFor l.paths l.self l.path-iterator l.room
