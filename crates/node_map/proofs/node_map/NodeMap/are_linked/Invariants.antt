use Rattle.ephemerals.specs.Orders.{Bytes}
use Rattle.node_map.specs.Agreement.{AreLinked}
use Rattle.node_map.specs.declared.node.Node.{Node}
use Rattle.node_map.proofs.Deciding.{Decides}
use Rattle.node_map.proofs.Links.{IsLinked}
use Rattle.node_map.proofs.node_map.NodeMap.are_linked.Given as goal

abbrev pub invariant-loop-path : goal.invariant-loop-path
invariant-loop-path l =
    (goal.iterator-loop-path).can_next l.path-iterator
    × (goal.iterator-loop-path).is_finite l.path-iterator
    × Decides (λ (e : Bytes × Node). IsLinked l.self e.0 e.1) (AreLinked l.self) l.path-iterator
