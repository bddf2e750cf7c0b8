use Rattle.ephemerals.specs.Orders.{Bytes}
use Rattle.node_map.specs.Agreement.{AreNamed}
use Rattle.node_map.specs.declared.node.Node.{Node}
use Rattle.node_map.proofs.Deciding.{Decides}
use Rattle.node_map.proofs.Naming.{IsNamed}
use Rattle.node_map.proofs.node_map.NodeMap.are_named.Given as goal

abbrev pub invariant-loop-path : goal.invariant-loop-path
invariant-loop-path l =
    (goal.iterator-loop-path).can_next l.path-iterator
    × (goal.iterator-loop-path).is_finite l.path-iterator
    × Decides (λ (e : Bytes × Node). IsNamed e.0 e.1) (AreNamed l.self) l.path-iterator
