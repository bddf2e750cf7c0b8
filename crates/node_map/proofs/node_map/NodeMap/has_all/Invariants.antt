use Rattle.std.proofs.Common.{◌≡◌, true}
use Rattle.paths_and_acls.specs.Paths.{child_of}
use Rattle.ephemerals.specs.Orders.{Bytes}
use Rattle.node_map.specs.Agreement.{has_node}
use Rattle.node_map.specs.Children.{HasItsChildren}
use Rattle.node_map.proofs.Deciding.{Decides}
use Rattle.node_map.proofs.node_map.NodeMap.has_all.Given as goal

abbrev pub invariant-loop-name : goal.invariant-loop-name
invariant-loop-name l =
    (goal.iterator-loop-name).can_next l.name-iterator
    × (goal.iterator-loop-name).is_finite l.name-iterator
    × Decides (λ (k : Bytes). has_node l.self (child_of l.path k) ≡ true)
    (HasItsChildren l.self l.path l.names) l.name-iterator
