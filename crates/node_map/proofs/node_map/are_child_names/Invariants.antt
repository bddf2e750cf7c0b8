use Rattle.std.proofs.Common.{◌≡◌, true}
use Rattle.ephemerals.specs.Orders.{Bytes}
use Rattle.node_map.specs.Agreement.{is_child_name, AreChildNames}
use Rattle.node_map.proofs.Deciding.{Decides}
use Rattle.node_map.proofs.node_map.are_child_names.Given as goal

abbrev pub invariant-loop-name : goal.invariant-loop-name
invariant-loop-name l =
    (goal.iterator-loop-name).can_next l.name-iterator
    × (goal.iterator-loop-name).is_finite l.name-iterator
    × Decides (λ (k : Bytes). is_child_name k ≡ true) (AreChildNames l.names) l.name-iterator
