-- A node that is inserted where there is none yet.
use Rattle.std.specs.Prelude.{if◌then◌else◌}
use Rattle.ephemerals.specs.Orders.{Bytes}
use Rattle.node_map.specs.Agreement.{has_node}
use Rattle.node_map.specs.declared.node.Node.{Node}
use Rattle.data_tree.specs.State.{State}
use Rattle.data_tree.specs.Making.{with_placed_node}

-- The state with the node and its owner's pair, if there is no node at the path yet.
abbrev pub with_new_node_placed : State → Bytes → Node → State
with_new_node_placed s path node = if has_node s.nodes path then s else with_placed_node s path node
