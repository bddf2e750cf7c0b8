-- Moving nodes to another map, which has a node to replace at each path.
use Rattle.std.specs.Prelude.{◌≡◌, List, [], ◌∷◌, ◌&&◌, Option, Some, None}
use Rattle.std.specs.FinMap as finmap
use Rattle.std.specs.FinSet as set
use Rattle.ephemerals.specs.Orders.{Bytes, Names}
use Rattle.node_map.specs.Nodes.{Nodes}
use Rattle.node_map.specs.Agreement.{has_node}
use Rattle.node_map.specs.Updates.{update_node}
use Rattle.node_map.specs.declared.node.Node.{Node}

-- There is a node exactly where one of the paths has a node.
abbrev pub IsRoomFor : Names → Nodes → Nodes → Type 0
IsRoomFor paths nodes room = (q : Bytes) → has_node room q ≡ (set.contains paths q && has_node nodes q)

-- The map with this node, if any, in place of the one at the path.
abbrev pub with_replaced_node : Bytes → Option Node → Nodes → Nodes
with_replaced_node path None room = room
with_replaced_node path (Some node) room = update_node room path (λ (n : Node). node)

abbrev pub without_nodes : List Bytes → Nodes → Nodes
without_nodes [] nodes = nodes
without_nodes (p ∷ ps) nodes = without_nodes ps (finmap.remove nodes p)

-- The map with the nodes at the paths moved into it.
abbrev pub with_moved_nodes : List Bytes → Nodes → Nodes → Nodes
with_moved_nodes [] nodes room = room
with_moved_nodes (p ∷ ps) nodes room =
    with_moved_nodes ps (finmap.remove nodes p) (with_replaced_node p (finmap.get nodes p) room)
