-- The nodes by path.
use Rattle.std.specs.FinMap as finmap
use Rattle.ephemerals.specs.Orders.{path_cmp}
use Rattle.node_map.specs.declared.node.Node.{Node}

abbrev pub Nodes : Type 0
Nodes = finmap.FinMap path_cmp Node
