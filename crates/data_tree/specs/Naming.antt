-- The paths of a tree's nodes, and the names that they list, stay valid.
use Rattle.std.specs.Prelude.{IsTrue}
use Rattle.ephemerals.specs.Orders.{Bytes}
use Rattle.paths_and_acls.specs.Paths.{is_path, is_child_path, name_of}
use Rattle.txn_codec.specs.Parents.{HaveParents}
use Rattle.txn_codec.specs.declared.txn.Txn.{Txn}
use Rattle.node_map.specs.Agreement.{is_child_name, AreChildNames, AreNamed}
use Rattle.node_map.specs.declared.node.Node.{Node}
use Rattle.data_tree.specs.State.{State}
use Rattle.data_tree.specs.Meaning.{effect_of_txn}
use Rattle.data_tree.specs.Making.{with_node_in_place}

-- The bytes after the last slash of a path may be a child's name.
abbrev pub PathsEndInNames : Type 0
PathsEndInNames = (path : Bytes) → IsTrue (is_child_path path) → IsTrue (is_child_name (name_of path))

-- The transaction doesn't create "/"; a decoded one never does.
abbrev pub TransactionsKeepNames : Type 0
TransactionsKeepNames = (s : State) (t : Txn) → HaveParents t.body → AreNamed s.nodes
    → AreNamed (effect_of_txn s t).state.nodes

abbrev pub NodesKeepNames : Type 0
NodesKeepNames =
    (s : State) (path : Bytes) (node : Node) → IsTrue (is_path path) → AreChildNames node.children → AreNamed s.nodes
    → AreNamed (with_node_in_place s path node).nodes
