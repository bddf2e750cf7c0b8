-- Building a tree from sessions and nodes, one by one.
use Rattle.std.specs.Prelude.{ℤ, Bool, not, ◌&&◌, ◌==◌, if◌then◌else◌}
use Rattle.std.specs.FinMap as finmap
use Rattle.std.specs.FinSet as set
use Rattle.ephemerals.specs.Orders.{Bytes}
use Rattle.ephemerals.specs.Pairs.{with_pair}
use Rattle.paths_and_acls.specs.Paths.{is_root, parent_of, name_of}
use Rattle.node_map.specs.Agreement.{has_node}
use Rattle.node_map.specs.declared.node.Node.{Node}
use Rattle.node_map.specs.Updates.{with_name, update_node}
use Rattle.data_tree.specs.State.{State, Nodes}

-- No node and no session.
abbrev pub empty_state : State
empty_state = record { nodes = finmap.empty; pairs = set.empty; sessions = finmap.empty }

abbrev pub with_session : State → ℤ → ℤ → State
with_session s session timeout = record s { sessions = finmap.insert s.sessions session timeout }

-- The state with the node and its owner's pair.
abbrev pub with_placed_node : State → Bytes → Node → State
with_placed_node s path node = record {
  nodes = finmap.insert s.nodes path node;
  pairs = with_pair s.pairs node.stat.ephemeral_owner path;
  sessions = s.sessions;
}

-- The state with the node, its name in the parent, if there is one, and its owner's pair.
abbrev pub with_node : State → Bytes → Node → State
with_node s path node =
    with_placed_node (record s { nodes = update_node s.nodes (parent_of path) (with_name (name_of path)) }) path node

-- The path "/" has a place if there is no node at all, any other path if it is new and its parent exists.
abbrev pub has_place : Nodes → Bytes → Bool
has_place nodes path =
    if is_root path then finmap.len nodes == 0 else not (has_node nodes path) && has_node nodes (parent_of path)

-- The node is added if the path has a place; otherwise nothing changes.
abbrev pub with_node_in_place : State → Bytes → Node → State
with_node_in_place s path node = if has_place s.nodes path then with_node s path node else s
