-- What an image lacks that was written while its leader went on, by the rules of later dialects.
use Rattle.std.specs.Prelude.{List}
use Rattle.ephemerals.specs.Orders.{Bytes}
use Rattle.jute.specs.declared.owned.Acl.{Acl}
use Rattle.settings.specs.declared.dialect.Dialect.{Dialect}
use Rattle.settings.specs.declared.dialect.Dialect.TheVariants.{Zk34, Zk38}
use Rattle.paths_and_acls.specs.Paths.{parent_of}
use Rattle.txn_codec.specs.declared.txn.TxnHeader.{TxnHeader}
use Rattle.node_map.specs.Children.{without_missing_child}
use Rattle.node_map.specs.Updates.{update_node, with_missing_acl}
use Rattle.data_tree.specs.State.{State}

-- The state, and the list of the node at the path, if it has none.
abbrev pub with_mended : Dialect → Bytes → List Acl → State → State
with_mended Zk34 path acl s = s
with_mended Zk38 path acl s = record s { nodes = update_node s.nodes path (with_missing_acl acl) }

-- The state after the delete of a node that isn't there.
abbrev pub with_missing : Dialect → TxnHeader → Bytes → State → State
with_missing Zk34 header path s = s
with_missing Zk38 header path s =
    record s { nodes = update_node s.nodes (parent_of path) (without_missing_child header) }
