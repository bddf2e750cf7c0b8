-- A parent with one child more or less, as the program computes it.
use Rattle.std.specs.Prelude.{◌≡◌, true, if◌then◌else◌, Option, Some, None, int_lt}
use Rattle.std.specs.FinMap as finmap
use Rattle.std.specs.FinSet as set
use Rattle.ephemerals.specs.Orders.{Bytes, Names}
use Rattle.paths_and_acls.specs.Paths.{child_of}
use Rattle.txn_codec.specs.declared.txn.TxnHeader.{TxnHeader}
use Rattle.txn_codec.specs.declared.txn.Create.{Create}
use Rattle.jute.specs.declared.stat.StatPersisted.{StatPersisted}
use Rattle.node_map.specs.Nodes.{Nodes}
use Rattle.node_map.specs.Updates.{next_cversion, counts_by, pzxid_by}
use Rattle.node_map.specs.Agreement.{has_node}
use Rattle.node_map.specs.declared.node.Node.{Node}
use Rattle.node_map.specs.declared.added_child.AddedChild.{AddedChild}
use Rattle.node_map.specs.declared.added_child.AddedChild.TheVariants.{NoParent, Taken, Added}

abbrev pub stat_after_create : TxnHeader → Create → StatPersisted → StatPersisted
stat_after_create header create stat =
    record stat { cversion = next_cversion stat.cversion create.parent_cversion; pzxid = header.zxid }

-- A parent's stat after a create of a new child.
abbrev pub stat_with_child : TxnHeader → Create → StatPersisted → StatPersisted
stat_with_child header create stat =
    let after = stat_after_create header create stat in
    if counts_by header.rules stat.cversion after.cversion then after else stat

-- A parent that has the name already: its stat is raised, or nothing changes.
abbrev pub with_raised_stat : TxnHeader → Create → Node → Node
with_raised_stat header create parent =
    let after = stat_after_create header create parent.stat in
    record parent { stat = if int_lt parent.stat.cversion after.cversion then after else parent.stat }

-- A parent that gains a name, or has it already.
abbrev pub with_added_child : TxnHeader → Create → Bytes → Node → Node
with_added_child header create name parent =
    if set.contains parent.children name then with_raised_stat header create parent
    else record parent
    { children = set.insert parent.children name; stat = stat_with_child header create parent.stat }

abbrev pub added_child : Option Node → Bytes → AddedChild
added_child None name = NoParent
added_child (Some parent) name = if set.contains parent.children name then Taken else Added parent.stat

-- A parent without the name, with this stat.
abbrev pub without_added_child : Bytes → StatPersisted → Node → Node
without_added_child name stat parent = record parent { children = set.remove parent.children name; stat = stat }

-- A parent's stat after a delete of a child.
abbrev pub stat_after_delete : TxnHeader → StatPersisted → StatPersisted
stat_after_delete header stat = record stat { pzxid = pzxid_by header.rules stat.pzxid header.zxid }

-- A parent without the name of a deleted child.
abbrev pub without_child : Bytes → TxnHeader → Node → Node
without_child name header parent =
    record parent
    { children = set.remove parent.children name; stat = stat_after_delete header parent.stat }

-- A parent of a node that was to be deleted, and is there no more.
abbrev pub without_missing_child : TxnHeader → Node → Node
without_missing_child header parent = record parent { stat = stat_after_delete header parent.stat }

abbrev pub without_name : Bytes → Node → Node
without_name name parent = record parent { children = set.remove parent.children name }

-- The nodes with this one at the path, if there is none yet.
abbrev pub with_new_node : Nodes → Bytes → Node → Nodes
with_new_node nodes path node = if has_node nodes path then nodes else finmap.insert nodes path node

-- Each of the names has a node under the path.
abbrev pub HasItsChildren : Nodes → Bytes → Names → Type 0
HasItsChildren nodes path names =
    (name : Bytes) → set.contains names name ≡ true → has_node nodes (child_of path name) ≡ true
