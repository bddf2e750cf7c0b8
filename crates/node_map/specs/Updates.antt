-- What a transaction makes of a node, and the nodes after the one at a path has changed.
use Rattle.std.specs.Prelude.{◌≡◌, ◌⊎◌, ℤ, pos, negsuc, Bool, true, int_lt, length, ◌==◌, ◌-◌, ◌%◌, ◌^◌, ◌+ℤ◌, ◌-ℤ◌, [], if◌then◌else◌, Some, Option, None, List, ◌∷◌}
use Rattle.std.specs.Int.{int_wrap, cast_unsigned, w32, w64}
use Rattle.std.specs.Ordering.{int_eq}
use Rattle.std.specs.FinSet as set
use Rattle.ephemerals.specs.Orders.{Names, Bytes}
use Rattle.settings.specs.declared.dialect.Dialect.{Dialect}
use Rattle.settings.specs.declared.dialect.Dialect.TheVariants.{Zk34, Zk38}
use Rattle.jute.specs.declared.owned.Acl.{Acl}
use Rattle.jute.specs.Codes.{open_acl}
use Rattle.paths_and_acls.specs.Acls.{acl_or_open}
use Rattle.txn_codec.specs.declared.txn.TxnHeader.{TxnHeader}
use Rattle.txn_codec.specs.declared.txn.Owner.{Owner}
use Rattle.txn_codec.specs.declared.txn.Owner.TheVariants.{Nobody, Client, Container, Ttl}
use Rattle.txn_codec.specs.declared.txn.Create.{Create}
use Rattle.txn_codec.specs.declared.txn.SetData.{SetData}
use Rattle.txn_codec.specs.declared.txn.SetAcl.{SetAcl}
use Rattle.std.specs.FinMap as finmap
use Rattle.node_map.specs.declared.node.Node.{Node}
use Rattle.node_map.specs.Nodes.{Nodes}

-- The stored cversion of the parent after a create: -1 counts it up by one, and Java's 32-bit numbers wrap.
abbrev pub next_cversion : ℤ → ℤ → ℤ
next_cversion stored wanted = if int_eq wanted (negsuc 0) then int_wrap w32 (stored +ℤ pos 1) else wanted

-- Whether a create of a new child sets its parent's numbers. An image that was written while the leader went on may be
-- ahead of what the leader sends next, so by the rules of later dialects the numbers don't fall.
abbrev pub counts_by : Dialect → ℤ → ℤ → Bool
counts_by Zk34 stored next = true
counts_by Zk38 stored next = int_lt stored next

-- The pzxid of a parent after a delete of a child.
abbrev pub pzxid_by : Dialect → ℤ → ℤ → ℤ
pzxid_by Zk34 stored zxid = zxid
pzxid_by Zk38 stored zxid = if int_lt stored zxid then zxid else stored

-- The session that owns an ephemeral node; 0 for any other node.
abbrev pub owner_of : TxnHeader → Owner → ℤ
owner_of header Client = header.client_id
owner_of header Nobody = pos 0
owner_of header Container = pos 0
owner_of header (Ttl milliseconds) = pos 0

-- The number of a container, and that of a time to live, whose milliseconds are the lower five bytes.
abbrev pub container_mark : ℤ
container_mark = negsuc (2 ^ 63 - 1)

abbrev pub ttl_mark : ℤ → ℤ
ttl_mark milliseconds = pos (cast_unsigned w64 milliseconds % 2 ^ 40) -ℤ pos (2 ^ 56)

-- The number that stands for the leader, where it deletes the node; 0 for any other node.
abbrev pub mark_of : Owner → ℤ
mark_of Container = container_mark
mark_of (Ttl milliseconds) = ttl_mark milliseconds
mark_of Nobody = pos 0
mark_of Client = pos 0

abbrev pub new_node : TxnHeader → Create → Node
new_node header create = record {
  bytes = create.bytes;
  acl = acl_or_open create.acl;
  stat = record {
    czxid = header.zxid;
    mzxid = header.zxid;
    ctime = header.time;
    mtime = header.time;
    version = pos 0;
    cversion = pos 0;
    aversion = pos 0;
    ephemeral_owner = owner_of header create.owner;
    pzxid = header.zxid;
  };
  mark = mark_of create.owner;
  children = set.empty;
}

abbrev pub with_data : TxnHeader → SetData → Node → Node
with_data header body node =
    record node
    { bytes = body.bytes; stat = record node.stat { version = body.version; mzxid = header.zxid; mtime = header.time } }

abbrev pub with_acl : SetAcl → Node → Node
with_acl body node = record node { acl = acl_or_open body.acl; stat = record node.stat { aversion = body.version } }

-- A node that came with an image, but without its access control list, has the empty one. It gets this list.
abbrev pub with_missing_acl : List Acl → Node → Node
with_missing_acl acl node = if length node.acl == 0 then record node { acl = acl } else node

-- A node that no transaction creates: empty data, the open access control list, all numbers 0.
abbrev pub preset_node : Names → Node
preset_node children = record {
  bytes = Some [];
  acl = open_acl;
  stat = record {
    czxid = pos 0;
    mzxid = pos 0;
    ctime = pos 0;
    mtime = pos 0;
    version = pos 0;
    cversion = pos 0;
    aversion = pos 0;
    ephemeral_owner = pos 0;
    pzxid = pos 0;
  };
  mark = pos 0;
  children = children;
}

-- A node that lists the name too.
abbrev pub with_name : Bytes → Node → Node
with_name name parent = record parent { children = set.insert parent.children name }

abbrev pub update_found : Nodes → Bytes → (Node → Node) → Option Node → Nodes
update_found nodes path f None = nodes
update_found nodes path f (Some node) = finmap.insert nodes path (f node)

-- The nodes with f applied to the node at the path, if there is one.
abbrev pub update_node : Nodes → Bytes → (Node → Node) → Nodes
update_node nodes path f = update_found nodes path f (finmap.get nodes path)

-- The nodes, with those of the entries in place of the nodes at the same paths.
abbrev pub with_entries : Nodes → List (Bytes × Node) → Nodes
with_entries nodes [] = nodes
with_entries nodes (e ∷ es) = finmap.insert (with_entries nodes es) e.0 e.1

-- The nodes with this one at the path, or with none there.
abbrev pub with_node_at : Bytes → Option Node → Nodes → Nodes
with_node_at path None nodes = finmap.remove nodes path
with_node_at path (Some node) nodes = finmap.insert nodes path node

-- At each path the nodes are as before the change, or as after it.
abbrev pub IsBetween : Nodes → Nodes → Nodes → Type 0
IsBetween before after nodes =
    (path : Bytes) → (finmap.get nodes path ≡ finmap.get before path) ⊎ (finmap.get nodes path ≡ finmap.get after path)
