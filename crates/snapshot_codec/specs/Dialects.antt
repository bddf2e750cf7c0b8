-- What the images of later leaders have that those of ZooKeeper 3.4 haven't: owners that are no sessions; and, where an
-- image was written while the leader went on, nodes without their access control list.
use Rattle.std.specs.Prelude.{◌≡◌, ℤ, pos, negsuc, ◌-◌, ◌^◌, Bool, false, not, ◌&&◌, ◌||◌, ◌==◌, List, [], Option, Some, None, int_lt, if◌then◌else◌}
use Rattle.std.specs.FinMap as finmap
use Rattle.std.specs.Ordering.{int_eq}
use Rattle.settings.specs.declared.dialect.Dialect.{Dialect}
use Rattle.settings.specs.declared.dialect.Dialect.TheVariants.{Zk34, Zk38}
use Rattle.jute.specs.declared.owned.Acl.{Acl}
use Rattle.jute.specs.declared.stat.StatPersisted.{StatPersisted}
use Rattle.node_map.specs.Nodes.{Nodes}
use Rattle.node_map.specs.Updates.{container_mark}
use Rattle.node_map.specs.declared.node.Node.{Node}

-- ---- owners

-- The number of a time to live: its three upper bytes are ff0000.
abbrev pub is_ttl_mark : ℤ → Bool
is_ttl_mark owner = not (int_lt owner (negsuc (2 ^ 56 - 1))) && int_lt owner (negsuc (2 ^ 56 - 2 ^ 40 - 1))

-- Whether the owner of a node in an image is no session: the leader deletes the node by itself.
abbrev pub is_mark_in : Dialect → ℤ → Bool
is_mark_in Zk34 owner = false
is_mark_in Zk38 owner = int_eq owner container_mark || is_ttl_mark owner

-- The session that owns a node, and the number of a node that the leader deletes, by the owner in an image.
abbrev pub owning_session : Dialect → ℤ → ℤ
owning_session dialect owner = if is_mark_in dialect owner then pos 0 else owner

abbrev pub mark_in : Dialect → ℤ → ℤ
mark_in dialect owner = if is_mark_in dialect owner then owner else pos 0

abbrev pub loaded_stat : Dialect → StatPersisted → StatPersisted
loaded_stat dialect stat = record stat { ephemeral_owner = owning_session dialect stat.ephemeral_owner }

-- The owner that is written, and the stat with it.
abbrev pub stored_owner : Node → ℤ
stored_owner node = if int_eq node.mark (pos 0) then node.stat.ephemeral_owner else node.mark

abbrev pub stored_stat : Node → StatPersisted
stored_stat node = record node.stat { ephemeral_owner = stored_owner node }

-- The owner that is written is read back.
pub record KeepsOwner (dialect : Dialect) (node : Node) : Type 0 where
  pub session : owning_session dialect (stored_owner node) ≡ node.stat.ephemeral_owner
  pub mark : mark_in dialect (stored_owner node) ≡ node.mark

-- ---- lists

-- A node whose list isn't there has the empty one for now, which grants nothing. The create that comes again brings it.
abbrev pub or_missing : Dialect → Option (List Acl) → Option (List Acl)
or_missing Zk34 list = list
or_missing Zk38 None = Some []
or_missing Zk38 (Some list) = Some list

-- A list may come late, by whether there is no node yet: it might be that of a node.
abbrev pub is_late : Dialect → Bool → Bool
is_late Zk34 none = false
is_late Zk38 none = not none

abbrev pub comes_late : Dialect → Nodes → Bool
comes_late dialect nodes = is_late dialect (finmap.len nodes == 0)
