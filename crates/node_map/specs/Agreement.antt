-- Nodes agree if their paths and names are valid, each name that a node lists has a node, each node but the root has a
-- parent that lists its name, and the pairs of sessions and paths are those of the owned nodes.
use Rattle.std.specs.Prelude.{◌≡◌, ℤ, pos, not, ◌&&◌, ◌==◌, Bool, true, false, Option, Some, None, is_some, if◌then◌else◌}
use Rattle.std.specs.Ordering.{int_eq}
use Rattle.std.specs.FinMap as finmap
use Rattle.std.specs.FinSet as set
use Rattle.std.specs.List.{list_any}
use Rattle.ephemerals.specs.Orders.{Bytes, Names, OwnerPairs}
use Rattle.paths_and_acls.specs.Paths.{is_name, is_path, is_root, parent_of, name_of, child_of}
use Rattle.node_map.specs.Nodes.{Nodes}
use Rattle.node_map.specs.declared.node.Node.{Node}

abbrev pub has_node : Nodes → Bytes → Bool
has_node nodes path = is_some (finmap.get nodes path)

abbrev pub is_listed : Bytes → Option Node → Bool
is_listed name None = false
is_listed name (Some node) = set.contains node.children name

-- Whether there is a node at the path that lists the name.
abbrev pub is_listed_at : Nodes → Bytes → Bytes → Bool
is_listed_at nodes path name = is_listed name (finmap.get nodes path)

-- The root has no parent, and any other node has one that lists its name.
abbrev pub has_parent : Nodes → Bytes → Bool
has_parent nodes path = if is_root path then true else is_listed_at nodes (parent_of path) (name_of path)

-- Whether the session owns the node; session 0 owns none.
abbrev pub is_owner : ℤ → Option Node → Bool
is_owner session None = false
is_owner session (Some node) = not (int_eq session (pos 0)) && int_eq node.stat.ephemeral_owner session

abbrev pub is_owner_at : Nodes → ℤ → Bytes → Bool
is_owner_at nodes session path = is_owner session (finmap.get nodes path)

-- Nodes and names agree.
pub record AreLinked (nodes : Nodes) : Type 0 where
  -- Each node but the root has a parent that lists its name.
  pub parents : (path : Bytes) → has_node nodes path ≡ true → has_parent nodes path ≡ true
  -- Each name that a node lists has a node.
  pub children : (path name : Bytes) → is_listed_at nodes path name ≡ true → has_node nodes (child_of path name) ≡ true

-- A name that may follow the last slash of a path: it isn't empty, and has no NUL and no slash.
abbrev pub is_child_name : Bytes → Bool
is_child_name name = is_name name && not (list_any (λ b. b == 0) name) && not (list_any (λ b. b == 47) name)

abbrev pub AreChildNames : Names → Type 0
AreChildNames names = (name : Bytes) → set.contains names name ≡ true → is_child_name name ≡ true

-- Each node is at a path, and lists names of children.
pub record AreNamed (nodes : Nodes) : Type 0 where
  pub paths : (path : Bytes) → has_node nodes path ≡ true → is_path path ≡ true
  pub names : (path name : Bytes) → is_listed_at nodes path name ≡ true → is_child_name name ≡ true

-- A session lists a path exactly if it owns the node there.
abbrev pub AreOwned : Nodes → OwnerPairs → Type 0
AreOwned nodes pairs = (session : ℤ) (path : Bytes)
    → set.contains pairs (session, path) ≡ is_owner_at nodes session path
