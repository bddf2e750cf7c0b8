-- Images that were worked out by hand: their bytes, the order of the nodes, and the keys of the lists.
use Rattle.std.specs.Prelude.{◌≡◌, ℕ, ℤ, pos, negsuc, List, [], ◌∷◌, ◌++◌, map, codes}
use Rattle.std.specs.FinMap as finmap
use Rattle.std.specs.FinSet as set
use Rattle.values.specs.Hex.{hex_bytes}
use Rattle.ephemerals.specs.Orders.{Bytes}
use Rattle.jute.specs.Codes.{open_acl}
use Rattle.jute.specs.declared.owned.Acl.{Acl}
use Rattle.node_map.specs.Updates.{preset_node}
use Rattle.node_map.specs.Nodes.{Nodes}
use Rattle.node_map.specs.declared.node.Node.{Node}
use Rattle.data_tree.specs.Making.{with_session}
use Rattle.data_tree.specs.Meaning.{fresh_state}
use Rattle.snapshot_codec.specs.Image.{image_format}
use Rattle.snapshot_codec.specs.Written.{walk_of, lists_of, key_of}

-- ---- the fresh tree

-- Empty data, the open list, and a stat of 60 zero bytes.
abbrev pub bare_node_bytes : List ℕ
bare_node_bytes =
    hex_bytes (codes "00000000 ffffffffffffffff 0000000000000000 0000000000000000 0000000000000000 0000000000000000"
    ++ codes " 00000000 00000000 00000000 0000000000000000 0000000000000000")

abbrev pub fresh_nodes : List ℕ
fresh_nodes =
    hex_bytes (codes "00000000") ++ (bare_node_bytes
    ++ (hex_bytes (codes "0000000a 2f7a6f6f6b6565706572") ++ (bare_node_bytes
    ++ (hex_bytes (codes "00000010 2f7a6f6f6b65657065722f71756f7461") ++ (bare_node_bytes
    ++ hex_bytes (codes "00000001 2f 0000000a 42656e57617348657265"))))))

-- 281 bytes.
abbrev pub fresh_image : List ℕ
fresh_image = hex_bytes (codes "00000000 00000000") ++ fresh_nodes

-- The same with session 9 and its timeout of 5 seconds: 293 bytes.
abbrev pub session_image : List ℕ
session_image = hex_bytes (codes "00000001 0000000000000009 00001388 00000000") ++ fresh_nodes

-- ---- a tree with a name that has a byte below the slash, and with lists that are used twice

abbrev pub world_acl : ℤ → List Acl
world_acl perms = record { perms = perms; id = record { scheme = codes "world"; id = codes "anyone" } } ∷ []

abbrev pub node_with_acl : List Acl → Node
node_with_acl acl = record (preset_node set.empty) { acl = acl }

-- The nodes, inserted in another order.
abbrev pub some_nodes : Nodes
some_nodes =
    finmap.insert (finmap.insert (finmap.insert (finmap.insert (finmap.insert finmap.empty
    (codes "/a/b") (node_with_acl (world_acl (pos 1))))
    (codes "/b") (node_with_acl (world_acl (pos 3))))
    (codes "/a-b") (node_with_acl open_acl))
    (codes "/a") (node_with_acl (world_acl (pos 3))))
    (codes "/") (node_with_acl open_acl)

pub record WorkedImages : Type 0 where
  pub fresh_tree : image_format.written fresh_state ≡ fresh_image
  pub a_session : image_format.written (with_session fresh_state (pos 9) (pos 5000)) ≡ session_image
  -- Everything below a node comes before the next node.
  pub order :
      map (λ (e : Bytes × Node). e.0) (walk_of some_nodes)
      ≡ codes "/" ∷ codes "/a" ∷ codes "/a/b" ∷ codes "/a-b" ∷ codes "/b" ∷ []
  -- The list of /a and /b is used first.
  pub keys : lists_of some_nodes ≡ (pos 1, world_acl (pos 3)) ∷ (pos 2, world_acl (pos 1)) ∷ []
  pub open_key : key_of (lists_of some_nodes) open_acl ≡ negsuc 0
