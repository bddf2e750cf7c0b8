-- The walk over the nodes: each node occurs once, and everything below a node comes directly after it.
use Rattle.std.specs.Prelude.{◌≡◌, List, ◌∷◌, ◌++◌, map}
use Rattle.std.specs.FinMap as finmap
use Rattle.std.specs.FinMap.{find}
use Rattle.std.specs.List.Sorted.{IsStrictlySortedBy}
use Rattle.ephemerals.specs.Orders.{Bytes, path_cmp}
use Rattle.node_map.specs.Nodes.{Nodes}
use Rattle.node_map.specs.declared.node.Node.{Node}
use Rattle.snapshot_codec.specs.Written.{walk_cmp}

-- Every node but "/" is also below "/".
abbrev pub IsBelow : Bytes → Bytes → Type 0
IsBelow path other = (names : Bytes) × (other ≡ path ++ 47 ∷ names)

pub record IsWalk (nodes : Nodes) (walked : List (Bytes × Node)) : Type 0 where
  -- The walk has at each path the node there.
  pub nodes_found : (path : Bytes) → find path_cmp path walked ≡ finmap.get nodes path
  -- Each path occurs once, and a parent before its children.
  pub ascends : IsStrictlySortedBy walk_cmp (map (λ (e : Bytes × Node). e.0) walked)
  -- Everything between a node and one below it is below it, too.
  pub together : (before between behind rest : List (Bytes × Node)) (x y z : Bytes × Node)
      → walked ≡ before ++ x ∷ (between ++ y ∷ (behind ++ z ∷ rest)) → IsBelow x.0 z.0 → IsBelow x.0 y.0
