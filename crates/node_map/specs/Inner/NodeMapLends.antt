-- What a node that is borrowed mutably leaves.
use Rattle.std.specs.Prelude.{List, ℕ, ◌≡◌, Option, OnSome}
use Rattle.std.specs.Borrow.{LendsSo, MutBor, Fml}
use Rattle.std.specs.FinMap as finmap
use Rattle.node_map.specs.Nodes.{Nodes}
use Rattle.node_map.specs.declared.node.Node.{Node}
use Rattle.node_map.specs.contracts.node_map.NodeMap as nodes
use Rattle.node_map.specs.contracts.node.Node as node

-- The final node of the borrow is at the path.
abbrev pub LendsNode : MutBor Nodes → List ℕ → Option (MutBor Node) → Fml
LendsNode m path r =
    LendsSo nodes.the_row node.the_row m r (λ n w. OnSome r (n ≡ finmap.insert m.now path w)) (λ n. n ≡ m.now)
