-- The state of the data tree.
use Rattle.std.specs.Prelude.{refl}
use Rattle.std.specs.Coded.{Coded, code_by, coded×, coded_ℕ, coded_ℤ, coded_list}
use Rattle.std.specs.FinMap as finmap
use Rattle.std.specs.FinSet as set
use Rattle.std.specs.Ordering.{int_cmp}
use Rattle.ephemerals.specs.Orders.{OwnerPairs, path_cmp, pair_cmp}
pub use Rattle.node_map.specs.Nodes.{Nodes}
pub use Rattle.data_tree.specs.Sessions.{SessionTimeouts}
use Rattle.node_map.specs.declared.node.Node.{Node}

-- The nodes by path, the ephemerals as pairs of a session and a path, and the timeout of each session.
pub record State : Type 0 where
  pub nodes : Nodes
  pub pairs : OwnerPairs
  pub sessions : SessionTimeouts

abbrev pub state_code : Coded Node → Coded State
state_code node =
    code_by (Nodes × (OwnerPairs × SessionTimeouts))
    (coded× (finmap.code {R = path_cmp} (coded_list coded_ℕ) node)
    (coded× (set.code {R = pair_cmp} (coded× coded_ℤ (coded_list coded_ℕ)))
    (finmap.code {R = int_cmp} coded_ℤ coded_ℤ)))
    (λ s. (s.nodes, (s.pairs, s.sessions))) (λ p. record { nodes = p.0; pairs = p.1.0; sessions = p.1.1 }) (λ _. refl)
