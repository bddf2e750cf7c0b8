-- A tree is whole if its paths and names are valid, and its nodes, the names that they list, and the pairs of sessions
-- and paths agree.
use Rattle.std.specs.Prelude.{◌≡◌, true, codes}
use Rattle.node_map.specs.Agreement.{has_node, AreLinked, AreNamed, AreOwned}
use Rattle.data_tree.specs.State.{State}

pub record IsWhole (s : State) : Type 0 where
  pub root : has_node s.nodes (codes "/") ≡ true
  pub named : AreNamed s.nodes
  pub links : AreLinked s.nodes
  pub owners : AreOwned s.nodes s.pairs
