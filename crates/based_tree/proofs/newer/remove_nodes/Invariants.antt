use Rattle.std.proofs.Common.{◌≡◌, drop}
use Rattle.based_tree.specs.Inner.{without_nodes_at}
use Rattle.based_tree.proofs.newer.remove_nodes.Given as goal

abbrev pub invariant-loop-path : goal.invariant-loop-path
invariant-loop-path l = without_nodes_at (drop l.path-index l.paths) l.tree ≡ without_nodes_at l.paths l.fn.tree
