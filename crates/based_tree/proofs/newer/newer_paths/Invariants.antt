use Rattle.based_tree.proofs.EachNode.{NewerLeft}
use Rattle.based_tree.proofs.newer.newer_paths.Given as goal

abbrev pub invariant-loop-path : goal.invariant-loop-path
invariant-loop-path l =
    (goal.iterator-loop-path).can_next l.path-iterator
    × (goal.iterator-loop-path).is_finite l.path-iterator
    × NewerLeft l.zxid l.tree l.paths.items l.path-iterator
