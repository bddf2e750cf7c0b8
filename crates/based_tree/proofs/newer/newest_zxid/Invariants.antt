use Rattle.based_tree.proofs.EachNode.{NoneNewer}
use Rattle.based_tree.proofs.newer.newest_zxid.Given as goal

abbrev pub invariant-loop-node : goal.invariant-loop-node
invariant-loop-node l =
    (goal.iterator-loop-node).can_next l.node-iterator
    × (goal.iterator-loop-node).is_finite l.node-iterator
    × NoneNewer l.newest l.tree l.node-iterator
