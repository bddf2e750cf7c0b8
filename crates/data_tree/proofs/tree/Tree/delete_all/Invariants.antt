use Rattle.std.proofs.Common.{length}
use Rattle.ephemerals.specs.Orders.{sorted_names}
use Rattle.data_tree.proofs.Multis.{IsClosing}
use Rattle.data_tree.proofs.tree.Tree.delete_all.Given as goal

abbrev pub invariant-loop-path : goal.invariant-loop-path
invariant-loop-path l = IsClosing l.header l.fn.paths l.left l.fn.self l.self l.fn.triggers.items l.triggers.items

abbrev pub decreases-loop-path : goal.decreases-loop-path
decreases-loop-path l = length (sorted_names l.left)
