use Rattle.data_tree.proofs.Multis.{IsMidway}
use Rattle.data_tree.proofs.tree.Tree.operate_all.Given as goal

abbrev pub invariant-loop-part : goal.invariant-loop-part
invariant-loop-part l = IsMidway l.header l.parts l.part-index l.fn.self l.self l.results.items l.triggers.items
