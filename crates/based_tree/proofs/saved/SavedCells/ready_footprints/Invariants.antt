use Rattle.std.proofs.Common.{drop}
use Rattle.based_tree.specs.declared.saved.SavedCells.{SavedCells}
use Rattle.based_tree.specs.Inner.{SavesMore, IsReadyForEach}
use Rattle.based_tree.proofs.saved.SavedCells.ready_footprints.Given as goal

abbrev pub invariant-loop-txn : goal.invariant-loop-txn
invariant-loop-txn l =
    record {
      more : SavesMore l.tree l.fn.self l.self;
      ready : (s : SavedCells) → SavesMore l.tree l.self s → IsReadyForEach (drop l.txn-index l.txns) s l.tree
          → IsReadyForEach l.txns s l.tree;
    }
