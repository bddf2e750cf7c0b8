use Rattle.std.proofs.Common.{◌≡◌, ◌++◌, drop}
use Rattle.data_tree.specs.Meaning.{state_after, outcomes_of_txns}
use Rattle.based_tree.proofs.based_tree.BasedTree.apply_each.Given as goal

abbrev pub invariant-loop-txn : goal.invariant-loop-txn
invariant-loop-txn l =
    record {
      base : l.self.base ≡ l.fn.self.base;
      state : state_after l.self.tree (drop l.txn-index l.txns) ≡ state_after l.fn.self.tree l.txns;
      outcomes : l.outcomes.items ++ outcomes_of_txns l.self.tree (drop l.txn-index l.txns)
          ≡ outcomes_of_txns l.fn.self.tree l.txns;
    }
