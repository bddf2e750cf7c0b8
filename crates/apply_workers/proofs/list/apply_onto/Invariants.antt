use Rattle.std.proofs.Common.{◌≡◌, ◌++◌, drop}
use Rattle.data_tree.specs.Meaning.{state_after, outcomes_of_txns}
use Rattle.apply_workers.proofs.list.apply_onto.Given as goal

abbrev pub invariant-loop-txn : goal.invariant-loop-txn
invariant-loop-txn l =
    record {
      tree : state_after l.tree (drop l.txn-index l.txns) ≡ state_after l.fn.tree l.txns;
      answers : l.outcomes.items ++ outcomes_of_txns l.tree (drop l.txn-index l.txns)
          ≡ l.fn.outcomes.items ++ outcomes_of_txns l.fn.tree l.txns;
    }
