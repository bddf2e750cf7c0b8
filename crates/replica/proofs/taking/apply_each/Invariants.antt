use Rattle.std.proofs.Common.{◌≡◌, drop}
use Rattle.data_tree.specs.Meaning.{state_after}
use Rattle.replica.proofs.taking.apply_each.Given as goal

abbrev pub invariant-loop-txn : goal.invariant-loop-txn
invariant-loop-txn l =
    record {
      base : l.based.base ≡ l.fn.based.base;
      tree : state_after l.based.tree (drop l.txn-index l.txns) ≡ state_after l.fn.based.tree l.txns;
    }
