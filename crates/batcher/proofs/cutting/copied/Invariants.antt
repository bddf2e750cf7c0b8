use Rattle.std.proofs.Common.{◌≡◌, ◌++◌, drop}
use Rattle.batcher.proofs.cutting.copied.Given as goal

abbrev pub invariant-loop-txn : goal.invariant-loop-txn
invariant-loop-txn l = l.copies.items ++ drop l.txn-index l.txns ≡ l.txns
