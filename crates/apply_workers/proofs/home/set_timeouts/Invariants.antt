use Rattle.std.proofs.Common.{◌≡◌, drop}
use Rattle.apply_workers.specs.Homing.{with_timeouts_set}
use Rattle.apply_workers.proofs.home.set_timeouts.Given as goal

abbrev pub invariant-loop-txn : goal.invariant-loop-txn
invariant-loop-txn l = with_timeouts_set (drop l.txn-index l.txns) l.tree ≡ with_timeouts_set l.txns l.fn.tree
