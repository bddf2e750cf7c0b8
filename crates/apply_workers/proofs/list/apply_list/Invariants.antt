use Rattle.std.proofs.Common.{length, []}
use Rattle.apply_workers.specs.Inner.{IsNextBatch}
use Rattle.apply_workers.proofs.AppendedLists.{IsOnTheWay}
use Rattle.apply_workers.proofs.list.apply_list.Given as goal

abbrev pub invariant-loop-rest : goal.invariant-loop-rest
invariant-loop-rest g l = record {
  applied : IsOnTheWay l.fn.tree l.txns [] l.tree l.rest l.outcomes.items;
  next : IsNextBatch l.limits l.next l.rest;
}

abbrev pub decreases-loop-rest : goal.decreases-loop-rest
decreases-loop-rest g l = length l.rest
