use Rattle.std.proofs.Common.{◌≡◌, ◌++◌, ◌≤◌, length}
use Rattle.std.specs.Vec.{vec_capacity}
use Rattle.batcher.proofs.cutting.moved.Given as goal

abbrev pub invariant-loop : goal.invariant-loop
invariant-loop l =
    record {
      all : l.front.items ++ l.txns.items ≡ l.fn.txns.items;
      count : length l.front.items ≡ l.counter;
      room : l.count ≤ vec_capacity l.front;
    }
