use Rattle.std.proofs.Common.{◌≡◌, length}
use Rattle.std.specs.Vec.Iter.{into_iter_items, into_iter_len}
use Rattle.apply_workers.proofs.Shown.{FinishedTo}
use Rattle.apply_workers.proofs.groups.finish_each.Given as goal

abbrev pub invariant-loop-hand : goal.invariant-loop-hand
invariant-loop-hand l =
    record {
      finished : FinishedTo l.txns l.groups l.fn.hands.items (length l.cells.items) (into_iter_items l.hand-iterator)
          l.cells.items l.outcomes.items;
      len : into_iter_len l.hand-iterator ≡ length (into_iter_items l.hand-iterator);
    }
