use Rattle.std.proofs.Common.{◌≡◌, ◌++◌, ◌+◌, ◌≤◌, map, length}
use Rattle.std.specs.Vec.{vec_capacity}
use Rattle.std.specs.Vec.Iter.{into_iter_items, into_iter_len}
use Rattle.apply_workers.specs.Hands.{unclaimed_group}
use Rattle.apply_workers.proofs.groups.waiting.Given as goal

abbrev pub invariant-loop-cells : goal.invariant-loop-cells
invariant-loop-cells l =
    record {
      hands : l.hands.items ++ map unclaimed_group (into_iter_items l.cells-iterator)
          ≡ map unclaimed_group l.fn.each.items;
      len : into_iter_len l.cells-iterator ≡ length (into_iter_items l.cells-iterator);
      room : length l.hands.items + length (into_iter_items l.cells-iterator) ≤ vec_capacity l.hands;
    }
