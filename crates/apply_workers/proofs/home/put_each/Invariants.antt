use Rattle.std.proofs.Common.{◌≡◌, length}
use Rattle.std.specs.Vec.Iter.{into_iter_items, into_iter_len}
use Rattle.apply_workers.specs.Homing.{with_all_cells}
use Rattle.apply_workers.proofs.home.put_each.Given as goal

abbrev pub invariant-loop-cells : goal.invariant-loop-cells
invariant-loop-cells l =
    record {
      tree : with_all_cells (into_iter_items l.cells-iterator) l.tree ≡ with_all_cells l.fn.each.items l.fn.tree;
      len : into_iter_len l.cells-iterator ≡ length (into_iter_items l.cells-iterator);
    }
