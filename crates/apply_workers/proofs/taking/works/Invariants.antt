use Rattle.std.proofs.Common.{◌≡◌, ◌++◌, map, length, drop}
use Rattle.std.specs.Vec.Iter.{into_iter_items, into_iter_len}
use Rattle.batcher.specs.Cut.{groups_of}
use Rattle.apply_workers.specs.Homing.{split_by_group}
use Rattle.apply_workers.specs.Works.{cells_of, txns_of}
use Rattle.apply_workers.proofs.taking.works.Given as goal

abbrev pub invariant-loop-cells : goal.invariant-loop-cells
invariant-loop-cells l =
    record {
      cells : map cells_of l.works.items ++ into_iter_items l.cells-iterator ≡ l.fn.cells.items;
      txns : map txns_of l.works.items ++ split_by_group l.batch (drop (length l.works.items) l.groups)
          ≡ split_by_group l.batch (groups_of l.batch);
      len : into_iter_len l.cells-iterator ≡ length (into_iter_items l.cells-iterator);
      groups : l.groups ≡ groups_of l.batch;
    }
