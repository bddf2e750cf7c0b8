use Rattle.std.proofs.Common.{◌≡◌, ◌++◌, length}
use Rattle.std.specs.Vec.Iter.{into_iter_items, into_iter_len}
use Rattle.apply_workers.specs.Inner.{finished_groups}
use Rattle.apply_workers.proofs.home.all_done.Given as goal

abbrev pub invariant-loop-group : goal.invariant-loop-group
invariant-loop-group l =
    record {
      homes : finished_groups l.cells.items l.outcomes.items ++ into_iter_items l.group-iterator ≡ l.fn.groups.items;
      count : length l.cells.items ≡ length l.outcomes.items;
      len : into_iter_len l.group-iterator ≡ length (into_iter_items l.group-iterator);
    }
