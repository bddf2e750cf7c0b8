use Rattle.std.proofs.Common.{◌≡◌, length, drop}
use Rattle.std.specs.Vec.Iter.{into_iter_items, into_iter_len}
use Rattle.batcher.specs.Cut.{groups_of}
use Rattle.apply_workers.specs.Inner.{put_each_at}
use Rattle.apply_workers.proofs.home.in_order.Given as goal

abbrev pub invariant-loop-group : goal.invariant-loop-group
invariant-loop-group l =
    record {
      placed : put_each_at l.all.items (drop l.group-index (groups_of l.batch)) (into_iter_items l.rest)
          ≡ put_each_at l.initial.all.items (groups_of l.batch) l.fn.shares.items;
      count : length l.all.items ≡ length l.batch;
      len : into_iter_len l.rest ≡ length (into_iter_items l.rest);
    }
