use Rattle.std.proofs.Common.{◌≡◌, length, drop}
use Rattle.std.specs.Vec.Iter.{into_iter_items, into_iter_len}
use Rattle.apply_workers.specs.Inner.{put_at}
use Rattle.apply_workers.proofs.home.put_at.Given as goal

abbrev pub invariant-loop-place : goal.invariant-loop-place
invariant-loop-place l =
    record {
      placed : put_at l.all.items (drop l.place-index l.places) (into_iter_items l.outcomes)
          ≡ put_at l.fn.all.items l.places l.fn.share;
      count : length l.all.items ≡ length l.fn.all.items;
      len : into_iter_len l.outcomes ≡ length (into_iter_items l.outcomes);
    }
