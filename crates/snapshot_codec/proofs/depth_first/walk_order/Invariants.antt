use Rattle.std.proofs.Common.{◌≡◌, drop}
use Rattle.std.specs.Slice.Iter.{iter_rest}
use Rattle.snapshot_codec.specs.Written.{walk_cmp}
use Rattle.snapshot_codec.proofs.depth_first.walk_order.Given as goal

abbrev pub invariant-loop-byte : goal.invariant-loop-byte
invariant-loop-byte l = walk_cmp (drop l.byte-index l.left) (iter_rest l.others) ≡ walk_cmp l.left l.right
