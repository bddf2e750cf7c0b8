-- The order of the walk is total.
use Rattle.std.specs.Cmp.{IsTotalOrder, on_total, nat_cmp_total}
use Rattle.std.specs.Cmp.Lexicographic.{lists_total}
use Rattle.ephemerals.specs.Orders.{Bytes}
use Rattle.snapshot_codec.specs.Written.{byte_rank, walk_cmp}

-- Values with a path, ordered by their paths.
pub walk_total_on : {P : Type 0} (path : P → Bytes) → IsTotalOrder (λ x y. walk_cmp (path x) (path y))
walk_total_on path = on_total path (lists_total (on_total byte_rank nat_cmp_total))
