use Rattle.std.proofs.Common.{◌≡◌, ◌++◌, take}
use Rattle.std.specs.List.{flat_map}
use Rattle.server_metrics.specs.Metrics.{bucket_line}
use Rattle.server_metrics.proofs.texts.put_buckets.Given as goal

-- The lines of the buckets up to the place.
abbrev pub invariant-loop-bucket : goal.invariant-loop-bucket
invariant-loop-bucket l =
    l.out.items ≡ l.fn.out.items ++ flat_map (bucket_line l.name) (take l.bucket-index l.buckets)
