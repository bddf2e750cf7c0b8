use Rattle.std.proofs.Common.{◌≡◌, ◌||◌, drop}
use Rattle.std.specs.FinSet as set
use Rattle.ephemerals.specs.Orders.{Bytes}
use Rattle.data_tree.specs.Footprint.{has_path}
use Rattle.batcher.specs.Inner.Owners.{paths_of}
use Rattle.batcher.proofs.group.add_paths.Given as goal

abbrev pub invariant-loop-new : goal.invariant-loop-new
invariant-loop-new l =
    (q : Bytes) → (has_path (drop l.new-index (paths_of l.paths)) q || set.contains l.names q)
    ≡ (has_path (paths_of l.paths) q || set.contains l.fn.names q)
