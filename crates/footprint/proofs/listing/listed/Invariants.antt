use Rattle.std.proofs.Common.{◌≡◌, ◌++◌, length}
use Rattle.ephemerals.specs.Orders.{sorted_names}
use Rattle.footprint.proofs.listing.listed.Given as goal

abbrev pub invariant-loop-path : goal.invariant-loop-path
invariant-loop-path l = l.list.items ++ sorted_names l.left ≡ sorted_names l.fn.paths

abbrev pub decreases-loop-path : goal.decreases-loop-path
decreases-loop-path l = length (sorted_names l.left)
