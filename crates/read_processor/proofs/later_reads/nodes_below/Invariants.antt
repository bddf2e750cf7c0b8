use Rattle.std.proofs.Common.{◌≡◌, ◌+◌, ◌%◌, ◌^◌}
use Rattle.std.specs.List.{count_by}
use Rattle.std.specs.Map.{keys_of}
use Rattle.read_processor.specs.LaterReads.{is_below, nodes_below}
use Rattle.read_processor.proofs.later_reads.nodes_below.Given as goal

abbrev pub invariant-loop-other : goal.invariant-loop-other
invariant-loop-other l =
    (goal.iterator-loop-other).can_next l.other-iterator
    × (goal.iterator-loop-other).is_finite l.other-iterator
    × ((l.count + count_by (is_below l.path) (keys_of l.other-iterator)) % 2 ^ 32
    ≡ nodes_below l.tree l.path % 2 ^ 32)
