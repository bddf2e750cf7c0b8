use Rattle.snapshot_codec.specs.Writes.{shown_rows}
use Rattle.snapshot_codec.proofs.DepthFirst.{SoFar}
use Rattle.snapshot_codec.proofs.depth_first.depth_first.Given as goal

abbrev pub invariant-loop-path : goal.invariant-loop-path
invariant-loop-path l =
    (goal.iterator-loop-path).can_next l.path-iterator
    × (goal.iterator-loop-path).is_finite l.path-iterator
    × SoFar l.tree.nodes (shown_rows l.rows.entries) l.path-iterator
