use Rattle.std.proofs.Common.{◌≡◌, ◌++◌}
use Rattle.watch_manager.proofs.summary.in_order.Given as goal

abbrev pub invariant-loop-row : goal.invariant-loop-row
invariant-loop-row l =
    (goal.iterator-loop-row).can_next l.row-iterator
    × (goal.iterator-loop-row).is_finite l.row-iterator
    × (l.listed.items ++ l.row-iterator ≡ l.fn.rows.keys)
