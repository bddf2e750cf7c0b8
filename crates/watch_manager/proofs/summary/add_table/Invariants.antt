use Rattle.watch_manager.proofs.Listing.{Adding}
use Rattle.watch_manager.proofs.summary.add_table.Given as goal

abbrev pub invariant-loop-connection : goal.invariant-loop-connection
invariant-loop-connection l =
    (goal.iterator-loop-connection).can_next l.connection-iterator
    × (goal.iterator-loop-connection).is_finite l.connection-iterator
    × Adding l.table l.watches l.fn.rows.keys l.rows.keys l.connection-iterator
