use Rattle.std.proofs.Common.{◌≡◌, ◌++◌, map}
use Rattle.std.specs.Vec.Iter.{into_iter_items}
use Rattle.client_service.specs.Serve.{watch_row_of, watch_rows}
use Rattle.client_service.proofs.word.watch_rows.Given as goal

-- The rows so far, and those of the watches that are left, are all the rows.
abbrev pub invariant-loop-watched : goal.invariant-loop-watched
invariant-loop-watched l =
    (goal.iterator-loop-watched).can_next l.watched-iterator
    × (goal.iterator-loop-watched).is_finite l.watched-iterator
    × (l.rows.items ++ map (watch_row_of l.clients.sessions) (into_iter_items l.watched-iterator)
    ≡ watch_rows l.clients)
