use Rattle.std.proofs.Common.{◌≡◌, ◌++◌}
use Rattle.watch_manager.specs.Pairs.{sorted_connections}
use Rattle.watch_manager.specs.Watches.{events_for}
use Rattle.watch_manager.proofs.telling.tell_each.Given as goal

abbrev pub invariant-loop-connection : goal.invariant-loop-connection
invariant-loop-connection l =
    (goal.iterator-loop-connection).can_next l.connection-iterator
    × (goal.iterator-loop-connection).is_finite l.connection-iterator
    × (l.events.items ++ events_for l.kind l.path l.connection-iterator ≡ l.fn.events.items
    ++ events_for l.kind l.path (sorted_connections l.conns))
