use Rattle.std.proofs.Common.{◌≡◌, ◌++◌, ℕ, not}
use Rattle.std.specs.List.{filter}
use Rattle.std.specs.FinSet as set
use Rattle.watch_manager.specs.Watches.{events_for, connections_not_told}
use Rattle.watch_manager.proofs.telling.tell_others.Given as goal

abbrev pub invariant-loop-connection : goal.invariant-loop-connection
invariant-loop-connection l =
    (goal.iterator-loop-connection).can_next l.connection-iterator
    × (goal.iterator-loop-connection).is_finite l.connection-iterator
    × (l.events.items ++ events_for l.kind l.path
    (filter (λ (c : ℕ). not (set.contains (set.union l.watchers l.lasting) c)) l.connection-iterator)
    ≡ l.fn.events.items ++ events_for l.kind l.path (connections_not_told (set.union l.watchers l.lasting) l.conns))
