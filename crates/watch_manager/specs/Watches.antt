-- The events that watchers get, and the watches that this uses up (ZooKeeper Programmer's Guide, "Watches").
use Rattle.std.specs.Prelude.{ℕ, List, [], ◌∷◌, ◌++◌, not, map}
use Rattle.std.specs.List.{filter}
use Rattle.std.specs.FinSet as set
use Rattle.ephemerals.specs.Orders.{Bytes}
use Rattle.data_tree.specs.declared.outcome.Trigger.{Trigger}
use Rattle.data_tree.specs.declared.outcome.Trigger.TheVariants.{Created, Deleted, DataChanged, ChildrenChanged}
use Rattle.watch_manager.specs.Pairs.{ConnectionSet, sorted_connections, watchers_of, without_watches_on}
use Rattle.watch_manager.specs.Lasting.{persistent_watchers, lasting_watchers}
use Rattle.watch_manager.specs.Watching.{WatchTables}
use Rattle.watch_manager.specs.declared.event.Event.{Event}
use Rattle.watch_manager.specs.declared.event.EventKind.{EventKind}
use Rattle.watch_manager.specs.declared.event.EventKind.TheVariants.{NodeCreated, NodeDeleted, NodeDataChanged, NodeChildrenChanged}

abbrev pub event_for : ℕ → EventKind → Bytes → ℕ × Event
event_for connection kind path = (connection, record { kind = kind; path = path })

-- Each of the connections gets an event of this kind at the path.
abbrev pub events_for : EventKind → Bytes → List ℕ → List (ℕ × Event)
events_for kind path conns = map (λ (connection : ℕ). event_for connection kind path) conns

-- In ascending order of their numbers, without those that got the event already.
abbrev pub connections_not_told : ConnectionSet → ConnectionSet → List ℕ
connections_not_told already conns = filter (λ (connection : ℕ). not (set.contains already connection))
    (sorted_connections conns)

-- The connections that are told that the node was created, changed or deleted.
abbrev pub node_watchers : Bytes → WatchTables → ConnectionSet
node_watchers path w = set.union (watchers_of path w.data_watches) (lasting_watchers path w.lasting)

-- The connections that are told that the children changed: a recursive watch isn't told of it.
abbrev pub children_watchers : Bytes → WatchTables → ConnectionSet
children_watchers path w = set.union (watchers_of path w.child) (persistent_watchers path w.lasting)

-- The events of a trigger for its watchers.
abbrev pub events_of_trigger : WatchTables → Trigger → List (ℕ × Event)
events_of_trigger w (Created path) = events_for NodeCreated path (sorted_connections (node_watchers path w))
events_of_trigger w (Deleted path) =
    events_for NodeDeleted path (sorted_connections (node_watchers path w))
    ++ events_for NodeDeleted path (connections_not_told (node_watchers path w) (watchers_of path w.child))
events_of_trigger w (DataChanged path) = events_for NodeDataChanged path (sorted_connections (node_watchers path w))
events_of_trigger w (ChildrenChanged path) =
    events_for NodeChildrenChanged path (sorted_connections (children_watchers path w))

-- The watches after a trigger. Data and child watches on which it fires are used up, even where the connection has got
-- the event already.
abbrev pub watches_after : WatchTables → Trigger → WatchTables
watches_after w (Created path) = record w { data_watches = without_watches_on path w.data_watches }
watches_after w (Deleted path) =
    record w { data_watches = without_watches_on path w.data_watches; child = without_watches_on path w.child }
watches_after w (DataChanged path) = record w { data_watches = without_watches_on path w.data_watches }
watches_after w (ChildrenChanged path) = record w { child = without_watches_on path w.child }

-- Connections with their events, in order, and the watches left.
pub record FireResult : Type 0 where
  pub events : List (ℕ × Event)
  pub left : WatchTables

-- The triggers one after the other.
abbrev pub fire : WatchTables → List Trigger → FireResult
fire w [] = record { events = []; left = w }
fire w (trigger ∷ triggers) =
    let rest = fire (watches_after w trigger) triggers in
    record { events = events_of_trigger w trigger ++ rest.events; left = rest.left }
