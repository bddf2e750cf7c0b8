-- The numbers of the events (WatcherEvent of zookeeper.jute).
use Rattle.std.specs.Prelude.{ℤ, pos}
use Rattle.watch_manager.specs.declared.event.EventKind.{EventKind}
use Rattle.watch_manager.specs.declared.event.EventKind.TheVariants.{NodeCreated, NodeDeleted, NodeDataChanged, NodeChildrenChanged}

abbrev pub event_number : EventKind → ℤ
event_number NodeCreated = pos 1
event_number NodeDeleted = pos 2
event_number NodeDataChanged = pos 3
event_number NodeChildrenChanged = pos 4
