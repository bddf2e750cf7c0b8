-- The notification of an event (WatcherEvent of zookeeper.jute).
use Rattle.std.specs.Prelude.{ℕ, List, Some}
use Rattle.client_records.specs.Responses.{watcher_event}
use Rattle.client_records.specs.declared.codes.TheConstants.{SYNC_CONNECTED}
use Rattle.watch_manager.specs.Events.{event_number}
use Rattle.watch_manager.specs.declared.event.Event.{Event}
use Rattle.read_processor.specs.declared.shown.Look.{Look}
use Rattle.read_processor.specs.Look.{shown_look}

-- The kind of the event, the state "connected", and the path that the client watches.
abbrev pub event_body : Event → List ℕ
event_body event =
    watcher_event.written
    (record { kind = event_number event.kind; state = SYNC_CONNECTED; path = Some event.path })

abbrev pub look_of_event : Event → Look
look_of_event event = shown_look (event_body event)
