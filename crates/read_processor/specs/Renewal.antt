-- The answers to a SetWatches and a SetWatches2 of zookeeper.jute. A client that reconnects lists the paths that it
-- watched on an older connection, and names the last zxid that it has seen.
use Rattle.std.specs.Prelude.{ℕ, ℤ, List, ◌++◌, Option, Some, None, Bool, ◌&&◌, ◌||◌, is_some, int_lt, if◌then◌else◌, map}
use Rattle.std.specs.List.{filter_map, list_all}
use Rattle.std.specs.Option.{option_map}
use Rattle.std.specs.FinMap as finmap
use Rattle.settings.specs.Dialects.{reads_of}
use Rattle.settings.specs.declared.dialect.Dialect.{Dialect}
use Rattle.client_records.specs.declared.request.SetWatches.{SetWatches}
use Rattle.client_records.specs.declared.request.SetWatches2.{SetWatches2}
use Rattle.node_map.specs.declared.node.Node.{Node}
use Rattle.data_tree.specs.State.{State}
use Rattle.watch_manager.specs.declared.event.Event.{Event}
use Rattle.watch_manager.specs.declared.event.EventKind.{EventKind}
use Rattle.watch_manager.specs.declared.event.EventKind.TheVariants.{NodeCreated, NodeDeleted, NodeDataChanged, NodeChildrenChanged}
use Rattle.watch_manager.specs.declared.mode.WatchMode.{WatchMode}
use Rattle.watch_manager.specs.declared.mode.WatchMode.TheVariants.{Persistent, Recursive}
use Rattle.read_processor.specs.Look.{is_request_path}
use Rattle.read_processor.specs.declared.watch.Watch.{Watch}
use Rattle.read_processor.specs.declared.watch.Watch.TheVariants as watch
use Rattle.read_processor.specs.declared.renewal.WatchList.{WatchList}
use Rattle.read_processor.specs.declared.renewal.WatchList.TheVariants.{Data, Exist, Child}
use Rattle.read_processor.specs.declared.renewal.Renewal.{Renewal}

-- ---- one path

-- The event that a client has missed since the zxid at a path of one of its lists, judged by the node there.
abbrev pub missed_kind : WatchList → ℤ → Option Node → Option EventKind
missed_kind Data since None = Some NodeDeleted
missed_kind Data since (Some node) = if int_lt since node.stat.mzxid then Some NodeDataChanged else None
missed_kind Exist since None = None
missed_kind Exist since (Some node) = Some NodeCreated
missed_kind Child since None = Some NodeDeleted
missed_kind Child since (Some node) = if int_lt since node.stat.pzxid then Some NodeChildrenChanged else None

-- A watch for the creation of a node is a data watch.
abbrev pub watch_at : WatchList → List ℕ → Watch
watch_at Data path = watch.Data path
watch_at Exist path = watch.Data path
watch_at Child path = watch.Child path

abbrev pub missed_kind_at : State → ℤ → WatchList → List ℕ → Option EventKind
missed_kind_at s since list path = missed_kind list since (finmap.get s.nodes path)

-- The event that was missed at a path; without one the path gives its watch.
abbrev pub event_at : State → ℤ → WatchList → List ℕ → Option Event
event_at s since list path = option_map (λ kind. record { kind = kind; path = path }) (missed_kind_at s since list path)

abbrev pub kept_watch_at : State → ℤ → WatchList → List ℕ → Option Watch
kept_watch_at s since list path = if is_some (missed_kind_at s since list path) then None else Some (watch_at list path)

-- ---- the three lists

-- The results for the paths, in the order of the lists.
abbrev pub of_all_lists : {A : Type 0} → (WatchList → List ℕ → Option A) → SetWatches → List A
of_all_lists gives asked =
    filter_map (gives Data) asked.data_watches
    ++ filter_map (gives Exist) asked.exist_watches
    ++ filter_map (gives Child) asked.child_watches

-- Every path may be read.
abbrev pub are_request_paths : SetWatches → Bool
are_request_paths asked =
    list_all is_request_path asked.data_watches
    && list_all is_request_path asked.exist_watches
    && list_all is_request_path asked.child_watches

abbrev pub renewal_of : State → SetWatches → Renewal
renewal_of s asked = record {
  events = of_all_lists (event_at s asked.relative_zxid) asked;
  watches = of_all_lists (kept_watch_at s asked.relative_zxid) asked;
}

-- Later clients may watch any path.
abbrev pub renew_watches : Dialect → State → SetWatches → Option Renewal
renew_watches dialect s asked =
    if (reads_of dialect).later_requests || are_request_paths asked then Some (renewal_of s asked) else None

-- ---- the lists of a SetWatches2

abbrev pub lasting_watches : WatchMode → List (List ℕ) → List Watch
lasting_watches mode paths = map (λ (path : List ℕ). watch.Lasting path mode) paths

-- The lasting watches are set again whatever was missed, and have no event.
abbrev pub renew_all_watches : State → SetWatches2 → Renewal
renew_all_watches s asked =
    let renewed = renewal_of s asked.older in record {
      events = renewed.events;
      watches = renewed.watches ++ lasting_watches Persistent asked.persistent_watches
          ++ lasting_watches Recursive asked.recursive_watches;
    }
