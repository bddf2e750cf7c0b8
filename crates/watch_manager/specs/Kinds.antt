-- The watches of one connection on one path, by their kind.
use Rattle.std.specs.Prelude.{ℕ, Bool, ◌||◌}
use Rattle.std.specs.FinSet as set
use Rattle.ephemerals.specs.Orders.{Bytes}
use Rattle.watch_manager.specs.Watching.{WatchTables}
use Rattle.watch_manager.specs.declared.kind.WatchKind.{WatchKind}
use Rattle.watch_manager.specs.declared.kind.WatchKind.TheVariants.{Child, Data, Any, Persistent, Recursive}

abbrev pub has_watch : WatchKind → ℕ → Bytes → WatchTables → Bool
has_watch Child connection path w = set.contains w.child (path, connection)
has_watch Data connection path w = set.contains w.data_watches (path, connection)
has_watch Persistent connection path w = set.contains w.lasting.persistent (path, connection)
has_watch Recursive connection path w = set.contains w.lasting.recursive (path, connection)
has_watch Any connection path w =
    set.contains w.child (path, connection) || set.contains w.data_watches (path, connection)
    || set.contains w.lasting.persistent (path, connection) || set.contains w.lasting.recursive (path, connection)

-- Without that watch, or with Any without each of them. All others stay.
abbrev pub without_watch : WatchKind → ℕ → Bytes → WatchTables → WatchTables
without_watch Child connection path w = record w { child = set.remove w.child (path, connection) }
without_watch Data connection path w = record w { data_watches = set.remove w.data_watches (path, connection) }
without_watch Persistent connection path w =
    record w { lasting = record w.lasting { persistent = set.remove w.lasting.persistent (path, connection) } }
without_watch Recursive connection path w =
    record w { lasting = record w.lasting { recursive = set.remove w.lasting.recursive (path, connection) } }
without_watch Any connection path w = record {
  data_watches = set.remove w.data_watches (path, connection);
  child = set.remove w.child (path, connection);
  lasting = record {
    persistent = set.remove w.lasting.persistent (path, connection);
    recursive = set.remove w.lasting.recursive (path, connection);
  };
}
