-- How much is watched, and by how many connections.
use Rattle.std.specs.Prelude.{ℕ, ◌+◌, List, ◌++◌, map}
use Rattle.std.specs.FinSet as set
use Rattle.ephemerals.specs.Orders.{Bytes, Names}
use Rattle.watch_manager.specs.Pairs.{ConnectionSet, pairs_of_connection}
use Rattle.watch_manager.specs.Lasting.{LastingWatches}
use Rattle.watch_manager.specs.Watching.{WatchTables}
use Rattle.watch_manager.specs.declared.counts.WatchCounts.{WatchCounts}

-- A connection that watches a path in two tables, or in both modes, has two watches on it.
abbrev pub watch_count : WatchTables → ℕ
watch_count w = set.len w.data_watches + set.len w.child + set.len w.lasting.persistent + set.len w.lasting.recursive

-- The path and the connection of each watch.
abbrev pub pairs_watched : WatchTables → List (Bytes × ℕ)
pairs_watched w =
    set.items w.data_watches ++ set.items w.child ++ set.items w.lasting.persistent ++ set.items w.lasting.recursive

-- The paths that are watched in any table.
abbrev pub watched_paths : WatchTables → Names
watched_paths w = set.from_list (map (λ (p : Bytes × ℕ). p.0) (pairs_watched w))

-- The connections that watch something.
abbrev pub watching_connections : WatchTables → ConnectionSet
watching_connections w = set.from_list (map (λ (p : Bytes × ℕ). p.1) (pairs_watched w))

abbrev pub counts_of : WatchTables → WatchCounts
counts_of w = record {
  connections = set.len (watching_connections w);
  paths = set.len (watched_paths w);
  watches = watch_count w;
}

abbrev pub lasting_of_connection : ℕ → LastingWatches → LastingWatches
lasting_of_connection connection lasting = record {
  persistent = pairs_of_connection connection lasting.persistent;
  recursive = pairs_of_connection connection lasting.recursive;
}

-- The watches of one connection.
abbrev pub watches_of : ℕ → WatchTables → WatchTables
watches_of connection w = record {
  data_watches = pairs_of_connection connection w.data_watches;
  child = pairs_of_connection connection w.child;
  lasting = lasting_of_connection connection w.lasting;
}

abbrev pub watch_count_of : ℕ → WatchTables → ℕ
watch_count_of connection w = watch_count (watches_of connection w)
