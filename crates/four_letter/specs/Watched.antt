-- Lists of the watches: paths and sessions, each once.
use Rattle.std.specs.Prelude.{ℤ, List, map}
use Rattle.std.specs.List.{filter}
use Rattle.std.specs.Ordering.{eq_by_cmp, int_cmp}
use Rattle.ephemerals.specs.Orders.{Bytes, path_cmp}
use Rattle.watch_manager.specs.Pairs.{same_path}
use Rattle.watch_manager.specs.Ascending.{sorted_distinct}
use Rattle.four_letter.specs.declared.figures.WatchRow.{WatchRow}

-- The paths that are watched in any table, in ascending order of their bytes.
abbrev pub watched_paths : List WatchRow → List Bytes
watched_paths rows = sorted_distinct path_cmp (map (λ (r : WatchRow). r.path) rows)

-- The sessions that watch the path in any table, in ascending order of their ids.
abbrev pub watching_sessions : Bytes → List WatchRow → List ℤ
watching_sessions path rows =
    sorted_distinct int_cmp (map (λ (r : WatchRow). r.session) (filter (λ (r : WatchRow). same_path path r.path) rows))

-- The sessions that watch any path, in ascending order of their ids.
abbrev pub all_watching_sessions : List WatchRow → List ℤ
all_watching_sessions rows = sorted_distinct int_cmp (map (λ (r : WatchRow). r.session) rows)

-- The paths that the session watches in any table, in ascending order of their bytes.
abbrev pub paths_watched_by : ℤ → List WatchRow → List Bytes
paths_watched_by session rows =
    sorted_distinct path_cmp
    (map (λ (r : WatchRow). r.path) (filter (λ (r : WatchRow). eq_by_cmp int_cmp session r.session) rows))
