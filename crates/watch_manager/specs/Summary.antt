-- All watches as one list.
use Rattle.std.specs.Prelude.{ℕ, List, ◌++◌, map}
use Rattle.std.specs.declared.cmp.Ordering.{Ordering}
use Rattle.std.specs.Ordering.{nat_cmp, then_cmp, on}
use Rattle.std.specs.FinSet as set
use Rattle.ephemerals.specs.Orders.{Bytes, path_cmp}
use Rattle.watch_manager.specs.Ascending.{sorted_distinct}
use Rattle.watch_manager.specs.Watching.{WatchTables}
use Rattle.watch_manager.specs.declared.watched.Table.{Table}
use Rattle.watch_manager.specs.declared.watched.Table.TheVariants.{Own, Child, Lasting}
use Rattle.watch_manager.specs.declared.watched.Watched.{Watched}

-- Data watches come first.
abbrev pub table_rank : Table → ℕ
table_rank Own = 0
table_rank Child = 1
table_rank Lasting = 2

-- By path, then by connection, and the data watch before the child watch, and that before the lasting one.
abbrev pub watched_cmp : Watched → Watched → Ordering
watched_cmp =
    then_cmp (then_cmp (on (λ (w : Watched). w.path) path_cmp) (on (λ (w : Watched). w.connection) nat_cmp))
    (on (λ (w : Watched). table_rank w.table) nat_cmp)

-- The pair as a watch of this table.
abbrev pub watched_in : Table → Bytes × ℕ → Watched
watched_in table pair = record { path = pair.0; connection = pair.1; table = table }

-- Each watch of the three tables once, in ascending order. The lasting watches of both modes on a path are one.
abbrev pub summary : WatchTables → List Watched
summary w = sorted_distinct watched_cmp
    (map (watched_in Own) (set.items w.data_watches) ++ map (watched_in Child) (set.items w.child)
    ++ map (watched_in Lasting) (set.items w.lasting.persistent)
    ++ map (watched_in Lasting) (set.items w.lasting.recursive))
