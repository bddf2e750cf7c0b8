-- Watches, while they are listed.
use Rattle.std.specs.Prelude.{◌≡◌, ℕ, List, ◌++◌, map}
use Rattle.ephemerals.specs.Orders.{Bytes}
use Rattle.watch_manager.specs.Summary.{watched_cmp, watched_in}
use Rattle.watch_manager.specs.Ascending.{sorted_distinct}
use Rattle.watch_manager.specs.declared.watched.Table.{Table}
use Rattle.watch_manager.specs.declared.watched.Watched.{Watched}

-- The watches of a connection on these paths.
abbrev pub connection_rows : Table → ℕ → List Bytes → List Watched
connection_rows table connection paths = map (watched_in table) (map (λ (path : Bytes). (path, connection)) paths)

-- The new list is the old one with these watches inserted in order.
abbrev pub AddsInOrder : List Watched → List Watched → List Watched → Type 0
AddsInOrder old items new =
    (before : List Watched) → old ≡ sorted_distinct watched_cmp before
    → new ≡ sorted_distinct watched_cmp (before ++ items)
