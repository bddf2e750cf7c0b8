-- Watches as pairs of a path and the connection that gets the event.
use Rattle.std.specs.Prelude.{ℕ, List, Bool, not, map}
use Rattle.std.specs.List.{filter}
use Rattle.std.specs.declared.cmp.Ordering.{Ordering}
use Rattle.std.specs.Ordering.{nat_cmp, eq_by_cmp, then_cmp, on}
use Rattle.std.specs.FinMap as finmap
use Rattle.std.specs.FinSet as set
use Rattle.ephemerals.specs.Orders.{Bytes, path_cmp}

-- Connections, ordered by number.
abbrev pub ConnectionSet : Type 0
ConnectionSet = set.FinSet nat_cmp

-- The connections in ascending order of their numbers.
abbrev pub sorted_connections : ConnectionSet → List ℕ
sorted_connections conns = finmap.keys
    (finmap.from_entries {R = nat_cmp} (map (λ (connection : ℕ). (connection, tt {0})) (set.items conns)))

-- By path, then by connection.
abbrev pub watch_cmp : Bytes × ℕ → Bytes × ℕ → Ordering
watch_cmp = then_cmp (on (λ (p : Bytes × ℕ). p.0) path_cmp) (on (λ (p : Bytes × ℕ). p.1) nat_cmp)

abbrev pub WatchPairs : Type 0
WatchPairs = set.FinSet watch_cmp

abbrev pub same_path : Bytes → Bytes → Bool
same_path a b = eq_by_cmp path_cmp a b

abbrev pub same_connection : ℕ → ℕ → Bool
same_connection a b = eq_by_cmp nat_cmp a b

-- The connections that watch the path.
abbrev pub watchers_of : Bytes → WatchPairs → ConnectionSet
watchers_of path pairs =
    set.from_list (map (λ (p : Bytes × ℕ). p.1) (filter (λ (p : Bytes × ℕ). same_path path p.0) (set.items pairs)))

abbrev pub without_watches_on : Bytes → WatchPairs → WatchPairs
without_watches_on path pairs = set.retain pairs (λ (p : Bytes × ℕ). not (same_path path p.0))

abbrev pub without_connection : ℕ → WatchPairs → WatchPairs
without_connection connection pairs = set.retain pairs (λ (p : Bytes × ℕ). not (same_connection connection p.1))

-- The pairs of one connection.
abbrev pub pairs_of_connection : ℕ → WatchPairs → WatchPairs
pairs_of_connection connection pairs = set.retain pairs (λ (p : Bytes × ℕ). same_connection connection p.1)
