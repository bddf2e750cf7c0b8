-- The paths and the connections of watches.
use Rattle.std.specs.Prelude.{ℕ, map}
use Rattle.std.specs.FinSet as set
use Rattle.ephemerals.specs.Orders.{Bytes}
pub use Rattle.pairs.specs.Pairs.{keys_in, keys_beyond}
use Rattle.watch_manager.specs.Pairs.{ConnectionSet, WatchPairs}

abbrev pub connections_in : WatchPairs → ConnectionSet
connections_in pairs = set.from_list (map (λ (p : Bytes × ℕ). p.1) (set.items pairs))

-- The connections that watch something here and nothing in the other tables.
abbrev pub connections_beyond : (pairs first second third : WatchPairs) → ConnectionSet
connections_beyond pairs first second third =
    set.difference (connections_in pairs)
    (set.union (connections_in first) (set.union (connections_in second) (connections_in third)))
