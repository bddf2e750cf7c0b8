-- Watches that no change uses up. A persistent watch is on a path, a recursive one on a path and on all below it. A
-- connection may have both on one path.
use Rattle.std.specs.Prelude.{ℕ, [], ◌∷◌, ◌++◌, Bool, false, not, ◌&&◌, ◌||◌, nat_eq, codes, map, refl}
use Rattle.std.specs.Coded.{Coded, code_by, coded×, coded_ℕ, coded_list}
use Rattle.std.specs.List.{filter, starts_with}
use Rattle.std.specs.FinSet as set
use Rattle.ephemerals.specs.Orders.{Bytes}
use Rattle.watch_manager.specs.Pairs.{ConnectionSet, WatchPairs, watch_cmp, same_path, watchers_of}
use Rattle.watch_manager.specs.declared.mode.WatchMode.{WatchMode}
use Rattle.watch_manager.specs.declared.mode.WatchMode.TheVariants.{Persistent, Recursive}

pub record LastingWatches : Type 0 where
  pub persistent : WatchPairs
  pub recursive : WatchPairs

abbrev pub no_lasting_watch : LastingWatches
no_lasting_watch = record { persistent = set.empty; recursive = set.empty }

abbrev pub watches_in : WatchMode → LastingWatches → WatchPairs
watches_in Persistent lasting = lasting.persistent
watches_in Recursive lasting = lasting.recursive

-- With these watches in the mode, in place of those that it had.
abbrev pub put_in : WatchMode → WatchPairs → LastingWatches → LastingWatches
put_in Persistent pairs lasting = record lasting { persistent = pairs }
put_in Recursive pairs lasting = record lasting { recursive = pairs }

abbrev pub with_watch_in : WatchMode → Bytes × ℕ → LastingWatches → LastingWatches
with_watch_in mode p lasting = put_in mode (set.insert (watches_in mode lasting) p) lasting

abbrev pub without_watch_in : WatchMode → Bytes × ℕ → LastingWatches → LastingWatches
without_watch_in mode p lasting = put_in mode (set.remove (watches_in mode lasting) p) lasting

abbrev pub root_path : Bytes
root_path = codes "/"

-- Whether the first path is a proper ancestor of the second. The ancestors of a path are its proper fronts that end
-- just before a "/", and "/". So "/a" isn't above "/ab", "/a/" isn't above "/a/b", and the empty text is above nothing.
abbrev pub is_above : Bytes → Bytes → Bool
is_above [] q = false
is_above (b ∷ a) q =
    (same_path (b ∷ a) root_path && not (same_path q root_path)) || starts_with nat_eq q (b ∷ a ++ root_path)

-- The connections that watch the path or one above it.
abbrev pub watchers_above : Bytes → WatchPairs → ConnectionSet
watchers_above path pairs =
    set.from_list (map (λ (p : Bytes × ℕ). p.1)
    (filter (λ (p : Bytes × ℕ). same_path p.0 path || is_above p.0 path) (set.items pairs)))

-- The connections with a persistent watch on the path.
abbrev pub persistent_watchers : Bytes → LastingWatches → ConnectionSet
persistent_watchers path lasting = watchers_of path lasting.persistent

-- The connections with a watch of either mode on the path, or with a recursive watch above it.
abbrev pub lasting_watchers : Bytes → LastingWatches → ConnectionSet
lasting_watchers path lasting =
    set.union (persistent_watchers path lasting) (watchers_above path lasting.recursive)

abbrev pub watch_pairs_code : Coded WatchPairs
watch_pairs_code = set.code {R = watch_cmp} (coded× (coded_list coded_ℕ) coded_ℕ)

abbrev pub lasting_watches_code : Coded LastingWatches
lasting_watches_code =
    code_by (WatchPairs × WatchPairs) (coded× watch_pairs_code watch_pairs_code)
    (λ l. (l.persistent, l.recursive)) (λ p. record { persistent = p.0; recursive = p.1 }) (λ _. refl)
