-- Recursive watches, and the paths above a path.
use Rattle.std.specs.Prelude.{◌≡◌, ℕ, ◌==◌, List, [], ◌∷◌, ◌++◌, Bool, true, false, if◌then◌else◌, map, length}
use Rattle.std.specs.List.{filter}
use Rattle.std.specs.Ordering.{nat_cmp}
use Rattle.std.specs.BTreeSet as sorted
use Rattle.std.specs.BTreeSet.{BTreeSet}
use Rattle.std.specs.FinSet as set
use Rattle.ephemerals.specs.Orders.{Bytes}
use Rattle.watch_manager.specs.Pairs.{ConnectionSet, WatchPairs, watchers_of}

-- The length in bytes of each watched path is one of these.
abbrev pub HaveLengthsIn : BTreeSet ℕ → WatchPairs → Type 0
HaveLengthsIn lengths pairs =
    (path : Bytes) (connection : ℕ) → set.contains pairs (path, connection) ≡ true
    → sorted.contains nat_cmp lengths (length path) ≡ true

-- The connections, with those of the list.
abbrev pub with_connections : ConnectionSet → List ℕ → ConnectionSet
with_connections conns [] = conns
with_connections conns (n ∷ ns) = with_connections (set.insert conns n) ns

-- The connections, with those that watch these paths.
abbrev pub with_watchers_on : List Bytes → WatchPairs → ConnectionSet → ConnectionSet
with_watchers_on [] pairs conns = conns
with_watchers_on (path ∷ paths) pairs conns =
    with_watchers_on paths pairs (set.union conns (watchers_of path pairs))

-- The fronts of the text that end just before a "/", the longest first.
abbrev pub fronts_before_slash : Bytes → List Bytes
fronts_before_slash [] = []
fronts_before_slash (b ∷ bytes) =
    map (λ (front : Bytes). b ∷ front) (fronts_before_slash bytes) ++ (if b == 47 then [] ∷ [] else [])

abbrev pub is_nonempty : Bytes → Bool
is_nonempty [] = false
is_nonempty (b ∷ bytes) = true

-- Without the empty one.
abbrev pub named_fronts : Bytes → List Bytes
named_fronts path = filter is_nonempty (fronts_before_slash path)
