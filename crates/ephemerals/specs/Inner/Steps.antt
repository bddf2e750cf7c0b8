-- Operations on the pairs at one path, one after the other.
use Rattle.std.specs.Prelude.{ℤ, List, [], ◌∷◌, not}
use Rattle.std.specs.FinSet as set
use Rattle.std.specs.Ordering.{eq_by_cmp}
use Rattle.ephemerals.specs.Orders.{Bytes, OwnerPairs, path_cmp}

-- The pairs at the path.
abbrev pub pairs_on : Bytes → OwnerPairs → OwnerPairs
pairs_on path pairs = set.retain pairs (λ (p : ℤ × Bytes). eq_by_cmp path_cmp path p.1)

-- All pairs except those at the path.
abbrev pub without_path : Bytes → OwnerPairs → OwnerPairs
without_path path pairs = set.retain pairs (λ (p : ℤ × Bytes). not (eq_by_cmp path_cmp path p.1))

-- Without the pairs at each of the paths.
abbrev pub without_listed_paths : List Bytes → OwnerPairs → OwnerPairs
without_listed_paths [] pairs = pairs
without_listed_paths (p ∷ ps) pairs = without_listed_paths ps (without_path p pairs)

-- With the first pairs at each of the paths.
abbrev pub with_pairs_from : OwnerPairs → List Bytes → OwnerPairs → OwnerPairs
with_pairs_from from [] pairs = pairs
with_pairs_from from (p ∷ ps) pairs = with_pairs_from from ps (set.union pairs (pairs_on p from))
