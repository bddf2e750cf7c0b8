-- Lists in ascending order.
use Rattle.std.specs.Prelude.{List, [], ◌∷◌, map}
use Rattle.std.specs.declared.cmp.Ordering.{Ordering}
use Rattle.std.specs.BTreeSet.{insert_key}
use Rattle.std.specs.FinMap as finmap

-- Each value once, in ascending order.
abbrev pub sorted_distinct : {K : Type 0} → (K → K → Ordering) → List K → List K
sorted_distinct {K} R values = finmap.keys (finmap.from_entries {R = R} (map (λ (k : K). (k, tt {0})) values))

-- The sorted keys with these values inserted one by one.
abbrev pub with_inserted_keys : {K : Type 0} → (K → K → Ordering) → List K → List K → List K
with_inserted_keys R keys [] = keys
with_inserted_keys R keys (k ∷ ks) = with_inserted_keys R (insert_key R keys k) ks
