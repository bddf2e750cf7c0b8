-- Paths and names as lists of bytes, and sets of them.
use Rattle.std.specs.Prelude.{ℕ, ℤ, List, map}
use Rattle.std.specs.declared.cmp.Ordering.{Ordering}
use Rattle.std.specs.Ordering.{nat_cmp, int_cmp, then_cmp, on}
use Rattle.std.specs.Cmp.Lexicographic.{slice_cmp}
use Rattle.std.specs.FinMap as finmap
use Rattle.std.specs.FinSet as set

abbrev pub Bytes : Type 0
Bytes = List ℕ

-- Ascending bytes.
abbrev pub path_cmp : Bytes → Bytes → Ordering
path_cmp = slice_cmp nat_cmp

abbrev pub Names : Type 0
Names = set.FinSet path_cmp

-- By session, then by the path's bytes.
abbrev pub pair_cmp : ℤ × Bytes → ℤ × Bytes → Ordering
pair_cmp = then_cmp (on (λ (p : ℤ × Bytes). p.0) int_cmp) (on (λ (p : ℤ × Bytes). p.1) path_cmp)

-- Sessions, ordered by id.
abbrev pub SessionIds : Type 0
SessionIds = set.FinSet int_cmp

-- Sessions with the paths of their ephemeral nodes.
abbrev pub OwnerPairs : Type 0
OwnerPairs = set.FinSet pair_cmp

-- Each text once, in ascending order of their bytes.
abbrev pub sorted_texts : List Bytes → List Bytes
sorted_texts texts = finmap.keys (finmap.from_entries {R = path_cmp} (map (λ (t : Bytes). (t, tt {0})) texts))

abbrev pub sorted_names : Names → List Bytes
sorted_names names = sorted_texts (set.items names)
