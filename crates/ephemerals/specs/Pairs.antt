-- The pairs of a session and a path that it owns. Session 0 owns none.
use Rattle.std.specs.Prelude.{◌≡◌, ℤ, pos, not, false, map, if◌then◌else◌}
use Rattle.std.specs.List.{filter}
use Rattle.std.specs.Ordering.{int_eq, eq_by_cmp}
use Rattle.std.specs.FinSet as set
use Rattle.ephemerals.specs.Orders.{Bytes, Names, OwnerPairs, path_cmp}

abbrev pub with_pair : OwnerPairs → ℤ → Bytes → OwnerPairs
with_pair pairs session path = if int_eq session (pos 0) then pairs else set.insert pairs (session, path)

abbrev pub without_pair : OwnerPairs → ℤ → Bytes → OwnerPairs
without_pair pairs session path = if int_eq session (pos 0) then pairs else set.remove pairs (session, path)

-- The path moves from the old session to the new one.
abbrev pub with_other_owner : OwnerPairs → Bytes → ℤ → ℤ → OwnerPairs
with_other_owner pairs path old new = with_pair (without_pair pairs old path) new path

abbrev pub paths_of_session : ℤ → OwnerPairs → Names
paths_of_session session pairs =
    set.from_list (map (λ (p : ℤ × Bytes). p.1) (filter (λ (p : ℤ × Bytes). int_eq p.0 session) (set.items pairs)))

abbrev pub without_session : ℤ → OwnerPairs → OwnerPairs
without_session session pairs = set.retain pairs (λ (p : ℤ × Bytes). not (int_eq p.0 session))

abbrev pub pairs_at : Names → OwnerPairs → OwnerPairs
pairs_at paths pairs = set.retain pairs (λ (p : ℤ × Bytes). set.contains paths p.1)

abbrev pub without_paths : Names → OwnerPairs → OwnerPairs
without_paths paths pairs = set.retain pairs (λ (p : ℤ × Bytes). not (set.contains paths p.1))

-- At the path the pairs are those of the others; elsewhere they are as they were.
pub record CopiesPath (path : Bytes) (others old new : OwnerPairs) : Type 0 where
  pub here : (session : ℤ) → set.contains new (session, path) ≡ set.contains others (session, path)
  pub elsewhere : (session : ℤ) (q : Bytes) → eq_by_cmp path_cmp q path ≡ false
      → set.contains new (session, q) ≡ set.contains old (session, q)
