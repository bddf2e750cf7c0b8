-- The pairs of one session, and those of the others.
use Rattle.std.proofs.Common.{◌≡◌, ℤ, List, [], ◌∷◌, Bool, true, false, cond, not, ◌||◌, ◌&&◌, sym, ap, refl, ◌∙◌, map}
use Rattle.std.specs.List.{list_any, filter}
use Rattle.std.specs.Ordering.{eq_by_cmp, int_cmp, int_eq}
use Rattle.std.specs.FinSet as set
use Rattle.ephemerals.specs.Orders.{Bytes, path_cmp, pair_cmp, OwnerPairs}
use Rattle.ephemerals.specs.Pairs.{paths_of_session, without_session}
use Rattle.ephemerals.proofs.Totals.{path_total, pair_exact}
use Rattle.ephemerals.proofs.Ties.{tied_then, same_session}

-- The paths of one session.
any-owned : (k : ℤ) (q : Bytes) (ps : List (ℤ × Bytes))
    → list_any (eq_by_cmp path_cmp q) (map (λ (p : ℤ × Bytes). p.1) (filter (λ (p : ℤ × Bytes). int_eq p.0 k) ps))
    ≡ list_any (eq_by_cmp pair_cmp (k, q)) ps
any-owned k q [] = refl
any-owned k q (p ∷ ps) = by (any-owned k q ps) (int_eq p.0 k) refl
  where
    by : list_any (eq_by_cmp path_cmp q) (map (λ (p : ℤ × Bytes). p.1) (filter (λ (p : ℤ × Bytes). int_eq p.0 k) ps))
        ≡ list_any (eq_by_cmp pair_cmp (k, q)) ps
        → (b : Bool) → int_eq p.0 k ≡ b
        → list_any (eq_by_cmp path_cmp q)
        (map (λ (p : ℤ × Bytes). p.1)
        (cond b (p ∷ filter (λ (p : ℤ × Bytes). int_eq p.0 k) ps) (filter (λ (p : ℤ × Bytes). int_eq p.0 k) ps)))
        ≡ list_any (eq_by_cmp pair_cmp (k, q)) (p ∷ ps)
    by rest true e =
        (λ i. (sym
        (tied_then (int_cmp k p.0) (path_cmp q p.1)
        ∙ ap (λ b. b && eq_by_cmp path_cmp q p.1) (sym (same_session p.0 k) ∙ e)) i) || rest i)
    by rest false e =
        rest
        ∙ ap (λ b. b || list_any (eq_by_cmp pair_cmp (k, q)) ps)
        (sym (tied_then (int_cmp k p.0) (path_cmp q p.1)
        ∙ ap (λ b. b && eq_by_cmp path_cmp q p.1) (sym (same_session p.0 k) ∙ e)))

pub contains-owned : (k : ℤ) (pairs : OwnerPairs) (q : Bytes)
    → set.contains (paths_of_session k pairs) q ≡ set.contains pairs (k, q)
contains-owned k pairs q =
    set.contains-from_list path_total
    (map (λ (p : ℤ × Bytes). p.1) (filter (λ (p : ℤ × Bytes). int_eq p.0 k) (set.items pairs))) q
    ∙ any-owned k q (set.items pairs)
    ∙ sym (set.contains-items pairs (k, q))

-- The pairs of the other sessions.
pub contains-without : (k : ℤ) (pairs : OwnerPairs) (q : ℤ × Bytes)
    → set.contains (without_session k pairs) q ≡ (set.contains pairs q && not (int_eq q.0 k))
contains-without k pairs q =
    set.contains-retain pairs (λ (p : ℤ × Bytes). not (int_eq p.0 k)) q
    (λ x tie. ap (λ (p : ℤ × Bytes). not (int_eq p.0 k)) (sym (pair_exact q x tie)))
