-- Pairs at one path, and at some paths.
use Rattle.std.proofs.Common.{◌≡◌, ℤ, List, [], ◌∷◌, Bool, true, false, not, ◌||◌, ◌&&◌, refl, sym, ap, ◌∙◌}
use Rattle.std.proofs.Math.Bool.{and-false, or-false}
use Rattle.std.specs.List.{list_any}
use Rattle.std.specs.Ordering.{eq_by_cmp, is_eq}
use Rattle.std.specs.Cmp.{eq_by_cmp_equiv, tied_itself}
use Rattle.std.specs.FinSet as set
use Rattle.ephemerals.specs.Orders.{Bytes, Names, OwnerPairs, path_cmp, pair_cmp, sorted_names}
use Rattle.ephemerals.specs.Pairs.{pairs_at, without_paths, CopiesPath}
use Rattle.ephemerals.specs.Inner.Steps.{pairs_on, without_path, without_listed_paths, with_pairs_from}
use Rattle.ephemerals.proofs.Totals.{path_total, pair_total, pair_exact}
use Rattle.ephemerals.proofs.Ascending.{any-in_order}

pub same_pairs : (s t : OwnerPairs) → ((v : ℤ) (q : Bytes) → set.contains s (v, q) ≡ set.contains t (v, q)) → s ≡ t
same_pairs s t same = set.same_set pair_total pair_exact s t (λ r. same r.0 r.1)

-- ---- all pairs at a path

pub contains-pairs_on : (p : Bytes) (pairs : OwnerPairs) (v : ℤ) (q : Bytes)
    → set.contains (pairs_on p pairs) (v, q) ≡ (set.contains pairs (v, q) && eq_by_cmp path_cmp p q)
contains-pairs_on p pairs v q =
    set.contains-retain pairs (λ (r : ℤ × Bytes). eq_by_cmp path_cmp p r.1) (v, q)
    (λ x tie. ap (λ (r : ℤ × Bytes). eq_by_cmp path_cmp p r.1) (sym (pair_exact (v, q) x tie)))

pub contains-without_path : (p : Bytes) (pairs : OwnerPairs) (v : ℤ) (q : Bytes)
    → set.contains (without_path p pairs) (v, q) ≡ (set.contains pairs (v, q) && not (eq_by_cmp path_cmp p q))
contains-without_path p pairs v q =
    set.contains-retain pairs (λ (r : ℤ × Bytes). not (eq_by_cmp path_cmp p r.1)) (v, q)
    (λ x tie. ap (λ (r : ℤ × Bytes). not (eq_by_cmp path_cmp p r.1)) (sym (pair_exact (v, q) x tie)))

contains-copied : (p : Bytes) (others old : OwnerPairs) (v : ℤ) (q : Bytes) (b : Bool) → eq_by_cmp path_cmp p q ≡ b
    → set.contains (set.union (without_path p old) (pairs_on p others)) (v, q)
    ≡ ((set.contains old (v, q) && not b) || (set.contains others (v, q) && b))
contains-copied p others old v q b is =
    set.contains-union pair_total (without_path p old) (pairs_on p others) (v, q)
    ∙ (λ i. contains-without_path p old v q i || contains-pairs_on p others v q i)
    ∙ ap (λ x. (set.contains old (v, q) && not x) || (set.contains others (v, q) && x)) is

pub path_copied : (p : Bytes) (others old : OwnerPairs)
    → CopiesPath p others old (set.union (without_path p old) (pairs_on p others))
path_copied p others old = record {
  here =
      λ v. contains-copied p others old v p true (ap is_eq (tied_itself path_total p))
      ∙ theirs (set.contains old (v, p)) (set.contains others (v, p));
  elsewhere =
      λ v q out. contains-copied p others old v q false ((eq_by_cmp_equiv path_total).symm p q ∙ out)
      ∙ own (set.contains old (v, q)) (set.contains others (v, q));
}
  where
    theirs : (a b : Bool) → ((a && not true) || (b && true)) ≡ b
    theirs true true = refl
    theirs true false = refl
    theirs false true = refl
    theirs false false = refl

    own : (a b : Bool) → ((a && not false) || (b && false)) ≡ a
    own true true = refl
    own true false = refl
    own false true = refl
    own false false = refl

-- ---- all pairs at some paths

contains-without_each : (ps : List Bytes) (pairs : OwnerPairs) (v : ℤ) (q : Bytes)
    → set.contains (without_listed_paths ps pairs) (v, q)
    ≡ (set.contains pairs (v, q) && not (list_any (eq_by_cmp path_cmp q) ps))
contains-without_each [] pairs v q = by (set.contains pairs (v, q))
  where
    by : (b : Bool) → b ≡ (b && true)
    by true = refl
    by false = refl
contains-without_each (p ∷ ps) pairs v q =
    contains-without_each ps (without_path p pairs) v q
    ∙ ap (λ b. b && not (list_any (eq_by_cmp path_cmp q) ps))
    (contains-without_path p pairs v q
    ∙ ap (λ b. set.contains pairs (v, q) && not b) ((eq_by_cmp_equiv path_total).symm p q))
    ∙ by (eq_by_cmp path_cmp q p) (set.contains pairs (v, q)) (list_any (eq_by_cmp path_cmp q) ps)
  where
    by : (a b c : Bool) → ((b && not a) && not c) ≡ (b && not (a || c))
    by true true c = refl
    by true false c = refl
    by false true c = refl
    by false false c = refl

contains-with_each : (from : OwnerPairs) (ps : List Bytes) (pairs : OwnerPairs) (v : ℤ) (q : Bytes)
    → set.contains (with_pairs_from from ps pairs) (v, q)
    ≡ (set.contains pairs (v, q) || (set.contains from (v, q) && list_any (eq_by_cmp path_cmp q) ps))
contains-with_each from [] pairs v q =
    sym (or-false (set.contains pairs (v, q)))
    ∙ ap (λ b. set.contains pairs (v, q) || b) (sym (and-false (set.contains from (v, q))))
contains-with_each from (p ∷ ps) pairs v q =
    contains-with_each from ps (set.union pairs (pairs_on p from)) v q
    ∙ ap (λ b. b || (set.contains from (v, q) && list_any (eq_by_cmp path_cmp q) ps))
    (set.contains-union pair_total pairs (pairs_on p from) (v, q)
    ∙ ap (λ b. set.contains pairs (v, q) || b)
    (contains-pairs_on p from v q
    ∙ ap (λ b. set.contains from (v, q) && b) ((eq_by_cmp_equiv path_total).symm p q)))
    ∙ by (set.contains pairs (v, q)) (set.contains from (v, q)) (eq_by_cmp path_cmp q p)
    (list_any (eq_by_cmp path_cmp q) ps)
  where
    by : (x f a c : Bool) → ((x || (f && a)) || (f && c)) ≡ (x || (f && (a || c)))
    by true f a c = refl
    by false true a c = refl
    by false false a c = refl

pub contains-pairs_at : (paths : Names) (pairs : OwnerPairs) (r : ℤ × Bytes)
    → set.contains (pairs_at paths pairs) r ≡ (set.contains pairs r && set.contains paths r.1)
contains-pairs_at paths pairs r =
    set.contains-retain pairs (λ (p : ℤ × Bytes). set.contains paths p.1) r
    (λ x tie. ap (λ (p : ℤ × Bytes). set.contains paths p.1) (sym (pair_exact r x tie)))

pub contains-without_paths : (paths : Names) (pairs : OwnerPairs) (r : ℤ × Bytes)
    → set.contains (without_paths paths pairs) r ≡ (set.contains pairs r && not (set.contains paths r.1))
contains-without_paths paths pairs r =
    set.contains-retain pairs (λ (p : ℤ × Bytes). not (set.contains paths p.1)) r
    (λ x tie. ap (λ (p : ℤ × Bytes). not (set.contains paths p.1)) (sym (pair_exact r x tie)))

pub each_dropped : (paths : Names) (pairs : OwnerPairs)
    → without_listed_paths (sorted_names paths) pairs ≡ without_paths paths pairs
each_dropped paths pairs = same_pairs _ _ (λ v q.
    contains-without_each (sorted_names paths) pairs v q
    ∙ ap (λ b. set.contains pairs (v, q) && not b) (any-in_order paths q)
    ∙ sym (contains-without_paths paths pairs (v, q)))

pub each_found : (paths : Names) (pairs : OwnerPairs)
    → with_pairs_from pairs (sorted_names paths) set.empty ≡ pairs_at paths pairs
each_found paths pairs = same_pairs _ _ (λ v q.
    contains-with_each pairs (sorted_names paths) set.empty v q
    ∙ (λ i. set.contains-empty pair_cmp (v, q) i || (set.contains pairs (v, q) && any-in_order paths q i))
    ∙ sym (contains-pairs_at paths pairs (v, q)))
