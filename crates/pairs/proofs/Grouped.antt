-- Pairs that are stored as a set for each key.
use Rattle.std.proofs.Common.{◌≡◌, List, [], ◌∷◌, ◌++◌, Bool, true, false, cond, not, ◌||◌, ◌&&◌, T, Option, Some, None, refl, sym, ap, subst, ◌∙◌, map, length, arith}
use Rattle.std.proofs.Math.Bool.{and-false, or-false}
use Rattle.std.specs.declared.cmp.Ordering.{Ordering}
use Rattle.std.specs.declared.cmp.Ordering.TheVariants.{Less, Equal, Greater}
use Rattle.std.specs.List.{list_any}
use Rattle.std.specs.Ordering.{eq_by_cmp, is_eq, is_lt}
use Rattle.std.specs.Cmp.{IsTotalOrder, then_total, on_total, eq_by_cmp_equiv, tied_itself}
use Rattle.std.proofs.lemmas.Map.Views.{tells_apart}
use Rattle.std.proofs.lemmas.Map.Lookups.{exact_pairs, CmpEqualImpliesEq}
use Rattle.std.specs.FinMap as finmap
use Rattle.std.specs.FinMap.Entries.{below_all}
use Rattle.std.specs.FinSet as set
use Rattle.pairs.proofs.Ties.{tied_then}
use Rattle.pairs.specs.Pairs.{pair_cmp}
use Rattle.pairs.specs.Inner.Stored.{all_pairs, pairs_of}

and_or : (a b c : Bool) → ((a && b) || (a && c)) ≡ (a && (b || c))
and_or true b c = refl
and_or false b c = refl

pub front_holds : (a b : Bool) → T (a && b) → T a
front_holds true b h = tt
front_holds false b h = h

pub rest_holds : (a b : Bool) → T (a && b) → T b
rest_holds true b h = h
rest_holds false b h = absurd h

pub any-append : {A : Type 0} (test : A → Bool) (xs ys : List A)
    → list_any test (xs ++ ys) ≡ (list_any test xs || list_any test ys)
any-append test [] ys = refl
any-append test (x ∷ xs) ys =
    ap (λ b. test x || b) (any-append test xs ys) ∙ or_assoc (test x) (list_any test xs) (list_any test ys)
  where
    or_assoc : (a b c : Bool) → (a || (b || c)) ≡ ((a || b) || c)
    or_assoc true b c = refl
    or_assoc false b c = refl

module _ {K V : Type 0} {R : K → K → Ordering} {S : V → V → Ordering} (ok : IsTotalOrder R) (ov : IsTotalOrder S)
    (ek : CmpEqualImpliesEq R) (ev : CmpEqualImpliesEq S) where
  abbrev Sets : Type 0
  Sets = finmap.FinMap R (set.FinSet S)

  pair_total : IsTotalOrder (pair_cmp R S)
  pair_total = then_total (on_total (λ (p : K × V). p.0) ok) (on_total (λ (p : K × V). p.1) ov)

  pair_exact : CmpEqualImpliesEq (pair_cmp R S)
  pair_exact = exact_pairs R S ek ev

  -- The key with each of the values.
  pub any-one : (q k : K) (v : V) (ws : List V) → list_any (eq_by_cmp (pair_cmp R S) (q, v)) (map (λ (w : V). (k, w)) ws)
      ≡ (eq_by_cmp R q k && list_any (eq_by_cmp S v) ws)
  any-one q k v [] = sym (and-false (eq_by_cmp R q k))
  any-one q k v (w ∷ ws) =
      (λ i. tied_then (R q k) (S v w) i || any-one q k v ws i)
      ∙ and_or (eq_by_cmp R q k) (eq_by_cmp S v w) (list_any (eq_by_cmp S v) ws)

  -- Whether the set that was found has the value.
  abbrev pub listed : Option (set.FinSet S) → V → Bool
  listed None v = false
  listed (Some s) v = set.contains s v

  holds : List (K × set.FinSet S) → K → V → Bool
  holds [] q v = false
  holds (e ∷ es) q v = (eq_by_cmp R q e.0 && set.contains e.1 v) || holds es q v

  any-pairs : (es : List (K × set.FinSet S)) (q : K) (v : V)
      → list_any (eq_by_cmp (pair_cmp R S) (q, v)) (all_pairs es) ≡ holds es q v
  unfolding holds
  any-pairs [] q v = refl
  any-pairs (e ∷ es) q v =
      any-append (eq_by_cmp (pair_cmp R S) (q, v)) (map (λ (w : V). (e.0, w)) (set.items e.1)) (all_pairs es)
      ∙ (λ i. (any-one q e.0 v (set.items e.1) ∙ ap (λ b. eq_by_cmp R q e.0 && b) (sym (set.contains-items e.1 v))) i
      || any-pairs es q v i)

  holds-below : (q : K) (v : V) (es : List (K × set.FinSet S)) → T (below_all R q es) → holds es q v ≡ false
  unfolding holds
  holds-below q v [] h = refl
  holds-below q v (e ∷ es) h =
      elim (R q e.0) as (λ r. T (is_lt r && below_all R q es)
      → ((is_eq r && set.contains e.1 v) || holds es q v) ≡ false) [
        | Less ↦ λ below. holds-below q v es below
        | Equal ↦ λ below. absurd below
        | Greater ↦ λ below. absurd below
      ] h

  holds-find : (q : K) (v : V) (es : List (K × set.FinSet S)) → T (finmap.is_sorted R es)
      → holds es q v ≡ listed (finmap.find R q es) v
  unfolding holds
  holds-find q v [] h = refl
  holds-find q v (e ∷ es) h =
      elim (eq_by_cmp R q e.0) as (λ b. eq_by_cmp R q e.0 ≡ b
      → ((b && set.contains e.1 v) || holds es q v) ≡ listed (cond b (Some e.1) (finmap.find R q es)) v) [
        | true ↦ λ t.
            ap (λ b. set.contains e.1 v || b) (holds-below q v es
            (subst (λ k. T (below_all R k es)) (sym (tells_apart ek q e.0 t)) (front_holds _ _ h)))
            ∙ or-false (set.contains e.1 v)
        | false ↦ λ t. holds-find q v es (rest_holds _ _ h)
      ] refl

  pub contains-pairs : (m : Sets) (q : K) (v : V) → set.contains (pairs_of m) (q, v) ≡ listed (finmap.get m q) v
  contains-pairs m q v =
      set.contains-from_list pair_total (all_pairs (finmap.entries m)) (q, v)
      ∙ any-pairs (finmap.entries m) q v
      ∙ holds-find q v (finmap.entries m) (finmap.entries_sorted m)
      ∙ ap (λ o. listed o v) (sym (finmap.get-entries m q))

  contains-put : (m : Sets) (k q : K) (new : set.FinSet S) (v : V)
      → set.contains (pairs_of (finmap.insert m k new)) (q, v)
      ≡ cond (eq_by_cmp R q k) (set.contains new v) (set.contains (pairs_of m) (q, v))
  contains-put m k q new v =
      contains-pairs (finmap.insert m k new) q v
      ∙ ap (λ o. listed o v) (finmap.get-insert ok m k new q)
      ∙ by (eq_by_cmp R q k)
      ∙ ap (cond (eq_by_cmp R q k) (set.contains new v)) (sym (contains-pairs m q v))
    where
      by : (b : Bool) → listed (cond b (Some new) (finmap.get m q)) v
          ≡ cond b (set.contains new v) (listed (finmap.get m q) v)
      by true = refl
      by false = refl

  contains-cut : (m : Sets) (k q : K) (v : V)
      → set.contains (pairs_of (finmap.remove m k)) (q, v)
      ≡ cond (eq_by_cmp R q k) false (set.contains (pairs_of m) (q, v))
  contains-cut m k q v =
      contains-pairs (finmap.remove m k) q v
      ∙ ap (λ o. listed o v) (finmap.get-remove ok m k q)
      ∙ by (eq_by_cmp R q k)
      ∙ ap (cond (eq_by_cmp R q k) false) (sym (contains-pairs m q v))
    where
      by : (b : Bool) → listed (cond b None (finmap.get m q)) v ≡ cond b false (listed (finmap.get m q) v)
      by true = refl
      by false = refl

  -- The pairs after key k gets a set that differs at w alone. Whether the new set has a value is `change` of whether
  -- the value is w, and of whether the old set had it.
  module _ (m n : Sets) (k : K) (w : V) (old new : set.FinSet S) (made : n ≡ finmap.insert m k new)
      (was : (v : V) → listed (finmap.get m k) v ≡ set.contains old v) where
    pairs-change : (change : Bool → Bool → Bool) → ((b : Bool) → change false b ≡ b)
        → ((v : V) → set.contains new v ≡ change (eq_by_cmp S v w) (set.contains old v))
        → (step : set.FinSet (pair_cmp R S)) → ((r : K × V)
        → set.contains step r ≡ change (eq_by_cmp (pair_cmp R S) r (k, w)) (set.contains (pairs_of m) r))
        → pairs_of n ≡ step
    pairs-change change elsewhere is step steps =
        ap pairs_of made ∙ set.same_set pair_total pair_exact _ _ (λ r. each r.0 r.1)
      where
        by : (q : K) (v : V) (b : Bool) → set.contains (pairs_of m) (k, v) ≡ set.contains old v
            → (b ≡ true → set.contains (pairs_of m) (q, v) ≡ set.contains (pairs_of m) (k, v))
            → cond b (set.contains new v) (set.contains (pairs_of m) (q, v))
            ≡ change (b && eq_by_cmp S v w) (set.contains (pairs_of m) (q, v))
        by q v true here same = is v ∙ ap (change (eq_by_cmp S v w)) (sym (same refl ∙ here))
        by q v false here same = sym (elsewhere (set.contains (pairs_of m) (q, v)))

        each : (q : K) (v : V) → set.contains (pairs_of (finmap.insert m k new)) (q, v) ≡ set.contains step (q, v)
        each q v =
            contains-put m k q new v
            ∙ by q v (eq_by_cmp R q k) (contains-pairs m k v ∙ was v)
            (λ t. ap (λ x. set.contains (pairs_of m) (x, v)) (tells_apart ek q k t))
            ∙ ap (λ b. change b (set.contains (pairs_of m) (q, v))) (sym (tied_then (R q k) (S v w)))
            ∙ sym (steps (q, v))

    pairs-insert : new ≡ set.insert old w → pairs_of n ≡ set.insert (pairs_of m) (k, w)
    pairs-insert is =
        pairs-change (λ t b. t || b) (λ b. refl) (λ v. ap (λ s. set.contains s v) is ∙ set.contains-insert ov old w v) _
        (λ r. set.contains-insert pair_total (pairs_of m) (k, w) r)

    pairs-remove : new ≡ set.remove old w → pairs_of n ≡ set.remove (pairs_of m) (k, w)
    pairs-remove is =
        pairs-change (λ t b. not t && b) (λ b. refl) (λ v. ap (λ s. set.contains s v) is
        ∙ set.contains-remove ov old w v) _
        (λ r. set.contains-remove pair_total (pairs_of m) (k, w) r)

  -- Through the set at the key.
  pub insert_through : (m n : Sets) (k : K) (w : V) (old new : set.FinSet S) → n ≡ finmap.insert m k new
      → finmap.get m k ≡ Some old → new ≡ set.insert old w → pairs_of n ≡ set.insert (pairs_of m) (k, w)
  insert_through m n k w old new made found is = pairs-insert m n k w old new made (λ v. ap (λ o. listed o v) found) is

  -- As the first value of the key.
  pub insert_first : (m n : Sets) (k : K) (w : V) (old new : set.FinSet S) → n ≡ finmap.insert m k new
      → finmap.get m k ≡ None → old ≡ set.empty → new ≡ set.insert old w → pairs_of n ≡ set.insert (pairs_of m) (k, w)
  insert_first m n k w old new made none empty is =
      pairs-insert m n k w old new made (λ v. ap (λ o. listed o v) none ∙ sym (set.contains-empty S v)
      ∙ ap (λ s. set.contains s v) (sym empty)) is

  pub remove_through : (m n : Sets) (k : K) (w : V) (old new : set.FinSet S) → n ≡ finmap.insert m k new
      → finmap.get m k ≡ Some old → new ≡ set.remove old w → pairs_of n ≡ set.remove (pairs_of m) (k, w)
  remove_through m n k w old new made found is = pairs-remove m n k w old new made (λ v. ap (λ o. listed o v) found) is

  -- Whether the set that was found has the value.
  pub contains-found : (m : Sets) (k : K) (found : Option (set.FinSet S)) → finmap.get m k ≡ found → (v : V)
      → set.contains (pairs_of m) (k, v) ≡ listed found v
  contains-found m k found is v = contains-pairs m k v ∙ ap (λ o. listed o v) is

  -- A key without a set has no pair.
  pub remove_none : (m : Sets) (k : K) (w : V) → finmap.get m k ≡ None → pairs_of m ≡ set.remove (pairs_of m) (k, w)
  remove_none m k w none = set.same_set pair_total pair_exact _ _ (λ r. each r.0 r.1)
    where
      by : (a b c : Bool) → (a ≡ true → c ≡ false) → c ≡ (not (a && b) && c)
      by true b c h = h refl ∙ sym (ap (λ x. not b && x) (h refl) ∙ and-false (not b))
      by false b c h = refl

      each : (q : K) (v : V) → set.contains (pairs_of m) (q, v) ≡ set.contains (set.remove (pairs_of m) (k, w)) (q, v)
      each q v =
          by (eq_by_cmp R q k) (eq_by_cmp S v w) (set.contains (pairs_of m) (q, v))
          (λ t. ap (λ x. set.contains (pairs_of m) (x, v)) (tells_apart ek q k t) ∙ contains-found m k None none v)
          ∙ ap (λ b. not b && set.contains (pairs_of m) (q, v)) (sym (tied_then (R q k) (S v w)))
          ∙ sym (set.contains-remove pair_total (pairs_of m) (k, w) (q, v))

  -- A key without values is removed.
  pub forget : (m n : Sets) (k : K) → n ≡ finmap.remove m k → ((v : V) → set.contains (pairs_of m) (k, v) ≡ false)
      → pairs_of n ≡ pairs_of m
  forget m n k made none =
      ap pairs_of made ∙ set.same_set pair_total pair_exact _ _
      (λ r. contains-cut m k r.0 r.1 ∙ by r.0 r.1 (eq_by_cmp R r.0 k) refl)
    where
      by : (q : K) (v : V) (b : Bool) → eq_by_cmp R q k ≡ b
          → cond b false (set.contains (pairs_of m) (q, v)) ≡ set.contains (pairs_of m) (q, v)
      by q v true e = sym (none v) ∙ ap (λ x. set.contains (pairs_of m) (x, v)) (sym (tells_apart ek q k e))
      by q v false e = refl

  -- A key whose set was emptied has no value either.
  pub emptied : (m n : Sets) (k : K) (new : set.FinSet S) → n ≡ finmap.insert m k new → new ≡ set.empty → (v : V)
      → set.contains (pairs_of n) (k, v) ≡ false
  emptied m n k new made e v =
      ap (λ x. set.contains (pairs_of x) (k, v)) made
      ∙ contains-put m k k new v
      ∙ ap (λ r. cond (is_eq r) (set.contains new v) (set.contains (pairs_of m) (k, v))) (tied_itself ok k)
      ∙ ap (λ s. set.contains s v) e
      ∙ set.contains-empty S v

  -- All pairs of a key are removed.
  pub taken : (m n : Sets) (k : K) → n ≡ finmap.remove m k
      → pairs_of n ≡ set.retain (pairs_of m) (λ (p : K × V). not (eq_by_cmp R k p.0))
  taken m n k made = ap pairs_of made ∙ set.same_set pair_total pair_exact _ _ (λ r.
      contains-cut m k r.0 r.1
      ∙ by (eq_by_cmp R r.0 k) (set.contains (pairs_of m) r)
      ∙ ap (λ b. set.contains (pairs_of m) r && not b) ((eq_by_cmp_equiv ok).symm r.0 k)
      ∙ sym (set.contains-retain (pairs_of m) (λ (p : K × V). not (eq_by_cmp R k p.0)) r
      (λ x tie. ap (λ (p : K × V). not (eq_by_cmp R k p.0)) (sym (pair_exact r x tie)))))
    where
      by : (b c : Bool) → cond b false c ≡ (c && not b)
      by true true = refl
      by true false = refl
      by false true = refl
      by false false = refl

  nothing : (es : List (K × set.FinSet S)) → length es ≡ 0 → set.from_list {R = pair_cmp R S} (all_pairs es) ≡ set.empty
  nothing [] e = refl
  nothing (x ∷ es) e = absurd (omega arith)

  pub no_pairs : pairs_of {S = S} (finmap.empty {R = R}) ≡ set.empty
  no_pairs = nothing (finmap.entries (finmap.empty {R = R}))
      (sym (finmap.len-entries (finmap.empty {R = R})) ∙ finmap.len-empty R (set.FinSet S))
