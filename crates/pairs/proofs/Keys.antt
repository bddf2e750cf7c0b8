-- The keys of pairs that are stored as a set for each key.
use Rattle.std.proofs.Common.{◌≡◌, ◌≢◌, ℕ, ◌+◌, suc, List, [], ◌∷◌, Bool, true, false, cond, not, ◌||◌, ◌&&◌, Option, Some, None, IfSome, is_some, refl, sym, ap, subst, ◌∙◌, map, length, arith}
use mathlib.Core.Bool.{true≢false}
use Rattle.std.specs.declared.cmp.Ordering.{Ordering}
use Rattle.std.specs.List.{list_any, filter, IsDistinct}
use Rattle.std.specs.Ordering.{eq_by_cmp, is_eq}
use Rattle.std.specs.Cmp.{IsTotalOrder, tied_itself}
use Rattle.std.proofs.lemmas.Map.Lookups.{CmpEqualImpliesEq}
use Rattle.std.specs.FinMap as finmap
use Rattle.std.specs.FinSet as set
use Rattle.pairs.specs.Pairs.{pair_cmp, keys_in, keys_beyond}
use Rattle.pairs.proofs.Ties.{tied_then}
use Rattle.pairs.proofs.Grouped.{contains-found, emptied, forget, remove_through}
use Rattle.pairs.specs.Inner.Stored.{pairs_of, keys_in_one, HaveValues}
use Rattle.pairs.proofs.SetCounts.{contains-kept, len-listed, len-kept-listed, found-named}

-- A set with a value isn't empty.
pub with-value : {V : Type 0} {S : V → V → Ordering} → IsTotalOrder S → (s : set.FinSet S) (v : V)
    → set.insert s v ≢ set.empty
with-value {S = S} o s v e =
    true≢false
    (sym (set.contains-insert o s v v ∙ ap (λ r. is_eq r || set.contains s v) (tied_itself o v))
    ∙ ap (λ t. set.contains t v) e ∙ set.contains-empty S v)

module _ {K V : Type 0} {R : K → K → Ordering} {S : V → V → Ordering} (ok : IsTotalOrder R) (ov : IsTotalOrder S)
    (ek : CmpEqualImpliesEq R) (ev : CmpEqualImpliesEq S) where
  abbrev Sets : Type 0
  Sets = finmap.FinMap R (set.FinSet S)

  abbrev first : K × V → K
  first p = p.0

  -- ---- each key has a value

  pub have-none : HaveValues (finmap.empty {X = set.FinSet S} {R = R})
  have-none key = subst (λ r. IfSome r (λ values. values ≢ set.empty)) (sym (finmap.get-empty R key)) tt

  pub have-insert : (m : Sets) (k : K) (values : set.FinSet S) → HaveValues m → values ≢ set.empty
      → HaveValues (finmap.insert m k values)
  have-insert m k values full some key =
      subst (λ r. IfSome r (λ s. s ≢ set.empty)) (sym (finmap.get-insert ok m k values key)) (by (eq_by_cmp R key k))
    where
      by : (b : Bool) → IfSome (cond b (Some values) (finmap.get m key)) (λ s. s ≢ set.empty)
      by true = some
      by false = full key

  pub have-remove : (m : Sets) (k : K) → HaveValues m → HaveValues (finmap.remove m k)
  have-remove m k full key =
      subst (λ r. IfSome r (λ s. s ≢ set.empty)) (sym (finmap.get-remove ok m k key)) (by (eq_by_cmp R key k))
    where
      by : (b : Bool) → IfSome (cond b None (finmap.get m key)) (λ s. s ≢ set.empty)
      by true = tt
      by false = full key

  -- A key whose set was changed, and which was removed then.
  pub have-cut : (m : Sets) (k : K) (values : set.FinSet S) → HaveValues m
      → HaveValues (finmap.remove (finmap.insert m k values) k)
  have-cut m k values full key =
      subst (λ r. IfSome r (λ s. s ≢ set.empty))
      (sym (finmap.get-remove ok (finmap.insert m k values) k key
      ∙ ap (cond (eq_by_cmp R key k) None) (finmap.get-insert ok m k values key)))
      (by (eq_by_cmp R key k))
    where
      by : (b : Bool) → IfSome (cond b None (cond b (Some values) (finmap.get m key))) (λ s. s ≢ set.empty)
      by true = tt
      by false = full key

  -- The last value of a key is removed, and the key with it.
  pub remove_last : (m n after : Sets) (k : K) (w : V) (old new : set.FinSet S) → n ≡ finmap.insert m k new
      → finmap.get m k ≡ Some old → new ≡ set.remove old w → new ≡ set.empty → after ≡ finmap.remove n k
      → pairs_of after ≡ set.remove (pairs_of m) (k, w)
  remove_last m n after k w old new made found is empty cut =
      forget ok ov ek ev n after k cut (emptied ok ov ek ev m n k new made empty)
      ∙ remove_through ok ov ek ev m n k w old new made found is

  -- ---- the keys that have a pair

  any-key : (q : K) (v : V) (ps : List (K × V)) → list_any (eq_by_cmp (pair_cmp R S) (q, v)) ps ≡ true
      → list_any (eq_by_cmp R q) (map first ps) ≡ true
  any-key q v [] e = e
  any-key q v (p ∷ ps) e =
      by (eq_by_cmp R q p.0) (eq_by_cmp S v p.1) (list_any (eq_by_cmp (pair_cmp R S) (q, v)) ps)
      (list_any (eq_by_cmp R q) (map first ps)) (any-key q v ps)
      (ap (λ b. b || list_any (eq_by_cmp (pair_cmp R S) (q, v)) ps) (sym (tied_then (R q p.0) (S v p.1))) ∙ e)
    where
      by : (a b c d : Bool) → (c ≡ true → d ≡ true) → ((a && b) || c) ≡ true → (a || d) ≡ true
      by true b c d h e = refl
      by false b c d h e = h e

  pub has-key : (pairs : set.FinSet (pair_cmp R S)) (q : K) (v : V) → set.contains pairs (q, v) ≡ true
      → set.contains (keys_in R pairs) q ≡ true
  has-key pairs q v here =
      set.contains-from_list ok (map first (set.items pairs)) q
      ∙ any-key q v (set.items pairs) (sym (set.contains-items pairs (q, v)) ∙ here)

  no-any : (q : K) (ps : List (K × V)) → ((v : V) → list_any (eq_by_cmp (pair_cmp R S) (q, v)) ps ≡ false)
      → list_any (eq_by_cmp R q) (map first ps) ≡ false
  no-any q [] h = refl
  no-any q (p ∷ ps) h = λ i. head i || no-any q ps rest i
    where
      split : (v : V) → ((eq_by_cmp R q p.0 && eq_by_cmp S v p.1) || list_any (eq_by_cmp (pair_cmp R S) (q, v)) ps) ≡ false
      split v = ap (λ b. b || list_any (eq_by_cmp (pair_cmp R S) (q, v)) ps) (sym (tied_then (R q p.0) (S v p.1))) ∙ h v

      front : (a b c : Bool) → b ≡ true → ((a && b) || c) ≡ false → a ≡ false
      front true true c itself e = absurd (true≢false e)
      front true false c itself e = absurd (true≢false (sym itself))
      front false b c itself e = refl

      back : (a c : Bool) → (a || c) ≡ false → c ≡ false
      back true c e = absurd (true≢false e)
      back false c e = e

      head : eq_by_cmp R q p.0 ≡ false
      head =
          front (eq_by_cmp R q p.0) (eq_by_cmp S p.1 p.1) (list_any (eq_by_cmp (pair_cmp R S) (q, p.1)) ps)
          (ap is_eq (tied_itself ov p.1)) (split p.1)

      rest : (v : V) → list_any (eq_by_cmp (pair_cmp R S) (q, v)) ps ≡ false
      rest v =
          back (eq_by_cmp R q p.0 && eq_by_cmp S v p.1) (list_any (eq_by_cmp (pair_cmp R S) (q, v)) ps) (split v)

  pub no-key : (pairs : set.FinSet (pair_cmp R S)) (q : K) → ((v : V) → set.contains pairs (q, v) ≡ false)
      → set.contains (keys_in R pairs) q ≡ false
  no-key pairs q none =
      set.contains-from_list ok (map first (set.items pairs)) q
      ∙ no-any q (set.items pairs) (λ v. sym (set.contains-items pairs (q, v)) ∙ none v)

  -- Two lists with the same pairs have the same keys.
  pub same-keys : (us vs : List (K × V))
      → ((r : K × V) → list_any (eq_by_cmp (pair_cmp R S) r) us ≡ list_any (eq_by_cmp (pair_cmp R S) r) vs) → (q : K)
      → list_any (eq_by_cmp R q) (map first us) ≡ list_any (eq_by_cmp R q) (map first vs)
  same-keys us vs same q =
      by (list_any (eq_by_cmp R q) (map first us)) refl (list_any (eq_by_cmp R q) (map first vs)) refl
    where
      none : (xs ys : List (K × V))
          → ((r : K × V) → list_any (eq_by_cmp (pair_cmp R S) r) xs ≡ list_any (eq_by_cmp (pair_cmp R S) r) ys)
          → list_any (eq_by_cmp R q) (map first xs) ≡ false → list_any (eq_by_cmp R q) (map first ys) ≡ false
      none xs ys alike out = no-any q ys (λ v. sym (alike (q, v)) ∙ each v (list_any (eq_by_cmp (pair_cmp R S) (q, v)) xs) refl)
        where
          each : (v : V) (b : Bool) → list_any (eq_by_cmp (pair_cmp R S) (q, v)) xs ≡ b
              → list_any (eq_by_cmp (pair_cmp R S) (q, v)) xs ≡ false
          each v true e = absurd (true≢false (sym (any-key q v xs e) ∙ out))
          each v false e = e

      by : (a : Bool) → list_any (eq_by_cmp R q) (map first us) ≡ a → (b : Bool)
          → list_any (eq_by_cmp R q) (map first vs) ≡ b
          → list_any (eq_by_cmp R q) (map first us) ≡ list_any (eq_by_cmp R q) (map first vs)
      by true ea true eb = ea ∙ sym eb
      by true ea false eb = absurd (true≢false (sym ea ∙ none vs us (λ r. sym (same r)) eb))
      by false ea b eb = ea ∙ sym (none us vs same ea)

  -- A key of one of three.
  pub contains-in_one : (a b c : set.FinSet (pair_cmp R S)) (q : K) → set.contains (keys_in_one R a b c) q
      ≡ (set.contains (keys_in R a) q || (set.contains (keys_in R b) q || set.contains (keys_in R c) q))
  contains-in_one a b c q =
      set.contains-union ok (keys_in R a) (set.union (keys_in R b) (keys_in R c)) q
      ∙ ap (λ t. set.contains (keys_in R a) q || t) (set.contains-union ok (keys_in R b) (keys_in R c) q)

  some-value : (s : set.FinSet S) → s ≢ set.empty → (P : Type 0) → ((v : V) → set.contains s v ≡ true → P) → P
  some-value s some P then = by (set.items s) refl
    where
      by : (vs : List V) → set.items s ≡ vs → P
      by [] e = absurd (some (set.same_set ov ev s set.empty (λ q.
          set.contains-items s q ∙ ap (list_any (eq_by_cmp S q)) e ∙ sym (set.contains-empty S q))))
      by (v ∷ vs) e =
          then v (set.contains-items s v ∙ ap (list_any (eq_by_cmp S v)) e
          ∙ ap (λ r. is_eq r || list_any (eq_by_cmp S v) vs) (tied_itself ov v))

  pub contains-stored : (m : Sets) → HaveValues m → (q : K)
      → set.contains (keys_in R (pairs_of m)) q ≡ is_some (finmap.get m q)
  contains-stored m full q = by (finmap.get m q) refl
    where
      by : (found : Option (set.FinSet S)) → finmap.get m q ≡ found
          → set.contains (keys_in R (pairs_of m)) q ≡ is_some found
      by None is = no-key (pairs_of m) q (contains-found ok ov ek ev m q None is)
      by (Some s) is =
          some-value s (subst (λ r. IfSome r (λ values. values ≢ set.empty)) is (full q))
          (set.contains (keys_in R (pairs_of m)) q ≡ true)
          (λ v here. has-key (pairs_of m) q v (contains-found ok ov ek ev m q (Some s) is v ∙ here))

  -- ---- their number

  module _ (es : List (K × set.FinSet S)) (full : HaveValues (finmap.from_entries {R = R} es)) where
    abbrev stored : set.FinSet (pair_cmp R S)
    stored = pairs_of (finmap.from_entries {R = R} es)

    abbrev names : List K
    names = map (λ (e : K × set.FinSet S). e.0) es

    pub contains-names : (q : K) → set.contains (keys_in R stored) q ≡ list_any (eq_by_cmp R q) names
    contains-names q =
        contains-stored (finmap.from_entries es) full q
        ∙ ap is_some (finmap.get-from_entries ok es q)
        ∙ found-named ok ek q es

    stored-names : keys_in R stored ≡ set.from_list names
    stored-names = set.same_set ok ek _ _ (λ q. contains-names q ∙ sym (set.contains-from_list ok names q))

    length-names : (xs : List (K × set.FinSet S)) → length (map (λ (e : K × set.FinSet S). e.0) xs) ≡ length xs
    length-names [] = refl
    length-names (x ∷ xs) = ap suc (length-names xs)

    pub len-stored : IsDistinct (eq_by_cmp R) names → set.len (keys_in R stored) ≡ length es
    len-stored distinct = ap set.len stored-names ∙ len-listed ok ek names distinct ∙ length-names es

    pub len-beyond : (first second third : set.FinSet (pair_cmp R S)) → IsDistinct (eq_by_cmp R) names
        → set.len (keys_beyond R stored first second third)
        ≡ length (filter (λ k. not (set.contains (keys_in_one R first second third) k)) names)
    len-beyond first second third distinct =
        ap set.len (set.same_set ok ek (keys_beyond R stored first second third)
        (set.retain (set.from_list names) (λ k. not (set.contains known k))) (λ q.
        set.contains-difference ok (keys_in R stored) known q
        ∙ ap (λ s. set.contains s q && not (set.contains known q)) stored-names
        ∙ sym (contains-kept ok ek (set.from_list names) (λ k. not (set.contains known k)) q)))
        ∙ len-kept-listed ok ek (λ k. not (set.contains known k)) names distinct
      where
        known : set.FinSet R
        known = keys_in_one R first second third

-- ---- entries, taken one by one

module _ {K X : Type 0} {R : K → K → Ordering} (known : set.FinSet R) where
  abbrev keys : List (K × X) → List K
  keys es = map (λ (e : K × X). e.0) es

  -- The entries whose key isn't known, and those that are left whose key is.
  abbrev pub left_count : List (K × X) → List (K × X) → ℕ
  left_count all left =
      length (filter (λ k. not (set.contains known k)) (keys all)) + length (filter (set.contains known) (keys left))

  pub left-first : (es : List (K × X)) → length es ≡ left_count es es
  left-first [] = refl
  left-first (e ∷ es) = by (left-first es) (set.contains known e.0)
    where
      by : length es ≡ left_count es es → (b : Bool)
          → suc (length es)
          ≡ length (cond (not b) (e.0 ∷ filter (λ k. not (set.contains known k)) (keys es))
          (filter (λ k. not (set.contains known k)) (keys es)))
          + length (cond b (e.0 ∷ filter (set.contains known) (keys es)) (filter (set.contains known) (keys es)))
      by rest true = omega (arith, rest)
      by rest false = omega (arith, rest)

  pub left-known : (all : List (K × X)) (e : K × X) (es : List (K × X)) → set.contains known e.0 ≡ true
      → left_count all (e ∷ es) ≡ left_count all es + 1
  left-known all e es here =
      ap (λ b. length (filter (λ k. not (set.contains known k)) (keys all))
      + length (cond b (e.0 ∷ filter (set.contains known) (keys es)) (filter (set.contains known) (keys es)))) here
      ∙ omega arith

  pub left-new : (all : List (K × X)) (e : K × X) (es : List (K × X)) → set.contains known e.0 ≡ false
      → left_count all (e ∷ es) ≡ left_count all es
  left-new all e es none =
      ap (λ b. length (filter (λ k. not (set.contains known k)) (keys all))
      + length (cond b (e.0 ∷ filter (set.contains known) (keys es)) (filter (set.contains known) (keys es)))) none

  pub left-none : (all : List (K × X))
      → left_count all [] ≡ length (filter (λ k. not (set.contains known k)) (keys all))
  left-none all = omega arith
