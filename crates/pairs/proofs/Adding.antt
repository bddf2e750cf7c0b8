-- Sets that gain the elements of a list, one after the other.
use Rattle.std.proofs.Common.{◌≡◌, ℕ, ◌+◌, ◌<◌, length, get_or, drop, drop-cons, add-one, List, [], ◌∷◌, ◌++◌, Bool, true, false, ◌||◌, refl, sym, ap, ◌∙◌}
use Rattle.std.proofs.Math.Bool.{or-false}
use Rattle.std.specs.declared.cmp.Ordering.{Ordering}
use Rattle.std.specs.Ordering.{eq_by_cmp}
use Rattle.std.specs.Cmp.{IsTotalOrder}
use Rattle.std.proofs.lemmas.Map.Lookups.{CmpEqualImpliesEq}
use Rattle.std.specs.FinSet as set
use Rattle.pairs.proofs.Grouped.{any-append}

or_assoc : (a b c : Bool) → ((a || b) || c) ≡ (a || (b || c))
or_assoc true b c = refl
or_assoc false b c = refl

-- The next element of a list.
pub next_element : {A : Type 0} (xs : List A) (i : ℕ) (x : A) → i < length xs → x ≡ get_or xs i x
    → drop i xs ≡ x ∷ drop (i + 1) xs
next_element xs i x lt is = drop-cons xs i x lt ∙ (λ j. sym is j ∷ drop (sym (add-one i) j) xs)

module _ {K : Type 0} {R : K → K → Ordering} (o : IsTotalOrder R) (exact : CmpEqualImpliesEq R) where
  -- The rest of the list is still to be added, and the old set will have gained the whole one then.
  abbrev pub IsAdding : (old whole : set.FinSet R) → List K → set.FinSet R → Type 0
  IsAdding old whole rest now =
      (set.union now (set.from_list rest) ≡ set.union old whole) × (set.is_subset old now ≡ true)

  union-none : (s : set.FinSet R) → set.union s set.empty ≡ s
  union-none s = set.same_set o exact _ _ (λ q.
      set.contains-union o s set.empty q
      ∙ ap (λ b. set.contains s q || b) (set.contains-empty R q)
      ∙ or-false (set.contains s q))

  union-append : (s : set.FinSet R) (ks rest : List K)
      → set.union (set.union s (set.from_list ks)) (set.from_list rest) ≡ set.union s (set.from_list (ks ++ rest))
  union-append s ks rest = set.same_set o exact _ _ (λ q.
      set.contains-union o (set.union s (set.from_list ks)) (set.from_list rest) q
      ∙ ap (λ b. b || set.contains (set.from_list {R = R} rest) q) (set.contains-union o s (set.from_list ks) q)
      ∙ or_assoc (set.contains s q) (set.contains (set.from_list {R = R} ks) q)
      (set.contains (set.from_list {R = R} rest) q)
      ∙ ap (λ b. set.contains s q || b) (sym (both q))
      ∙ sym (set.contains-union o s (set.from_list (ks ++ rest)) q))
    where
      both : (q : K) → set.contains (set.from_list {R = R} (ks ++ rest)) q
          ≡ (set.contains (set.from_list {R = R} ks) q || set.contains (set.from_list {R = R} rest) q)
      both q =
          set.contains-from_list o (ks ++ rest) q
          ∙ any-append (eq_by_cmp R q) ks rest
          ∙ (λ i. sym (set.contains-from_list o ks q) i || sym (set.contains-from_list o rest q) i)

  insert-union : (s : set.FinSet R) (k : K) → set.insert s k ≡ set.union s (set.from_list (k ∷ []))
  insert-union s k = set.same_set o exact _ _ (λ q.
      set.contains-insert o s k q
      ∙ by (eq_by_cmp R q k) (set.contains s q)
      ∙ ap (λ b. set.contains s q || b) (sym (set.contains-from_list o (k ∷ []) q))
      ∙ sym (set.contains-union o s (set.from_list (k ∷ [])) q))
    where
      by : (t b : Bool) → (t || b) ≡ (b || (t || false))
      by true true = refl
      by true false = refl
      by false true = refl
      by false false = refl

  -- ---- subsets

  subset-union : (s t : set.FinSet R) → set.is_subset s (set.union s t) ≡ true
  subset-union s t = set.contains-is_subset o s (set.union s t) (λ q has.
      set.contains-union o s t q ∙ ap (λ b. b || set.contains t q) has)

  subset-same : (s t : set.FinSet R) → s ≡ t → set.is_subset s t ≡ true
  subset-same s t same = set.contains-is_subset o s t (λ q has. ap (λ x. set.contains x q) (sym same) ∙ has)

  subset-trans : (s t u : set.FinSet R) → set.is_subset s t ≡ true → set.is_subset t u ≡ true
      → set.is_subset s u ≡ true
  subset-trans s t u within beyond = set.contains-is_subset o s u (λ q has.
      set.is_subset-contains o t u beyond q (set.is_subset-contains o s t within q has))

  -- ---- the steps

  pub adding-first : (old whole : set.FinSet R) (all : List K) → set.from_list all ≡ whole → IsAdding old whole all old
  adding-first old whole all is = (ap (set.union old) is, subset-same old old refl)

  -- The next few are added.
  pub adding-next : (old whole now new : set.FinSet R) (next rest : List K) → IsAdding old whole (next ++ rest) now
      → new ≡ set.union now (set.from_list next) → IsAdding old whole rest new
  adding-next old whole now new next rest so_far is = (
    ap (λ s. set.union s (set.from_list rest)) is ∙ union-append now next rest ∙ so_far.0,
    subset-trans old now new so_far.1 (ap (set.is_subset now) is ∙ subset-union now (set.from_list next)),
  )

  pub adding-one : (old whole now new : set.FinSet R) (k : K) (rest : List K) → IsAdding old whole (k ∷ rest) now
      → new ≡ set.insert now k → IsAdding old whole rest new
  adding-one old whole now new k rest so_far is =
      adding-next old whole now new (k ∷ []) rest so_far (is ∙ insert-union now k)

  pub adding-last : (old whole now : set.FinSet R) → IsAdding old whole [] now → now ≡ set.union old whole
  adding-last old whole now so_far = sym (union-none now) ∙ so_far.0

  -- To nothing.
  pub adding-all : (whole now : set.FinSet R) → IsAdding set.empty whole [] now → now ≡ whole
  adding-all whole now so_far =
      adding-last set.empty whole now so_far
      ∙ set.same_set o exact _ _ (λ q.
      set.contains-union o set.empty whole q
      ∙ ap (λ b. b || set.contains whole q) (set.contains-empty R q))

  -- Some of the next few were added, and then an allocation was refused.
  pub adding-refused : (old whole now new : set.FinSet R) (next rest : List K) → IsAdding old whole (next ++ rest) now
      → set.is_subset now new ≡ true → set.is_subset new (set.union now (set.from_list next)) ≡ true
      → (set.is_subset old new ≡ true) × (set.is_subset new (set.union old whole) ≡ true)
  adding-refused old whole now new next rest so_far keeps adds = (
    subset-trans old now new so_far.1 keeps,
    subset-trans new (set.union now (set.from_list next)) (set.union old whole) adds
        (subset-trans (set.union now (set.from_list next))
        (set.union (set.union now (set.from_list next)) (set.from_list rest)) (set.union old whole)
        (subset-union (set.union now (set.from_list next)) (set.from_list rest))
        (subset-same _ _ (union-append now next rest ∙ so_far.0))),
  )

  pub adding-stopped : (old whole now new : set.FinSet R) (rest : List K) → IsAdding old whole rest now → new ≡ now
      → (set.is_subset old new ≡ true) × (set.is_subset new (set.union old whole) ≡ true)
  adding-stopped old whole now new rest so_far same =
      adding-refused old whole now new [] rest so_far (subset-same now new (sym same))
      (subset-same new (set.union now (set.from_list [])) (same ∙ sym (union-none now)))

  -- Nothing was added.
  pub adding-untouched : (old whole : set.FinSet R)
      → (set.is_subset old old ≡ true) × (set.is_subset old (set.union old whole) ≡ true)
  adding-untouched old whole = (subset-same old old refl, subset-union old whole)

  pub adding-unchanged : (old whole new : set.FinSet R) → new ≡ old
      → (set.is_subset old new ≡ true) × (set.is_subset new (set.union old whole) ≡ true)
  adding-unchanged old whole new same =
      (subset-same old new (sym same), subset-trans new old (set.union old whole) (subset-same new old same) (subset-union old whole))
