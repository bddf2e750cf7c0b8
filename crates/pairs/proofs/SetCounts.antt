-- The number of elements of a set: of its parts, of its image, and of a list.
use Rattle.std.proofs.Common.{◌≡◌, ℕ, ◌+◌, ◌-◌, ◌≤◌, zero, suc, List, [], ◌∷◌, Bool, true, false, cond, not, ◌||◌, ◌&&◌, Option, Some, is_some, refl, sym, ap, subst, ◌∙◌, map, length, arith}
use mathlib.Core.Bool.{true≢false}
use Rattle.std.proofs.Math.Bool.{and-false}
use Rattle.std.specs.declared.cmp.Ordering.{Ordering}
use Rattle.std.specs.List.{list_any, filter, AllByRecursion, IsDistinct}
use Rattle.std.specs.Ordering.{eq_by_cmp}
use Rattle.std.specs.Cmp.{IsTotalOrder}
use Rattle.std.proofs.lemmas.Map.Keys.{IsDistinct-head, IsDistinct-tail}
use Rattle.std.proofs.lemmas.Map.Views.{tells_apart}
use Rattle.std.proofs.lemmas.Map.Lookups.{CmpEqualImpliesEq}
use Rattle.std.specs.FinMap as finmap
use Rattle.std.specs.FinSet as set
use Rattle.values.proofs.SetSteps.{insert-present}

module _ {K : Type 0} {R : K → K → Ordering} (o : IsTotalOrder R) (exact : CmpEqualImpliesEq R) where
  pub contains-kept : (s : set.FinSet R) (p : K → Bool) (q : K)
      → set.contains (set.retain s p) q ≡ (set.contains s q && p q)
  contains-kept s p q = set.contains-retain s p q (λ x tie. ap p (sym (exact q x tie)))

  pub relisted : (s : set.FinSet R) → set.from_list (set.items s) ≡ s
  relisted s = set.same_set o exact _ _
      (λ q. set.contains-from_list o (set.items s) q ∙ sym (set.contains-items s q))

  pub len-insert-new : (s : set.FinSet R) (k : K) → set.contains s k ≡ false
      → set.len (set.insert s k) ≡ set.len s + 1
  len-insert-new s k new = set.len-insert o s k ∙ ap (λ b. cond b (set.len s) (set.len s + 1)) new

  -- An element less, or none.
  pub remove-absent : (s : set.FinSet R) (k : K) → set.contains s k ≡ false → s ≡ set.remove s k
  remove-absent s k none = set.same_set o exact _ _ (λ q.
      by q (eq_by_cmp R q k) refl ∙ sym (set.contains-remove o s k q))
    where
      by : (q : K) (t : Bool) → eq_by_cmp R q k ≡ t → set.contains s q ≡ (not t && set.contains s q)
      by q true tie = ap (set.contains s) (tells_apart exact q k tie) ∙ none
      by q false tie = refl

  pub len-remove-present : (s : set.FinSet R) (k : K) (count : ℕ) → count ≡ set.len s → set.contains s k ≡ true
      → count - 1 ≡ set.len (set.remove s k)
  len-remove-present s k count is here =
      ap (λ n. n - 1) is
      ∙ sym (set.len-remove o s k ∙ ap (λ b. cond b (set.len s - 1) (set.len s)) here)

  pub some-present : (s : set.FinSet R) (k : K) (count : ℕ) → count ≡ set.len s → set.contains s k ≡ true → 1 ≤ count
  some-present s k zero is here =
      absurd (true≢false
      (sym here ∙ ap (λ t. set.contains t k) (set.empty_of_len s (sym is)) ∙ set.contains-empty R k))
  some-present s k (suc count) is here = omega arith

  -- ---- a set in two parts

  kept-insert : (s : set.FinSet R) (p : K → Bool) (k : K) → p k ≡ true
      → set.retain (set.insert s k) p ≡ set.insert (set.retain s p) k
  kept-insert s p k e = set.same_set o exact _ _ (λ q.
      contains-kept (set.insert s k) p q
      ∙ ap (λ b. b && p q) (set.contains-insert o s k q)
      ∙ by q (eq_by_cmp R q k) refl
      ∙ ap (λ b. eq_by_cmp R q k || b) (sym (contains-kept s p q))
      ∙ sym (set.contains-insert o (set.retain s p) k q))
    where
      by : (q : K) (t : Bool) → eq_by_cmp R q k ≡ t
          → ((t || set.contains s q) && p q) ≡ (t || (set.contains s q && p q))
      by q true tie = ap p (tells_apart exact q k tie) ∙ e
      by q false tie = refl

  left-insert : (s : set.FinSet R) (p : K → Bool) (k : K) → p k ≡ false
      → set.retain (set.insert s k) p ≡ set.retain s p
  left-insert s p k e = set.same_set o exact _ _ (λ q.
      contains-kept (set.insert s k) p q
      ∙ ap (λ b. b && p q) (set.contains-insert o s k q)
      ∙ by q (eq_by_cmp R q k) refl
      ∙ sym (contains-kept s p q))
    where
      by : (q : K) (t : Bool) → eq_by_cmp R q k ≡ t → ((t || set.contains s q) && p q) ≡ (set.contains s q && p q)
      by q true tie =
          let out : p q ≡ false = ap p (tells_apart exact q k tie) ∙ e in
          out ∙ sym (ap (λ b. set.contains s q && b) out ∙ and-false (set.contains s q))
      by q false tie = refl

  none-kept : (p : K → Bool) → set.len (set.retain (set.empty {R = R}) p) ≡ 0
  none-kept p =
      ap set.len (set.same_set o exact (set.retain set.empty p) set.empty (λ q. contains-kept set.empty p q
      ∙ ap (λ b. b && p q) (set.contains-empty R q) ∙ sym (set.contains-empty R q)))
      ∙ set.len-empty R

  -- A new element goes into one of the parts.
  len-kept-new : (s : set.FinSet R) (p : K → Bool) (k : K) → set.contains s k ≡ false → p k ≡ true
      → set.len (set.retain (set.insert s k) p) ≡ set.len (set.retain s p) + 1
  len-kept-new s p k new e =
      ap set.len (kept-insert s p k e)
      ∙ len-insert-new (set.retain s p) k (contains-kept s p k ∙ ap (λ b. b && p k) new)

  abbrev PartsAddUp : (K → Bool) → set.FinSet R → Type 0
  PartsAddUp p s = set.len (set.retain s p) + set.len (set.retain s (λ k. not (p k))) ≡ set.len s

  parts-grow : (p : K → Bool) (s : set.FinSet R) (k : K) → set.contains s k ≡ false → PartsAddUp p s
      → PartsAddUp p (set.insert s k)
  parts-grow p s k new sum = by (p k) refl
    where
      more : set.len (set.insert s k) ≡ set.len s + 1
      more = len-insert-new s k new

      by : (b : Bool) → p k ≡ b → PartsAddUp p (set.insert s k)
      by true e =
          let mine = len-kept-new s p k new e in
          let rest = ap set.len (left-insert s (λ x. not (p x)) k (ap not e)) in
          omega (arith, more, mine, rest, sum)
      by false e =
          let mine = ap set.len (left-insert s p k e) in
          let rest = len-kept-new s (λ x. not (p x)) k new (ap not e) in
          omega (arith, more, mine, rest, sum)

  parts-listed : (p : K → Bool) (ks : List K) → PartsAddUp p (set.from_list ks)
  parts-listed p [] = omega (arith, none-kept p, none-kept (λ k. not (p k)), set.len-empty R)
  parts-listed p (k ∷ ks) = by (parts-listed p ks) (set.contains (set.from_list {R = R} ks) k) refl
    where
      by : PartsAddUp p (set.from_list ks) → (b : Bool) → set.contains (set.from_list {R = R} ks) k ≡ b
          → PartsAddUp p (set.insert (set.from_list ks) k)
      by sum true here = subst (PartsAddUp p) (insert-present o exact (set.from_list ks) k here) sum
      by sum false new = parts-grow p (set.from_list ks) k new sum

  pub len-parts : (p : K → Bool) (s : set.FinSet R)
      → set.len (set.retain s p) + set.len (set.retain s (λ k. not (p k))) ≡ set.len s
  len-parts p s = subst (PartsAddUp p) (relisted s) (parts-listed p (set.items s))

  -- ---- a list of distinct elements

  not_among : (k : K) (ks : List K) → AllByRecursion (λ y. eq_by_cmp R k y ≡ false) ks
      → set.contains (set.from_list {R = R} ks) k ≡ false
  not_among k ks h = set.contains-from_list o ks k ∙ none ks h
    where
      none : (ys : List K) → AllByRecursion (λ y. eq_by_cmp R k y ≡ false) ys → list_any (eq_by_cmp R k) ys ≡ false
      none [] g = refl
      none (y ∷ ys) g = λ i. g.0 i || none ys g.1 i

  pub len-listed : (ks : List K) → IsDistinct (eq_by_cmp R) ks → set.len (set.from_list {R = R} ks) ≡ length ks
  len-listed [] d = set.len-empty R
  len-listed (k ∷ ks) d =
      let rest = len-listed ks (IsDistinct-tail (eq_by_cmp R) k ks d) in
      let new = len-insert-new (set.from_list ks) k (not_among k ks (IsDistinct-head (eq_by_cmp R) k ks d)) in
      omega (arith, rest, new)

  pub len-kept-listed : (p : K → Bool) (ks : List K) → IsDistinct (eq_by_cmp R) ks
      → set.len (set.retain (set.from_list {R = R} ks) p) ≡ length (filter p ks)
  len-kept-listed p [] d = none-kept p
  len-kept-listed p (k ∷ ks) d = by (len-kept-listed p ks (IsDistinct-tail (eq_by_cmp R) k ks d)) (p k) refl
    where
      by : set.len (set.retain (set.from_list {R = R} ks) p) ≡ length (filter p ks) → (b : Bool) → p k ≡ b
          → set.len (set.retain (set.insert (set.from_list {R = R} ks) k) p) ≡ length (cond b (k ∷ filter p ks) (filter p ks))
      by rest true e =
          let more = len-kept-new (set.from_list ks) p k (not_among k ks (IsDistinct-head (eq_by_cmp R) k ks d)) e in
          omega (arith, rest, more)
      by rest false e = ap set.len (left-insert (set.from_list ks) p k e) ∙ rest

  -- ---- the keys of a map

  module _ {X : Type 0} where
    pub found-named : (q : K) (es : List (K × X))
        → is_some (finmap.find R q es) ≡ list_any (eq_by_cmp R q) (map (λ (e : K × X). e.0) es)
    found-named q [] = refl
    found-named q (e ∷ es) =
        by (eq_by_cmp R q e.0) (finmap.find R q es) ∙ ap (λ b. eq_by_cmp R q e.0 || b) (found-named q es)
      where
        by : (b : Bool) (found : Option X) → is_some (cond b (Some e.1) found) ≡ (b || is_some found)
        by true found = refl
        by false found = refl

-- ---- an image

module _ {K L : Type 0} {R : K → K → Ordering} {S : L → L → Ordering} (o : IsTotalOrder R) (exact : CmpEqualImpliesEq R)
    (p : IsTotalOrder S) (f : K → L) (alike : (a b : K) → eq_by_cmp S (f a) (f b) ≡ eq_by_cmp R a b) where
  any-image : (k : K) (ks : List K) → list_any (eq_by_cmp S (f k)) (map f ks) ≡ list_any (eq_by_cmp R k) ks
  any-image k [] = refl
  any-image k (x ∷ xs) = (λ i. alike k x i || any-image k xs i)

  len-image-listed : (ks : List K) → set.len (set.from_list {R = S} (map f ks)) ≡ set.len (set.from_list {R = R} ks)
  len-image-listed [] = set.len-empty S ∙ sym (set.len-empty R)
  len-image-listed (k ∷ ks) =
      set.len-insert p (set.from_list (map f ks)) (f k)
      ∙ (λ i. cond (there i) (len-image-listed ks i) (len-image-listed ks i + 1))
      ∙ sym (set.len-insert o (set.from_list ks) k)
    where
      there : set.contains (set.from_list {R = S} (map f ks)) (f k) ≡ set.contains (set.from_list {R = R} ks) k
      there =
          set.contains-from_list p (map f ks) (f k)
          ∙ any-image k ks
          ∙ sym (set.contains-from_list o ks k)

  pub len-image : (s : set.FinSet R) → set.len (set.from_list {R = S} (map f (set.items s))) ≡ set.len s
  len-image s = len-image-listed (set.items s) ∙ ap set.len (relisted o exact s)
