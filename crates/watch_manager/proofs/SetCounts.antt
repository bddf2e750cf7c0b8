-- The number of elements of a union.
use Rattle.std.proofs.Common.{◌≡◌, ◌+◌, Bool, true, false, not, ◌||◌, ◌&&◌, refl, sym, ap, ◌∙◌, arith}
use Rattle.std.specs.declared.cmp.Ordering.{Ordering}
use Rattle.std.specs.Cmp.{IsTotalOrder}
use Rattle.std.proofs.lemmas.Map.Lookups.{CmpEqualImpliesEq}
use Rattle.std.specs.FinSet as set
use Rattle.pairs.proofs.SetCounts.{contains-kept, len-parts}

module _ {K : Type 0} {R : K → K → Ordering} (o : IsTotalOrder R) (exact : CmpEqualImpliesEq R) where
  pub len-either : (s t u : set.FinSet R) → ((q : K) → set.contains u q ≡ (set.contains s q || set.contains t q))
      → set.len s + set.len (set.difference t s) ≡ set.len u
  len-either s t u is =
      (λ i. set.len (front i) + set.len (rest i)) ∙ len-parts o exact (set.contains s) u
    where
      absorb : (a b : Bool) → a ≡ ((a || b) && a)
      absorb true b = refl
      absorb false true = refl
      absorb false false = refl

      front : s ≡ set.retain u (set.contains s)
      front = set.same_set o exact _ _ (λ q.
          absorb (set.contains s q) (set.contains t q)
          ∙ ap (λ b. b && set.contains s q) (sym (is q))
          ∙ sym (contains-kept o exact u (set.contains s) q))

      cut : (a b : Bool) → (b && not a) ≡ ((a || b) && not a)
      cut true true = refl
      cut true false = refl
      cut false b = refl

      rest : set.difference t s ≡ set.retain u (λ k. not (set.contains s k))
      rest = set.same_set o exact _ _ (λ q.
          set.contains-difference o t s q
          ∙ cut (set.contains s q) (set.contains t q)
          ∙ ap (λ b. b && not (set.contains s q)) (sym (is q))
          ∙ sym (contains-kept o exact u (λ k. not (set.contains s k)) q))

  -- Four sets together: those of the first, and of each other one those that none before it has.
  pub len-four : (a b c d all : set.FinSet R)
      → ((q : K) → set.contains all q
      ≡ (set.contains a q || (set.contains b q || (set.contains c q || set.contains d q))))
      → set.len a + set.len (set.difference b (set.union a (set.union a a)))
      + set.len (set.difference c (set.union a (set.union b b)))
      + set.len (set.difference d (set.union a (set.union b c)))
      ≡ set.len all
  len-four a b c d all is =
      let one = set.union a (set.union a a) in
      let two = set.union a (set.union b b) in
      let three = set.union a (set.union b c) in
      let first : a ≡ one = set.same_set o exact _ _ (λ q. thrice (set.contains a q) ∙ sym (united a a a q)) in
      let second = len-either one b two (λ q. united a b b q ∙ twice (set.contains a q) (set.contains b q)
      ∙ ap (λ x. x || set.contains b q) (sym (united a a a q))) in
      let third = len-either two c three (λ q. united a b c q
      ∙ again (set.contains a q) (set.contains b q) (set.contains c q)
      ∙ ap (λ x. x || set.contains c q) (sym (united a b b q))) in
      let fourth = len-either three d all (λ q. is q
      ∙ last (set.contains a q) (set.contains b q) (set.contains c q) (set.contains d q)
      ∙ ap (λ x. x || set.contains d q) (sym (united a b c q))) in
      omega (arith, ap set.len first, second, third, fourth)
    where
      united : (x y z : set.FinSet R) (q : K) → set.contains (set.union x (set.union y z)) q
          ≡ (set.contains x q || (set.contains y q || set.contains z q))
      united x y z q =
          set.contains-union o x (set.union y z) q
          ∙ ap (λ b. set.contains x q || b) (set.contains-union o y z q)

      thrice : (x : Bool) → x ≡ (x || (x || x))
      thrice true = refl
      thrice false = refl

      twice : (x y : Bool) → (x || (y || y)) ≡ ((x || (x || x)) || y)
      twice true y = refl
      twice false true = refl
      twice false false = refl

      again : (x y z : Bool) → (x || (y || z)) ≡ ((x || (y || y)) || z)
      again true y z = refl
      again false true z = refl
      again false false z = refl

      last : (x y z w : Bool) → (x || (y || (z || w))) ≡ ((x || (y || z)) || w)
      last true y z w = refl
      last false true z w = refl
      last false false z w = refl
