-- The elements of a set that is listed in order.
use Rattle.std.proofs.Common.{◌≡◌, ℕ, List, [], ◌∷◌, Bool, true, false, cond, ◌||◌, Some, is_some, refl, sym, ap, ◌∙◌, map}
use Rattle.std.specs.declared.cmp.Ordering.{Ordering}
use Rattle.std.specs.FinMap as finmap
use Rattle.std.specs.FinSet as set
use Rattle.std.specs.List.{list_any}
use Rattle.std.specs.Ordering.{eq_by_cmp, nat_cmp}
use Rattle.std.specs.Cmp.{IsTotalOrder, nat_cmp_total}
use Rattle.std.proofs.lemmas.Map.Lookups.{exact_unsigned}
use Rattle.pairs.specs.Pairs.{Numbers, sorted_numbers}

module _ {K : Type 0} {R : K → K → Ordering} (o : IsTotalOrder R) where
  is_some-find : (q : K) (ks : List K) → is_some (finmap.find R q (map (λ (k : K). (k, tt {0})) ks))
      ≡ list_any (eq_by_cmp R q) ks
  is_some-find q [] = refl
  is_some-find q (k ∷ ks) = by (eq_by_cmp R q k) ∙ ap (λ b. eq_by_cmp R q k || b) (is_some-find q ks)
    where
      by : (b : Bool) → is_some (cond b (Some (tt {0})) (finmap.find R q (map (λ (x : K). (x, tt {0})) ks)))
          ≡ (b || is_some (finmap.find R q (map (λ (x : K). (x, tt {0})) ks)))
      by true = refl
      by false = refl

  -- A list in order has the elements of the list.
  pub any-ascending : (ks : List K) (q : K) → list_any (eq_by_cmp R q)
      (finmap.keys (finmap.from_entries {R = R} (map (λ (k : K). (k, tt {0})) ks))) ≡ list_any (eq_by_cmp R q) ks
  any-ascending ks q =
      sym (finmap.contains_key-keys (finmap.from_entries {R = R} (map (λ (k : K). (k, tt {0})) ks)) q)
      ∙ ap is_some (finmap.get-from_entries o (map (λ (k : K). (k, tt {0})) ks) q)
      ∙ is_some-find q ks

pub any-sorted : (numbers : Numbers) (n : ℕ) → list_any (eq_by_cmp nat_cmp n) (sorted_numbers numbers)
    ≡ set.contains numbers n
any-sorted numbers n = any-ascending nat_cmp_total (set.items numbers) n ∙ sym (set.contains-items numbers n)

pub listed-sorted : (numbers : Numbers) → set.from_list (sorted_numbers numbers) ≡ numbers
listed-sorted numbers = set.same_set nat_cmp_total exact_unsigned _ _ (λ q.
    set.contains-from_list nat_cmp_total (sorted_numbers numbers) q ∙ any-sorted numbers q)
