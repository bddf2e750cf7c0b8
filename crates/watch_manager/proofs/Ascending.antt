-- Lists in ascending order: inserting one more value, and equality of two lists.
use Rattle.std.proofs.Common.{◌≡◌, Bool, true, false, cond, ◌||◌, List, [], ◌∷◌, ◌++◌, map, Some, None, refl, sym, ap, ◌∙◌, append-nil, append_assoc}
use Rattle.std.specs.declared.cmp.Ordering.{Ordering}
use Rattle.std.specs.declared.cmp.Ordering.TheVariants.{Less, Equal, Greater}
use Rattle.std.specs.BTreeSet.{insert_key}
use Rattle.std.specs.FinMap as finmap
use Rattle.std.specs.FinMap.Entries.{by_order}
use Rattle.std.specs.List.{list_any}
use Rattle.std.specs.Ordering.{eq_by_cmp, match_ordering}
use Rattle.std.specs.Cmp.{IsTotalOrder}
use Rattle.std.proofs.lemmas.Map.Lookups.{CmpEqualImpliesEq}
use Rattle.values.proofs.Keyed.{entries-empty}
use Rattle.watch_manager.specs.Ascending.{sorted_distinct, with_inserted_keys}

pub any-push : {K : Type 0} (test : K → Bool) (ks : List K) (k : K)
    → list_any test (ks ++ k ∷ []) ≡ list_any test (k ∷ ks)
any-push test [] k = refl
any-push test (x ∷ ks) k =
    ap (λ b. test x || b) (any-push test ks k) ∙ or_swap (test x) (test k) (list_any test ks)
  where
    or_swap : (a b c : Bool) → (a || (b || c)) ≡ (b || (a || c))
    or_swap true true c = refl
    or_swap true false c = refl
    or_swap false b c = refl

module _ {K : Type 0} {R : K → K → Ordering} (o : IsTotalOrder R) where
  abbrev marked : List K → List (K × Unit {0})
  marked ks = map (λ (k : K). (k, tt {0})) ks

  abbrev unmarked : List (K × Unit {0}) → List K
  unmarked es = map (λ (e : K × Unit {0}). e.0) es

  pub ascending-nil : sorted_distinct R [] ≡ []
  ascending-nil = ap unmarked (entries-empty R)

  unmarked-put : (k : K) (es : List (K × Unit {0}))
      → unmarked (finmap.put R k (tt {0}) es) ≡ insert_key R (unmarked es) k
  unmarked-put k [] = refl
  unmarked-put k (e ∷ es) = by (unmarked-put k es) (R k e.0)
    where
      by : unmarked (finmap.put R k (tt {0}) es) ≡ insert_key R (unmarked es) k → (r : Ordering)
          → unmarked (by_order r ((k, tt {0}) ∷ e ∷ es) ((e.0, tt {0}) ∷ es) (e ∷ finmap.put R k (tt {0}) es))
          ≡ match_ordering r (k ∷ e.0 ∷ unmarked es) (e.0 ∷ unmarked es) (e.0 ∷ insert_key R (unmarked es) k)
      by later Less = refl
      by later Equal = refl
      by later Greater = ap (λ ks. e.0 ∷ ks) later

  -- The last value is inserted in its place.
  pub ascending-cons : (k : K) (ks : List K) → sorted_distinct R (k ∷ ks) ≡ insert_key R (sorted_distinct R ks) k
  ascending-cons k ks =
      ap unmarked (finmap.entries-insert o (finmap.from_entries {R = R} (marked ks)) k (tt {0}))
      ∙ unmarked-put k (finmap.entries (finmap.from_entries {R = R} (marked ks)))

  -- A computation of the list.
  abbrev pub placed : List K → List K
  placed [] = []
  placed (k ∷ ks) = insert_key R (placed ks) k

  pub ascending-placed : (ks : List K) → sorted_distinct R ks ≡ placed ks
  ascending-placed [] = ascending-nil
  ascending-placed (k ∷ ks) = ascending-cons k ks ∙ ap (λ xs. insert_key R xs k) (ascending-placed ks)

  find-marked : (q : K) (ks : List K) → finmap.find R q (marked ks)
      ≡ cond (list_any (eq_by_cmp R q) ks) (Some (tt {0})) None
  find-marked q [] = refl
  find-marked q (k ∷ ks) =
      ap (cond (eq_by_cmp R q k) (Some (tt {0}))) (find-marked q ks)
      ∙ by (eq_by_cmp R q k) (list_any (eq_by_cmp R q) ks)
    where
      by : (x y : Bool) → cond x (Some (tt {0})) (cond y (Some (tt {0})) None) ≡ cond (x || y) (Some (tt {0})) None
      by true y = refl
      by false y = refl

  module _ (exact : CmpEqualImpliesEq R) where
    -- Two lists with the same values are the same when sorted.
    pub same_ascending : (xs ys : List K)
        → ((q : K) → list_any (eq_by_cmp R q) xs ≡ list_any (eq_by_cmp R q) ys)
        → sorted_distinct R xs ≡ sorted_distinct R ys
    same_ascending xs ys same = ap (λ m. finmap.keys m) (finmap.same_map o exact _ _ (λ q.
        finmap.get-from_entries o (marked xs) q ∙ find-marked q xs
        ∙ ap (λ b. cond b (Some (tt {0})) None) (same q)
        ∙ sym (finmap.get-from_entries o (marked ys) q ∙ find-marked q ys)))

    -- The order of the values makes no difference.
    pub insert-ascending : (ks : List K) (k : K)
        → insert_key R (sorted_distinct R ks) k ≡ sorted_distinct R (ks ++ k ∷ [])
    insert-ascending ks k =
        sym (ascending-cons k ks)
        ∙ same_ascending (k ∷ ks) (ks ++ k ∷ []) (λ q. sym (any-push (eq_by_cmp R q) ks k))

    pub inserted-ascending : (before ks : List K)
        → with_inserted_keys R (sorted_distinct R before) ks ≡ sorted_distinct R (before ++ ks)
    inserted-ascending before [] = ap (λ xs. sorted_distinct R xs) (sym (append-nil before))
    inserted-ascending before (k ∷ ks) =
        ap (λ xs. with_inserted_keys R xs ks) (insert-ascending before k)
        ∙ inserted-ascending (before ++ k ∷ []) ks
        ∙ ap (λ xs. sorted_distinct R xs) (append_assoc before (k ∷ []) ks)
