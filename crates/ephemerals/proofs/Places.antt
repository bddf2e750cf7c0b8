-- Places in ascending texts.
use Rattle.std.proofs.Common.{◌≡◌, ℕ, zero, suc, ◌+◌, ◌<◌, ◌≤◌, List, [], ◌∷◌, ◌++◌, Bool, true, false, ◌||◌, length, take, drop, get_or, Result, Ok, Err, IfOk, IfErr, is_ok, refl, sym, ap, subst, ◌∙◌, arith}
use Rattle.std.specs.declared.cmp.Ordering.TheVariants.{Less, Equal, Greater}
use Rattle.std.specs.List.{AllByRecursion, AllWithin, insert, remove, list_any}
use Rattle.std.specs.List.Sorted.{IsStrictlySortedBy, IsNonDecreasingBy, IsSearchInRange, IsBinarySearchResult}
use Rattle.std.specs.Ordering.{is_lt, is_eq, eq_by_cmp, ordering_index, ordering_reverse}
use Rattle.std.specs.FinSet as set
use Rattle.std.proofs.lemmas.List.Sorted.{searchable_from_sorted}
use Rattle.std.proofs.lemmas.Map.Keys.{Less-from_sorted}
use Rattle.std.proofs.lemmas.Map.Lookups.{exact_bytes}
use Rattle.std.specs.Cmp.{eq_by_cmp_equiv}
use Rattle.values.proofs.SetSteps.{remove-insert}
use Rattle.ephemerals.specs.Orders.{Bytes, Names, path_cmp}
use Rattle.ephemerals.specs.Inner.Runs.{AreBelow, AreAbove, IsAt, IsGapFor}
use Rattle.ephemerals.proofs.Totals.{path_total}

-- ---- orders

pub flipped : (x y : Bytes) → path_cmp x y ≡ Less → path_cmp y x ≡ Greater
flipped x y l = path_total.antisymm y x ∙ ap ordering_reverse l

pub from_greater : (x y : Bytes) → path_cmp x y ≡ Greater → path_cmp y x ≡ Less
from_greater x y g = path_total.antisymm y x ∙ ap ordering_reverse g

-- ---- lists by recursion and by places

module _ {X : Type 0} (P : X → Type 0) where
  pub all_append : (xs ys : List X) → AllByRecursion P xs → AllByRecursion P ys → AllByRecursion P (xs ++ ys)
  all_append [] ys a b = b
  all_append (x ∷ xs) ys a b = (a.0, all_append xs ys a.1 b)

  pub all_front : (xs ys : List X) → AllByRecursion P (xs ++ ys) → AllByRecursion P xs
  all_front [] ys a = tt
  all_front (x ∷ xs) ys a = (a.0, all_front xs ys a.1)

  pub all_back : (xs ys : List X) → AllByRecursion P (xs ++ ys) → AllByRecursion P ys
  all_back [] ys a = a
  all_back (x ∷ xs) ys a = all_back xs ys a.1

  pub all_insert : (xs : List X) (i : ℕ) (y : X) → AllByRecursion P xs → P y → AllByRecursion P (insert xs i y)
  all_insert xs zero y a p = (p, a)
  all_insert [] (suc i) y a p = (p, tt)
  all_insert (x ∷ xs) (suc i) y a p = (a.0, all_insert xs i y a.1 p)

  pub all_take : (xs : List X) (i : ℕ) → i ≤ length xs → AllWithin P xs 0 i → AllByRecursion P (take i xs)
  all_take xs zero le h = tt
  all_take [] (suc i) le h = absurd (omega arith)
  all_take (x ∷ xs) (suc i) le h =
      (h 0 x (omega arith) (omega arith), all_take xs i (omega arith) (λ k d lo hi. h (suc k) d (omega arith) (omega arith)))

  pub all_drop : (xs : List X) (i : ℕ) → AllWithin P xs i (length xs) → AllByRecursion P (drop i xs)
  all_drop [] zero h = tt
  all_drop [] (suc i) h = tt
  all_drop (x ∷ xs) zero h =
      (h 0 x (omega arith) (omega arith), all_drop xs zero (λ k d lo hi. h (suc k) d (omega arith) (omega arith)))
  all_drop (x ∷ xs) (suc i) h = all_drop xs i (λ k d lo hi. h (suc k) d (omega arith) (omega arith))

-- ---- a search in ascending texts

not_less : (x y : Bytes) → path_cmp x y ≡ Less → is_lt (path_cmp y x) ≡ false
not_less x y l = ap is_lt (flipped x y l)

pub rising : (texts : List Bytes) (text : Bytes) → IsStrictlySortedBy path_cmp texts
    → IsNonDecreasingBy (λ (t : Bytes). ordering_index (path_cmp t text)) texts
rising texts text s = searchable_from_sorted path_total (λ (t : Bytes). t) texts text (λ k d lo hi.
    not_less (get_or texts k d) (get_or texts (k + 1) d) (Less-from_sorted path_cmp texts k (k + 1) d s (omega arith) hi))

pub searched : (texts : List Bytes) (text : Bytes) → IsStrictlySortedBy path_cmp texts → (r : Result ℕ ℕ)
    → IsSearchInRange r (length texts) → IsBinarySearchResult (λ (t : Bytes). path_cmp t text) texts r
    → IfOk r (IsAt text texts) × IfErr r (IsGapFor text texts)
searched texts text s (Ok i) bound is = (
  record { in_range = bound; is = exact_bytes (get_or texts i []) text (is []) },
  tt,
)
searched texts text s (Err i) bound is =
    let parts = is (rising texts text s) in (
      tt,
      record {
        in_range = bound;
        below = all_take (λ (t : Bytes). path_cmp t text ≡ Less) texts i bound parts.0;
        above = all_drop (λ (t : Bytes). path_cmp text t ≡ Less) texts i
            (λ k d lo hi. from_greater (get_or texts k d) text (parts.1 k d lo hi));
      },
    )

-- ---- ascending texts

pub ascending_back : (xs ys : List Bytes) → IsStrictlySortedBy path_cmp (xs ++ ys) → IsStrictlySortedBy path_cmp ys
unfolding IsStrictlySortedBy
ascending_back [] ys s = s
ascending_back (x ∷ xs) ys s = ascending_back xs ys s.1

pub ascending_front : (xs ys : List Bytes) → IsStrictlySortedBy path_cmp (xs ++ ys) → IsStrictlySortedBy path_cmp xs
unfolding IsStrictlySortedBy
ascending_front [] ys s = tt
ascending_front (x ∷ xs) ys s = (all_front (λ (y : Bytes). path_cmp x y ≡ Less) xs ys s.0, ascending_front xs ys s.1)

pub ascending_none : IsStrictlySortedBy path_cmp []
unfolding IsStrictlySortedBy
ascending_none = tt

-- A text in its gap.
pub ascending_insert : (texts : List Bytes) (i : ℕ) (text : Bytes) → IsStrictlySortedBy path_cmp texts
    → AreBelow text (take i texts) → AreAbove text (drop i texts) → IsStrictlySortedBy path_cmp (insert texts i text)
unfolding IsStrictlySortedBy
ascending_insert texts zero text s below above = (above, s)
ascending_insert [] (suc i) text s below above = (tt, tt)
ascending_insert (t ∷ texts) (suc i) text s below above =
    (all_insert (λ (y : Bytes). path_cmp t y ≡ Less) texts i text s.0 below.0, ascending_insert texts i text s.1 below.1 above)

none_above : (text : Bytes) (texts : List Bytes) → AreAbove text texts → list_any (eq_by_cmp path_cmp text) texts ≡ false
none_above text [] above = refl
none_above text (t ∷ texts) above = λ i. is_eq (above.0 i) || none_above text texts above.1 i

none_in_gap : (texts : List Bytes) (i : ℕ) (text : Bytes) → AreBelow text (take i texts) → AreAbove text (drop i texts)
    → list_any (eq_by_cmp path_cmp text) texts ≡ false
none_in_gap texts zero text below above = none_above text texts above
none_in_gap [] (suc i) text below above = refl
none_in_gap (t ∷ texts) (suc i) text below above =
    λ j. is_eq (flipped t text below.0 j) || none_in_gap texts i text below.1 above j

pub absent_in_gap : (texts : List Bytes) (i : ℕ) (text : Bytes) → IsGapFor text texts i
    → set.contains (set.from_list {R = path_cmp} texts) text ≡ false
absent_in_gap texts i text gap =
    set.contains-from_list path_total texts text ∙ none_in_gap texts i text gap.below gap.above

swapped : (a b c : Bool) → (a || (b || c)) ≡ (b || (a || c))
swapped true true c = refl
swapped true false c = refl
swapped false b c = refl

any-insert : (p : Bytes → Bool) (texts : List Bytes) (i : ℕ) (text : Bytes)
    → list_any p (insert texts i text) ≡ (p text || list_any p texts)
any-insert p texts zero text = refl
any-insert p [] (suc i) text = refl
any-insert p (t ∷ texts) (suc i) text =
    ap (λ b. p t || b) (any-insert p texts i text) ∙ swapped (p t) (p text) (list_any p texts)

pub names-insert : (texts : List Bytes) (i : ℕ) (text : Bytes)
    → set.from_list {R = path_cmp} (insert texts i text) ≡ set.insert (set.from_list texts) text
names-insert texts i text = set.same_set path_total exact_bytes _ _ (λ q.
    set.contains-from_list path_total (insert texts i text) q
    ∙ any-insert (eq_by_cmp path_cmp q) texts i text
    ∙ sym (set.contains-insert path_total (set.from_list texts) text q
    ∙ ap (λ b. eq_by_cmp path_cmp q text || b) (set.contains-from_list path_total texts q)))

-- What is left of ascending texts has a gap for the text that was removed.
pub gap-insert : (texts : List Bytes) (i : ℕ) (text : Bytes) → IsStrictlySortedBy path_cmp (insert texts i text)
    → AreBelow text (take i texts) × AreAbove text (drop i texts) × IsStrictlySortedBy path_cmp texts
unfolding IsStrictlySortedBy
gap-insert texts zero text s = (tt, s.0, s.1)
gap-insert [] (suc i) text s = (tt, tt, tt)
gap-insert (t ∷ texts) (suc i) text s =
    let rest = gap-insert texts i text s.1 in
    let first = from_insert (λ (y : Bytes). path_cmp t y ≡ Less) texts i text s.0 in
    ((first.0, rest.0), rest.1, (first.1, rest.2))
  where
    from_insert : (P : Bytes → Type 0) (xs : List Bytes) (i : ℕ) (y : Bytes) → AllByRecursion P (insert xs i y)
        → P y × AllByRecursion P xs
    from_insert P xs zero y a = (a.0, a.1)
    from_insert P [] (suc i) y a = (a.0, tt)
    from_insert P (x ∷ xs) (suc i) y a =
        let rest = from_insert P xs i y a.1 in (rest.0, (a.0, rest.1))

pub inserted_again : (texts : List Bytes) (i : ℕ) (text : Bytes) → IsAt text texts i
    → texts ≡ insert (remove texts i) i text
inserted_again [] i text at = absurd (omega (arith, at.in_range))
inserted_again (t ∷ texts) zero text at = λ j. at.is j ∷ texts
inserted_again (t ∷ texts) (suc i) text at =
    ap (λ ts. t ∷ ts) (inserted_again texts i text (record { in_range = omega (arith, at.in_range); is = at.is }))

pub record LeavesOut (text : Bytes) (texts left : List Bytes) : Type 0 where
  pub ascending : IsStrictlySortedBy path_cmp left
  pub names : set.from_list {R = path_cmp} left ≡ set.remove (set.from_list texts) text
  pub was : set.contains (set.from_list {R = path_cmp} texts) text ≡ true

pub left_out : (texts : List Bytes) (i : ℕ) (text : Bytes) → IsStrictlySortedBy path_cmp texts → IsAt text texts i
    → LeavesOut text texts (remove texts i)
left_out texts i text s at =
    let left = remove texts i in
    let again = inserted_again texts i text at in
    let gap = gap-insert left i text (subst (IsStrictlySortedBy path_cmp) again s) in
    let none : set.contains (set.from_list {R = path_cmp} left) text ≡ false =
    set.contains-from_list path_total left text ∙ none_in_gap left i text gap.0 gap.1 in
    let names = ap (λ ts. set.from_list {R = path_cmp} ts) again ∙ names-insert left i text in
    record {
      ascending = gap.2;
      names = sym (ap (λ s. set.remove s text) names ∙ remove-insert path_total exact_bytes (set.from_list left) text none);
      was = ap (λ s. set.contains s text) names ∙ set.contains-insert path_total (set.from_list left) text text
          ∙ ap (λ b. b || set.contains (set.from_list {R = path_cmp} left) text) ((eq_by_cmp_equiv path_total).refl text);
    }

-- What a search found tells whether the text is there.
pub is_found : {P : Type 0} (n : P → ℕ) (texts : List Bytes) (text : Bytes) → IsStrictlySortedBy path_cmp texts
    → (r : Result P P) → IfOk r (λ p. IsAt text texts (n p)) → IfErr r (λ p. IsGapFor text texts (n p))
    → is_ok r ≡ set.contains (set.from_list {R = path_cmp} texts) text
is_found n texts text s (Ok p) found absent = sym (left_out texts (n p) text s found).was
is_found n texts text s (Err p) found absent = sym (absent_in_gap texts (n p) text absent)
