-- Maps and sets read as finite maps and finite sets: what is at each key after a change, and the keys in order.
use Rattle.std.proofs.Common.{◌≡◌, ◌⊎◌, inl, inr, ℕ, ◌+◌, List, [], ◌∷◌, Bool, true, false, cond, not, ◌||◌, ◌&&◌, Option, Some, None, IfSome, refl, sym, ap, subst, ◌∙◌, map, length, string_bytes, arith}
use Rattle.std.specs.BTreeMap as tree
use Rattle.std.specs.BTreeMap.{BTreeMap, is_at}
use Rattle.std.specs.BTreeSet as sorted
use Rattle.std.specs.BTreeSet.{BTreeSet}
use Rattle.std.specs.Map.{lookup, keys_of}
use Rattle.std.specs.List.{list_any, All, AllByRecursion, AllZip}
use Rattle.std.specs.List.Sorted.{IsStrictlySortedBy}
use Rattle.std.specs.Str.{bytes_eq}
use Rattle.std.specs.String.{string_cmp}
use Rattle.std.specs.declared.string.String.{String}
use Rattle.std.specs.declared.cmp.Ordering.{Ordering}
use Rattle.std.specs.declared.cmp.Ordering.TheVariants.{Less}
use Rattle.std.specs.Ordering.{eq_by_cmp, is_eq, nat_cmp}
use Rattle.std.specs.Cmp.{IsTotalOrder, eq_by_cmp_equiv}
use Rattle.std.specs.Cmp.Lexicographic.{slice_cmp, nat_list_cmp_total}
use Rattle.std.proofs.lemmas.List.{nil_from_length, length-map}
use Rattle.std.proofs.lemmas.List.Elements.{recursion_from_All}
use Rattle.std.proofs.lemmas.Option.{none-some}
use Rattle.std.proofs.lemmas.Map.Keys.{sorted_head, sorted_tail}
use Rattle.std.proofs.lemmas.Map.Lookups.{CmpEqualImpliesEq, exact_bytes}
use Rattle.std.proofs.lemmas.Map.Text.{btree_map_updates_text, btree_set_updates_text, is_eq-slice_cmp}
use Rattle.std.proofs.lemmas.Map.Views.{tells_apart}
use Rattle.std.specs.FinMap as finmap
use Rattle.std.specs.FinMap.Entries.{by_order}
use Rattle.std.specs.FinSet as set
use mathlib.Core.Bool.{true≢false}

pub some-some : {A : Type 0} {x y : A} → Some x ≡ Some y → x ≡ y
some-some e = cc

pub not-some : {A : Type 0} (r : Option A) → ((x : A) → r ≡ Some x → ⊥) → r ≡ None
not-some None h = refl
not-some (Some x) h = absurd (h x refl)

-- The finite map of a map's entries, and the finite set of a set's keys.
abbrev pub map_of : {K X : Type 0} (R : K → K → Ordering) → List (K × X) → finmap.FinMap R X
map_of R es = finmap.from_entries es

abbrev pub set_of : {K : Type 0} (R : K → K → Ordering) → List K → set.FinSet R
set_of R ks = set.from_list ks

-- ---- two keys are the same, or the order tells them apart

module _ {K : Type 0} {R : K → K → Ordering} (o : IsTotalOrder R) (exact : CmpEqualImpliesEq R) where
  pub same_or_other : (q k : K) → (q ≡ k) ⊎ (eq_by_cmp R q k ≡ false)
  same_or_other q k = by (eq_by_cmp R q k) refl
    where
      by : (t : Bool) → eq_by_cmp R q k ≡ t → (q ≡ k) ⊎ (eq_by_cmp R q k ≡ false)
      by true e = inl (tells_apart exact q k e)
      by false e = inr e

  pub apart : (q k : K) → eq_by_cmp R q k ≡ false → q ≡ k → ⊥
  apart q k f e = true≢false (sym ((eq_by_cmp_equiv o).refl k) ∙ ap (λ x. eq_by_cmp R x k) (sym e) ∙ f)

  pub other : (q k : K) → (q ≡ k → ⊥) → eq_by_cmp R q k ≡ false
  other q k h = by (same_or_other q k)
    where
      by : (q ≡ k) ⊎ (eq_by_cmp R q k ≡ false) → eq_by_cmp R q k ≡ false
      by (inl e) = absurd (h e)
      by (inr f) = f

-- ---- maps

module _ {K X : Type 0} {R : K → K → Ordering} (o : IsTotalOrder R) (exact : CmpEqualImpliesEq R) where
  insert_from_get : (m n : finmap.FinMap R X) (k : K) (v : X)
      → ((q : K) → finmap.get n q ≡ cond (eq_by_cmp R q k) (Some v) (finmap.get m q)) → n ≡ finmap.insert m k v
  insert_from_get m n k v is = finmap.same_map o exact _ _ (λ q. is q ∙ sym (finmap.get-insert o m k v q))

  remove_from_get : (m n : finmap.FinMap R X) (k : K)
      → ((q : K) → finmap.get n q ≡ cond (eq_by_cmp R q k) None (finmap.get m q)) → n ≡ finmap.remove m k
  remove_from_get m n k is = finmap.same_map o exact _ _ (λ q. is q ∙ sym (finmap.get-remove o m k q))

  find-lookup : (es : List (K × X)) (q : K) → finmap.find R q es ≡ lookup (is_at (R q)) es
  find-lookup [] q = refl
  find-lookup (e ∷ es) q = ap (cond (eq_by_cmp R q e.0) (Some e.1)) (find-lookup es q)

  pub get-map_of : (m : BTreeMap K X) (q : K) → finmap.get (map_of R m.entries) q ≡ tree.get R m q
  get-map_of m q = finmap.get-from_entries o m.entries q ∙ find-lookup m.entries q

  get-updated : (k : K) (m n : BTreeMap K X) (w : Option X) → tree.UpdatesBy R (R k) m n w → (q : K)
      → finmap.get (map_of R n.entries) q ≡ cond (eq_by_cmp R q k) w (finmap.get (map_of R m.entries) q)
  get-updated k m n w u q =
      get-map_of n q ∙ u.0 q
      ∙ ap (λ b. cond b w (tree.get R m q)) ((eq_by_cmp_equiv o).symm k q)
      ∙ ap (cond (eq_by_cmp R q k) w) (sym (get-map_of m q))

  pub map_of-insert : (k : K) (m n : BTreeMap K X) (v : X) → tree.UpdatesBy R (R k) m n (Some v)
      → map_of R n.entries ≡ finmap.insert (map_of R m.entries) k v
  map_of-insert k m n v u = insert_from_get _ _ k v (get-updated k m n (Some v) u)

  pub map_of-remove : (k : K) (m n : BTreeMap K X) → tree.UpdatesBy R (R k) m n None
      → map_of R n.entries ≡ finmap.remove (map_of R m.entries) k
  map_of-remove k m n u = remove_from_get _ _ k (get-updated k m n None u)

  -- ---- at the key itself, and elsewhere

  pub inserted : (m : finmap.FinMap R X) (k : K) (v : X) → finmap.get (finmap.insert m k v) k ≡ Some v
  inserted m k v =
      finmap.get-insert o m k v k ∙ ap (λ b. cond b (Some v) (finmap.get m k)) ((eq_by_cmp_equiv o).refl k)

  pub inserted_elsewhere : (m : finmap.FinMap R X) (k : K) (v : X) (q : K) → eq_by_cmp R q k ≡ false
      → finmap.get (finmap.insert m k v) q ≡ finmap.get m q
  inserted_elsewhere m k v q e = finmap.get-insert o m k v q ∙ ap (λ b. cond b (Some v) (finmap.get m q)) e

  pub removed : (m : finmap.FinMap R X) (k : K) → finmap.get (finmap.remove m k) k ≡ None
  removed m k = finmap.get-remove o m k k ∙ ap (λ b. cond b None (finmap.get m k)) ((eq_by_cmp_equiv o).refl k)

  pub removed_elsewhere : (m : finmap.FinMap R X) (k q : K) → eq_by_cmp R q k ≡ false
      → finmap.get (finmap.remove m k) q ≡ finmap.get m q
  removed_elsewhere m k q e = finmap.get-remove o m k q ∙ ap (λ b. cond b None (finmap.get m q)) e

  -- ---- two changes

  same_by_key : (m n : finmap.FinMap R X) (k : K) → finmap.get m k ≡ finmap.get n k
      → ((q : K) → eq_by_cmp R q k ≡ false → finmap.get m q ≡ finmap.get n q) → m ≡ n
  same_by_key m n k here elsewhere = finmap.same_map o exact m n (λ q. by q (same_or_other o exact q k))
    where
      by : (q : K) → (q ≡ k) ⊎ (eq_by_cmp R q k ≡ false) → finmap.get m q ≡ finmap.get n q
      by q (inl e) = ap (finmap.get m) e ∙ here ∙ sym (ap (finmap.get n) e)
      by q (inr f) = elsewhere q f

  pub insert_same : (m : finmap.FinMap R X) (k : K) (v : X) → finmap.get m k ≡ Some v → finmap.insert m k v ≡ m
  insert_same m k v there = same_by_key _ _ k (inserted m k v ∙ sym there) (inserted_elsewhere m k v)

  pub remove_absent : (m : finmap.FinMap R X) (k : K) → finmap.get m k ≡ None → finmap.remove m k ≡ m
  remove_absent m k none = same_by_key _ _ k (removed m k ∙ sym none) (removed_elsewhere m k)

  pub remove_inserted : (m : finmap.FinMap R X) (k : K) (v : X)
      → finmap.remove (finmap.insert m k v) k ≡ finmap.remove m k
  remove_inserted m k v = same_by_key _ _ k (removed (finmap.insert m k v) k ∙ sym (removed m k)) (λ q e.
      removed_elsewhere (finmap.insert m k v) k q e ∙ inserted_elsewhere m k v q e ∙ sym (removed_elsewhere m k q e))

  pub insert_removed : (m : finmap.FinMap R X) (k : K) (v : X)
      → finmap.insert (finmap.remove m k) k v ≡ finmap.insert m k v
  insert_removed m k v = same_by_key _ _ k (inserted (finmap.remove m k) k v ∙ sym (inserted m k v)) (λ q e.
      inserted_elsewhere (finmap.remove m k) k v q e ∙ removed_elsewhere m k q e ∙ sym (inserted_elsewhere m k v q e))

  pub insert_inserted : (m : finmap.FinMap R X) (k : K) (v w : X)
      → finmap.insert (finmap.insert m k w) k v ≡ finmap.insert m k v
  insert_inserted m k v w = same_by_key _ _ k (inserted (finmap.insert m k w) k v ∙ sym (inserted m k v)) (λ q e.
      inserted_elsewhere (finmap.insert m k w) k v q e ∙ inserted_elsewhere m k w q e
      ∙ sym (inserted_elsewhere m k v q e))

  -- Changes at two keys.
  pub remove_past_insert : (m : finmap.FinMap R X) (k : K) (v : X) (j : K) → eq_by_cmp R j k ≡ false
      → finmap.remove (finmap.insert m k v) j ≡ finmap.insert (finmap.remove m j) k v
  remove_past_insert m k v j apart = same_by_key _ _ j
      (removed (finmap.insert m k v) j ∙ sym (removed m j) ∙ sym (inserted_elsewhere (finmap.remove m j) k v j apart))
      (λ q e. removed_elsewhere (finmap.insert m k v) j q e ∙ by q e (same_or_other o exact q k))
    where
      by : (q : K) → eq_by_cmp R q j ≡ false → (q ≡ k) ⊎ (eq_by_cmp R q k ≡ false)
          → finmap.get (finmap.insert m k v) q ≡ finmap.get (finmap.insert (finmap.remove m j) k v) q
      by q f (inl e) = ap (finmap.get (finmap.insert m k v)) e ∙ inserted m k v
          ∙ sym (inserted (finmap.remove m j) k v) ∙ sym (ap (finmap.get (finmap.insert (finmap.remove m j) k v)) e)
      by q f (inr e) = inserted_elsewhere m k v q e ∙ sym (removed_elsewhere m j q f)
          ∙ sym (inserted_elsewhere (finmap.remove m j) k v q e)

  -- ---- what a value at a key says about the map before the change

  pub at_inserted : (m : finmap.FinMap R X) (k : K) (v : X) (q : K) (x : X)
      → finmap.get (finmap.insert m k v) q ≡ Some x
      → ((q ≡ k) × (v ≡ x)) ⊎ ((eq_by_cmp R q k ≡ false) × (finmap.get m q ≡ Some x))
  at_inserted m k v q x e = by (same_or_other o exact q k)
    where
      by : (q ≡ k) ⊎ (eq_by_cmp R q k ≡ false) → ((q ≡ k) × (v ≡ x))
          ⊎ ((eq_by_cmp R q k ≡ false) × (finmap.get m q ≡ Some x))
      by (inl s) = inl (s, some-some (sym (inserted m k v) ∙ sym (ap (finmap.get (finmap.insert m k v)) s) ∙ e))
      by (inr f) = inr (f, sym (inserted_elsewhere m k v q f) ∙ e)

  pub at_removed : (m : finmap.FinMap R X) (k q : K) (x : X) → finmap.get (finmap.remove m k) q ≡ Some x
      → (eq_by_cmp R q k ≡ false) × (finmap.get m q ≡ Some x)
  at_removed m k q x e = by (same_or_other o exact q k)
    where
      by : (q ≡ k) ⊎ (eq_by_cmp R q k ≡ false) → (eq_by_cmp R q k ≡ false) × (finmap.get m q ≡ Some x)
      by (inl s) = absurd (none-some x (sym (removed m k) ∙ sym (ap (finmap.get (finmap.remove m k)) s) ∙ e))
      by (inr f) = (f, sym (removed_elsewhere m k q f) ∙ e)

-- ---- entries in the order of their keys

module _ {K X : Type 0} (R : K → K → Ordering) where
  pub entries-empty : finmap.entries (finmap.empty {X = X} {R = R}) ≡ []
  entries-empty = nil_from_length _ (sym (finmap.len-entries (finmap.empty {R = R})) ∙ finmap.len-empty R X)

  put_first : (e : K × X) (es : List (K × X)) → AllByRecursion (λ k. R e.0 k ≡ Less) (keys_of es)
      → finmap.put R e.0 e.1 es ≡ e ∷ es
  put_first e [] h = refl
  put_first e (f ∷ fs) h = ap (λ r. by_order r (e ∷ f ∷ fs) ((f.0, e.1) ∷ fs) (f ∷ finmap.put R e.0 e.1 fs)) h.0

module _ {K X : Type 0} {R : K → K → Ordering} (o : IsTotalOrder R) where
  pub entries-in_order : (es : List (K × X)) → IsStrictlySortedBy R (keys_of es)
      → finmap.entries (finmap.from_entries {R = R} es) ≡ es
  entries-in_order [] s = entries-empty R
  entries-in_order (e ∷ es) s =
      finmap.entries-insert o (finmap.from_entries {R = R} es) e.0 e.1
      ∙ ap (finmap.put R e.0 e.1) (entries-in_order es (sorted_tail R e.0 (keys_of es) s))
      ∙ put_first R e es (sorted_head R e.0 (keys_of es) s)

  pub len-in_order : (es : List (K × X)) → IsStrictlySortedBy R (keys_of es)
      → finmap.len (finmap.from_entries {R = R} es) ≡ length es
  len-in_order es s = finmap.len-entries (finmap.from_entries {R = R} es) ∙ ap length (entries-in_order es s)

-- ---- sets

module _ {K : Type 0} {R : K → K → Ordering} (o : IsTotalOrder R) (exact : CmpEqualImpliesEq R) where
  insert_from_contains : (s t : set.FinSet R) (k : K)
      → ((q : K) → set.contains t q ≡ cond (eq_by_cmp R q k) true (set.contains s q)) → t ≡ set.insert s k
  insert_from_contains s t k is = set.same_set o exact _ _ (λ q.
      is q ∙ by (eq_by_cmp R q k) (set.contains s q) ∙ sym (set.contains-insert o s k q))
    where
      by : (t b : Bool) → cond t true b ≡ (t || b)
      by true b = refl
      by false b = refl

  remove_from_contains : (s t : set.FinSet R) (k : K)
      → ((q : K) → set.contains t q ≡ cond (eq_by_cmp R q k) false (set.contains s q)) → t ≡ set.remove s k
  remove_from_contains s t k is = set.same_set o exact _ _ (λ q.
      is q ∙ by (eq_by_cmp R q k) (set.contains s q) ∙ sym (set.contains-remove o s k q))
    where
      by : (t b : Bool) → cond t false b ≡ (not t && b)
      by true b = refl
      by false b = refl

  contains-updated : (k : K) (s n : BTreeSet K) (b : Bool) → sorted.UpdatesBy R (R k) s n b → (q : K)
      → set.contains (set_of R n.keys) q ≡ cond (eq_by_cmp R q k) b (set.contains (set_of R s.keys) q)
  contains-updated k s n b u q =
      set.contains-from_list o n.keys q ∙ u.0 q
      ∙ ap (λ t. cond t b (list_any (eq_by_cmp R q) s.keys)) ((eq_by_cmp_equiv o).symm k q)
      ∙ ap (cond (eq_by_cmp R q k) b) (sym (set.contains-from_list o s.keys q))

  pub set_of-insert : (k : K) (s n : BTreeSet K) → sorted.UpdatesBy R (R k) s n true
      → set_of R n.keys ≡ set.insert (set_of R s.keys) k
  set_of-insert k s n u = insert_from_contains _ _ k (contains-updated k s n true u)

  pub set_of-remove : (k : K) (s n : BTreeSet K) → sorted.UpdatesBy R (R k) s n false
      → set_of R n.keys ≡ set.remove (set_of R s.keys) k
  set_of-remove k s n u = remove_from_contains _ _ k (contains-updated k s n false u)

  pub set_of-empty : (ks : List K) → (length ks ≡ 0 → set_of R ks ≡ set.empty)
      × (set_of R ks ≡ set.empty → length ks ≡ 0)
  set_of-empty [] = (λ e. refl, λ e. refl)
  set_of-empty (k ∷ ks) = (
    λ e. absurd (omega arith),
    λ e. absurd (true≢false (sym here ∙ ap (λ s. set.contains s k) e ∙ set.contains-empty R k)),
  )
    where
      here : set.contains (set_of R (k ∷ ks)) k ≡ true
      here = set.contains-from_list o (k ∷ ks) k
          ∙ ap (λ b. b || list_any (eq_by_cmp R k) ks) ((eq_by_cmp_equiv o).refl k)

  -- ---- keys in order

  none_tied : (k : K) (ks : List K) → AllByRecursion (λ y. R k y ≡ Less) ks → list_any (eq_by_cmp R k) ks ≡ false
  none_tied k [] h = refl
  none_tied k (x ∷ xs) h = λ i. is_eq (h.0 i) || none_tied k xs h.1 i

  pub not_among_later : (k : K) (ks : List K) → IsStrictlySortedBy R (k ∷ ks)
      → set.contains (set_of R ks) k ≡ false
  not_among_later k ks s = set.contains-from_list o ks k ∙ none_tied k ks (sorted_head R k ks s)

  pub len-set_of : (ks : List K) → IsStrictlySortedBy R ks → set.len (set_of R ks) ≡ length ks
  len-set_of [] s = set.len-empty R
  len-set_of (k ∷ ks) s =
      let rest : set.len (set_of R ks) ≡ length ks = len-set_of ks (sorted_tail R k ks s) in
      set.len-insert o (set_of R ks) k
      ∙ ap (λ b. cond b (set.len (set_of R ks)) (set.len (set_of R ks) + 1)) (not_among_later k ks s)
      ∙ omega arith

  abbrev marked : List K → List (K × Unit {0})
  marked ks = map (λ (k : K). (k, tt {0})) ks

  unmarked : (ks : List K) → keys_of (marked ks) ≡ ks
  unmarked [] = refl
  unmarked (k ∷ ks) = ap (λ r. k ∷ r) (unmarked ks)

  find-marked : (q : K) (ks : List K)
      → finmap.find R q (marked ks) ≡ cond (list_any (eq_by_cmp R q) ks) (Some (tt {0})) None
  find-marked q [] = refl
  find-marked q (k ∷ ks) =
      ap (cond (eq_by_cmp R q k) (Some (tt {0}))) (find-marked q ks)
      ∙ by (eq_by_cmp R q k) (list_any (eq_by_cmp R q) ks)
    where
      by : (x y : Bool) → cond x (Some (tt {0})) (cond y (Some (tt {0})) None) ≡ cond (x || y) (Some (tt {0})) None
      by true y = refl
      by false y = refl

  same_marked : (xs ys : List K) → ((q : K) → list_any (eq_by_cmp R q) xs ≡ list_any (eq_by_cmp R q) ys)
      → finmap.from_entries {R = R} (marked xs) ≡ finmap.from_entries {R = R} (marked ys)
  same_marked xs ys same = finmap.same_map o exact _ _ (λ q.
      finmap.get-from_entries o (marked xs) q ∙ find-marked q xs
      ∙ ap (λ b. cond b (Some (tt {0})) None) (same q)
      ∙ sym (finmap.get-from_entries o (marked ys) q ∙ find-marked q ys))

  -- A sorted list is its set in order.
  pub set_of-in_order : (ks : List K) → IsStrictlySortedBy R ks
      → finmap.keys (finmap.from_entries {R = R} (marked (set.items (set_of R ks)))) ≡ ks
  set_of-in_order ks s =
      ap (λ m. finmap.keys m)
      (same_marked (set.items (set_of R ks)) ks
      (λ q. sym (set.contains-items (set_of R ks) q) ∙ set.contains-from_list o ks q))
      ∙ ap (λ es. keys_of es) (entries-in_order o (marked ks) (subst (IsStrictlySortedBy R) (sym (unmarked ks)) s))
      ∙ unmarked ks
