-- The transactions and the paths of a group.
use Rattle.std.proofs.Common.{◌≡◌, ◌≢◌, ℕ, zero, suc, ◌+◌, ◌<◌, ◌≤◌, max, nat_eq, List, [], ◌∷◌, ◌++◌, Bool, true, false, cond, ◌||◌, Option, Some, None, refl, sym, ap, ◌∙◌, subst, arith, length, map, append_assoc}
use Rattle.std.specs.List.{flat_map, slice_get, AllByRecursion, range_with_len}
use Rattle.std.specs.Option.{option_and_then}
use Rattle.std.specs.Ordering.{eq_by_cmp}
use Rattle.std.specs.FinSet as set
use Rattle.std.proofs.lemmas.Bool.{eqb-true, eq-eqb}
use Rattle.std.proofs.lemmas.Bool.Decides.{nat_tests}
use Rattle.std.proofs.lemmas.List.{append-nil}
use Rattle.std.proofs.lemmas.List.Folds.{list_any-append}
use Rattle.std.proofs.lemmas.Grind.{flat_map-append}
use Rattle.std.proofs.lemmas.Map.Lookups.{exact_bytes}
use Rattle.std.proofs.lemmas.List.FromFn.{length-map-range_with_len}
use Rattle.ephemerals.specs.Orders.{Bytes, path_cmp}
use Rattle.ephemerals.proofs.Totals.{path_total}
use Rattle.txn_codec.specs.declared.txn.Txn.{Txn}
use Rattle.data_tree.specs.Footprint.{has_path, footprint}
use Rattle.data_tree.specs.Commuting.{GroupedTxn, txns_of_group, batch_of}
use Rattle.footprint.specs.Footprints.{is_barrier}
use Rattle.batcher.specs.Class.{TxnGroup, empty_group}
use Rattle.batcher.specs.Groups.{group_count, group_for, group_of_next, tagged_txns_after, places_from, paths_in, txn_group_at, txn_groups_of}
use Rattle.batcher.specs.Laws.{AreAmong, EachIsInAGroup, NoneIsABarrier, GroupsCoverTheirPaths, PlacesNameTheGroup}
use Rattle.batcher.specs.Inner.Joining.{with_txn_at, with_member}
use Rattle.batcher.proofs.Owning.{same, none, opened-behind}

-- ---- each is in a group

pub batch_of-behind : (before : List GroupedTxn) (t : GroupedTxn)
    → batch_of (before ++ t ∷ []) ≡ batch_of before ++ t.1 ∷ []
batch_of-behind [] t = refl
batch_of-behind (b ∷ bs) t = ap (λ ts. b.1 ∷ ts) (batch_of-behind bs t)

pub batch_is : (before : List GroupedTxn) (txns : List Txn) (ts : List GroupedTxn)
    → tagged_txns_after before txns ≡ Some ts
    → batch_of ts ≡ batch_of before ++ txns
batch_is before [] ts is = ap batch_of (sym (same is)) ∙ sym (append-nil (batch_of before))
batch_is before (t ∷ txns) ts is = by (λ k. batch_is (before ++ (k, t) ∷ []) txns ts) (group_of_next before t) is
  where
    by : ((k : ℕ) → tagged_txns_after (before ++ (k, t) ∷ []) txns ≡ Some ts
        → batch_of ts ≡ batch_of (before ++ (k, t) ∷ []) ++ txns)
        → (o : Option ℕ)
        → option_and_then (λ k. tagged_txns_after (before ++ (k, t) ∷ []) txns) o ≡ Some ts
        → batch_of ts ≡ batch_of before ++ (t ∷ txns)
    by rest None is = absurd (none ts (sym is))
    by rest (Some k) is =
        rest k is ∙ ap (λ bs. bs ++ txns) (batch_of-behind before (k, t))
        ∙ append_assoc (batch_of before) (t ∷ []) txns

opened_above : (ts : List GroupedTxn) (n : ℕ) → group_count ts ≤ n → AllByRecursion (λ (t : GroupedTxn). t.0 < n) ts
opened_above [] n h = tt
opened_above (t ∷ ts) n h = (omega arith, opened_above ts n (omega arith))

pub each_is_in_a_group : EachIsInAGroup
each_is_in_a_group txns ts is = (batch_is [] txns ts is, opened_above ts (group_count ts) (omega arith))

-- ---- none is a barrier

no_barrier : (before : List GroupedTxn) (txns : List Txn) (ts : List GroupedTxn)
    → tagged_txns_after before txns ≡ Some ts
    → AllByRecursion (λ t. is_barrier t ≡ false) txns
no_barrier before [] ts is = tt
no_barrier before (t ∷ txns) ts is =
    by (λ k. no_barrier (before ++ (k, t) ∷ []) txns ts) (is_barrier t) refl (group_for before (footprint t)) is
  where
    by : ((k : ℕ) → tagged_txns_after (before ++ (k, t) ∷ []) txns ≡ Some ts
        → AllByRecursion (λ t. is_barrier t ≡ false) txns)
        → (b : Bool) → is_barrier t ≡ b → (o : Option ℕ)
        → option_and_then (λ k. tagged_txns_after (before ++ (k, t) ∷ []) txns) (cond b None o) ≡ Some ts
        → AllByRecursion (λ t. is_barrier t ≡ false) (t ∷ txns)
    by rest true e o is = absurd (none ts (sym is))
    by rest false e None is = absurd (none ts (sym is))
    by rest false e (Some k) is = (e, rest k is)

pub none_is_a_barrier : NoneIsABarrier
none_is_a_barrier txns ts is = no_barrier [] txns ts is

-- ---- the paths of a group's transactions are covered

in_front : (p : Bytes) (xs ys : List Bytes) → has_path xs p ≡ true → has_path (xs ++ ys) p ≡ true
in_front p xs ys h =
    list_any-append (eq_by_cmp path_cmp p) xs ys ∙ ap (λ b. b || has_path ys p) h

or_true : (b : Bool) → (b || true) ≡ true
or_true true = refl
or_true false = refl

in_rest : (p : Bytes) (xs ys : List Bytes) → has_path ys p ≡ true → has_path (xs ++ ys) p ≡ true
in_rest p xs ys h =
    list_any-append (eq_by_cmp path_cmp p) xs ys ∙ ap (λ b. has_path xs p || b) h ∙ or_true (has_path xs p)

-- The group of the first transaction has its paths, and those that it had without it.
pub paths_here : (t : GroupedTxn) (ts : List GroupedTxn) (p : Bytes) → has_path (footprint t.1) p ≡ true
    → has_path (paths_in t.0 (t ∷ ts)) p ≡ true
paths_here t ts p h =
    subst (λ b. has_path (flat_map footprint (cond b (t.1 ∷ txns_of_group t.0 ts) (txns_of_group t.0 ts))) p ≡ true)
    (sym (eq-eqb t.0 t.0 refl)) (in_front p (footprint t.1) (paths_in t.0 ts) h)

pub paths_there : (k : ℕ) (t : GroupedTxn) (ts : List GroupedTxn) (p : Bytes) → has_path (paths_in k ts) p ≡ true
    → has_path (paths_in k (t ∷ ts)) p ≡ true
paths_there k t ts p h = by (nat_eq t.0 k)
  where
    by : (b : Bool) → has_path (flat_map footprint (cond b (t.1 ∷ txns_of_group k ts) (txns_of_group k ts))) p ≡ true
    by true = in_rest p (footprint t.1) (paths_in k ts) h
    by false = h

covered : (all ts : List GroupedTxn) → ((k : ℕ) → AreAmong (paths_in k ts) (paths_in k all))
    → AllByRecursion (λ (t : GroupedTxn). AreAmong (footprint t.1) (paths_in t.0 all)) ts
covered all [] more = tt
covered all (t ∷ ts) more = (
  λ p h. more t.0 p (paths_here t ts p h),
  covered all ts (λ k p h. more k p (paths_there k t ts p h)),
)

pub groups_cover_their_paths : GroupsCoverTheirPaths
groups_cover_their_paths ts = covered ts ts (λ k p h. h)

-- ---- places

named : (at : ℕ → Option Txn) (n k : ℕ) (ts : List GroupedTxn) → ((i : ℕ) → at (n + i) ≡ slice_get (batch_of ts) i)
    → map at (places_from n k ts) ≡ map Some (txns_of_group k ts)
named at n k [] is = refl
named at n k (t ∷ ts) is =
    by (named at (n + 1) k ts (λ i. ap at (next i) ∙ is (suc i))) (ap at (here n) ∙ is 0) (nat_eq t.0 k)
  where
    next : (i : ℕ) → (n + 1) + i ≡ n + suc i
    next i = omega arith

    here : (n : ℕ) → n ≡ n + 0
    here n = omega arith

    by : map at (places_from (n + 1) k ts) ≡ map Some (txns_of_group k ts) → at n ≡ Some t.1 → (b : Bool)
        → map at (cond b (n ∷ places_from (n + 1) k ts) (places_from (n + 1) k ts))
        ≡ map Some (cond b (t.1 ∷ txns_of_group k ts) (txns_of_group k ts))
    by rest first true = λ i. first i ∷ rest i
    by rest first false = rest

pub places_name_the_group : PlacesNameTheGroup
places_name_the_group ts k =
    named (λ place. slice_get (batch_of ts) place) 0 k ts (λ i. ap (slice_get (batch_of ts)) (zero_more i))
  where
    zero_more : (i : ℕ) → 0 + i ≡ i
    zero_more i = omega arith

-- ---- the groups with one more transaction

places_from-behind : (n k : ℕ) (bs : List GroupedTxn) (t : GroupedTxn)
    → places_from n k (bs ++ t ∷ []) ≡ places_from n k bs ++ cond (nat_eq t.0 k) ((n + length bs) ∷ []) []
places_from-behind n k [] t = ap (λ m. cond (nat_eq t.0 k) (m ∷ []) []) (here n)
  where
    here : (n : ℕ) → n ≡ n + 0
    here n = omega arith
places_from-behind n k (b ∷ bs) t = by (nat_eq b.0 k) (places_from-behind (n + 1) k bs t ∙ shifted)
  where
    next : (m : ℕ) → (n + 1) + m ≡ n + suc m
    next m = omega arith

    shifted : places_from (n + 1) k bs ++ cond (nat_eq t.0 k) (((n + 1) + length bs) ∷ []) []
        ≡ places_from (n + 1) k bs ++ cond (nat_eq t.0 k) ((n + suc (length bs)) ∷ []) []
    shifted = ap (λ m. places_from (n + 1) k bs ++ cond (nat_eq t.0 k) (m ∷ []) []) (next (length bs))

    by : (x : Bool)
        → places_from (n + 1) k (bs ++ t ∷ [])
        ≡ places_from (n + 1) k bs ++ cond (nat_eq t.0 k) ((n + suc (length bs)) ∷ []) []
        → cond x (n ∷ places_from (n + 1) k (bs ++ t ∷ [])) (places_from (n + 1) k (bs ++ t ∷ []))
        ≡ cond x (n ∷ places_from (n + 1) k bs) (places_from (n + 1) k bs)
        ++ cond (nat_eq t.0 k) ((n + suc (length bs)) ∷ []) []
    by true rest = ap (λ r. n ∷ r) rest
    by false rest = rest

of_group-behind : (k : ℕ) (bs : List GroupedTxn) (t : GroupedTxn)
    → txns_of_group k (bs ++ t ∷ []) ≡ txns_of_group k bs ++ cond (nat_eq t.0 k) (t.1 ∷ []) []
of_group-behind k [] t = refl
of_group-behind k (b ∷ bs) t = by (nat_eq b.0 k) (of_group-behind k bs t)
  where
    by : (x : Bool) → txns_of_group k (bs ++ t ∷ []) ≡ txns_of_group k bs ++ cond (nat_eq t.0 k) (t.1 ∷ []) []
        → cond x (b.1 ∷ txns_of_group k (bs ++ t ∷ [])) (txns_of_group k (bs ++ t ∷ []))
        ≡ cond x (b.1 ∷ txns_of_group k bs) (txns_of_group k bs) ++ cond (nat_eq t.0 k) (t.1 ∷ []) []
    by true rest = ap (λ r. b.1 ∷ r) rest
    by false rest = rest

paths_in-behind : (k : ℕ) (bs : List GroupedTxn) (t : GroupedTxn)
    → paths_in k (bs ++ t ∷ []) ≡ paths_in k bs ++ flat_map footprint (cond (nat_eq t.0 k) (t.1 ∷ []) [])
paths_in-behind k bs t =
    ap (flat_map footprint) (of_group-behind k bs t)
    ∙ flat_map-append footprint (txns_of_group k bs) (cond (nat_eq t.0 k) (t.1 ∷ []) [])

joined_sets : (xs ys zs : List Bytes)
    → ((q : Bytes) → (has_path xs q || has_path zs q) ≡ (has_path xs q || has_path ys q))
    → set.from_list {R = path_cmp} (xs ++ (ys ++ [])) ≡ set.union (set.from_list xs) (set.from_list zs)
joined_sets xs ys zs is = set.same_set path_total exact_bytes _ _ (λ q.
    set.contains-from_list path_total (xs ++ (ys ++ [])) q
    ∙ ap (λ l. has_path (xs ++ l) q) (append-nil ys)
    ∙ list_any-append (eq_by_cmp path_cmp q) xs ys
    ∙ sym (is q)
    ∙ (λ i.
    sym (set.contains-from_list path_total xs q) i || sym (set.contains-from_list path_total zs q) i)
    ∙ sym (set.contains-union path_total (set.from_list xs) (set.from_list zs) q))

-- With these paths the group has the path just where it has it with the transaction's.
abbrev pub GainsPath : ℕ → List GroupedTxn → List Bytes → Txn → Bytes → Type 0
GainsPath k ts paths t q =
    (has_path (paths_in k ts) q || has_path paths q) ≡ (has_path (paths_in k ts) q || has_path (footprint t) q)

class_of-behind : (bs : List GroupedTxn) (t : GroupedTxn) (paths : List Bytes)
    → ((q : Bytes) → GainsPath t.0 bs paths t.1 q) → (k : ℕ)
    → txn_group_at (bs ++ t ∷ []) k
    ≡ cond (nat_eq t.0 k) (with_txn_at (txn_group_at bs k) (length bs) paths) (txn_group_at bs k)
class_of-behind bs t paths is k =
    (λ i. record { members = places_from-behind 0 k bs t i; paths = set.from_list (paths_in-behind k bs t i) })
    ∙ by (nat_eq t.0 k) refl
  where
    none_more : (n : ℕ) → 0 + n ≡ n
    none_more n = omega arith

    by : (b : Bool) → nat_eq t.0 k ≡ b → (let c : TxnGroup = record {
      members = places_from 0 k bs ++ cond b ((0 + length bs) ∷ []) [];
      paths = set.from_list (paths_in k bs ++ flat_map footprint (cond b (t.1 ∷ []) []));
    } in c)
        ≡ cond b (with_txn_at (txn_group_at bs k) (length bs) paths) (txn_group_at bs k)
    by true e =
        let gains = subst (λ j. (q : Bytes) → GainsPath j bs paths t.1 q) (eqb-true t.0 k e) is in
        λ i. record {
          members = places_from 0 k bs ++ none_more (length bs) i ∷ [];
          paths = joined_sets (paths_in k bs) (footprint t.1) paths gains i;
        }
    by false e =
        λ i. record {
          members = append-nil (places_from 0 k bs) i;
          paths = set.from_list (append-nil (paths_in k bs) i);
        }

not_same : (a b : ℕ) → a < b → nat_eq a b ≡ false
not_same a b h = grind (arith, nat_tests)

differ : (a b : ℕ) → a ≢ b → nat_eq a b ≡ false
differ a b h = grind (arith, nat_tests)

no_places : (n k : ℕ) (ts : List GroupedTxn) → group_count ts ≤ k → places_from n k ts ≡ []
no_places n k [] h = refl
no_places n k (t ∷ ts) h =
    ap (λ b. cond b (n ∷ places_from (n + 1) k ts) (places_from (n + 1) k ts)) (not_same t.0 k (omega arith))
    ∙ no_places (n + 1) k ts (omega arith)

no_transaction : (k : ℕ) (ts : List GroupedTxn) → group_count ts ≤ k → txns_of_group k ts ≡ []
no_transaction k [] h = refl
no_transaction k (t ∷ ts) h =
    ap (λ b. cond b (t.1 ∷ txns_of_group k ts) (txns_of_group k ts)) (not_same t.0 k (omega arith))
    ∙ no_transaction k ts (omega arith)

class_of-fresh : (ts : List GroupedTxn) (k : ℕ) → group_count ts ≤ k → txn_group_at ts k ≡ empty_group
class_of-fresh ts k h =
    λ i. record {
      members = no_places 0 k ts h i;
      paths = set.from_list (flat_map footprint (no_transaction k ts h i));
    }

same_classes : (f g : ℕ → TxnGroup) (a n : ℕ) → ((j : ℕ) → a ≤ j → g j ≡ f j)
    → map f (range_with_len a n) ≡ map g (range_with_len a n)
same_classes f g a zero is = refl
same_classes f g a (suc n) is =
    (λ i. sym (is a (omega arith)) i ∷ map f (range_with_len (a + 1) n))
    ∙ ap (λ r. g a ∷ r) (same_classes f g (a + 1) n (λ j le. is j (omega arith)))

with_member-map : (f g : ℕ → TxnGroup) (place : ℕ) (ps : List Bytes) (n k a : ℕ) → k ≤ n
    → g (a + k) ≡ with_txn_at (f (a + k)) place ps → ((j : ℕ) → a ≤ j → j ≢ a + k → g j ≡ f j)
    → (k ≡ n → f (a + k) ≡ empty_group) → (m : ℕ) → m ≡ max n (k + 1)
    → with_member (map f (range_with_len a n)) k place ps ≡ map g (range_with_len a m)
with_member-map f g place ps zero k a le here others fresh m is =
    (λ i. with_txn_at (sym (fresh none) i) place ps ∷ [])
    ∙ (λ i. sym here i ∷ [])
    ∙ (λ i. g (at i) ∷ [])
    ∙ ap (λ x. map g (range_with_len a x)) (sym one)
  where
    none : k ≡ 0
    none = omega arith

    at : a + k ≡ a
    at = omega arith

    one : m ≡ 1
    one = omega arith
with_member-map f g place ps (suc n) zero a le here others fresh m is =
    (λ i. with_txn_at (f (sym at i)) place ps ∷ map f (range_with_len (a + 1) n))
    ∙ (λ i. sym here i ∷ map f (range_with_len (a + 1) n))
    ∙ (λ i. g (at i) ∷ map f (range_with_len (a + 1) n))
    ∙ ap (λ r. g a ∷ r) (same_classes f g (a + 1) n (λ j above. others j (omega arith) (beyond j above)))
    ∙ ap (λ x. map g (range_with_len a x)) (sym more)
  where
    at : a + 0 ≡ a
    at = omega arith

    beyond : (j : ℕ) → a + 1 ≤ j → j ≢ a + 0
    beyond j above e = omega arith

    more : m ≡ suc n
    more = omega arith
with_member-map f g place ps (suc n) (suc k) a le here others fresh m is =
    (λ i. sym (others a (omega arith) before) i ∷ with_member (map f (range_with_len (a + 1) n)) k place ps)
    ∙ ap (λ r. g a ∷ r)
    (with_member-map f g place ps n k (a + 1) (omega arith)
    (ap g at ∙ here ∙ ap (λ x. with_txn_at (f x) place ps) (sym at))
    (λ j above other. others j (omega arith) (λ e. other (e ∙ sym at)))
    (λ e. ap f at ∙ fresh (ap suc e)) (max n (k + 1)) refl)
    ∙ ap (λ x. map g (range_with_len a x)) (sym more)
  where
    at : (a + 1) + k ≡ a + suc k
    at = omega arith

    before : a ≢ a + suc k
    before e = omega arith

    more : m ≡ suc (max n (k + 1))
    more = omega arith

pub classes_of-behind : (before : List GroupedTxn) (k : ℕ) (t : Txn) (paths : List Bytes)
    → ((q : Bytes) → GainsPath k before paths t q) → k ≤ group_count before
    → txn_groups_of (before ++ (k, t) ∷ []) ≡ with_member (txn_groups_of before) k (length before) paths
classes_of-behind before k t paths is le =
    sym
    (with_member-map (txn_group_at before) (txn_group_at (before ++ (k, t) ∷ [])) (length before) paths
    (group_count before) k 0 le
    here others fresh (group_count (before ++ (k, t) ∷ [])) (opened-behind before (k, t)))
  where
    none_more : 0 + k ≡ k
    none_more = omega arith

    here : txn_group_at (before ++ (k, t) ∷ []) (0 + k)
        ≡ with_txn_at (txn_group_at before (0 + k)) (length before) paths
    here =
        class_of-behind before (k, t) paths is (0 + k)
        ∙ ap (λ b. cond b (with_txn_at (txn_group_at before (0 + k)) (length before) paths)
        (txn_group_at before (0 + k)))
        (eq-eqb k (0 + k) (sym none_more))

    others : (j : ℕ) → 0 ≤ j → j ≢ 0 + k → txn_group_at (before ++ (k, t) ∷ []) j ≡ txn_group_at before j
    others j above other =
        class_of-behind before (k, t) paths is j
        ∙ ap (λ b. cond b (with_txn_at (txn_group_at before j) (length before) paths) (txn_group_at before j))
        (differ k j (λ e. other (sym e ∙ sym none_more)))

    fresh : k ≡ group_count before → txn_group_at before (0 + k) ≡ empty_group
    fresh e = class_of-fresh before (0 + k) (omega arith)

pub length-classes_of : (ts : List GroupedTxn) → length (txn_groups_of ts) ≡ group_count ts
length-classes_of ts = length-map-range_with_len (txn_group_at ts) 0 (group_count ts)
