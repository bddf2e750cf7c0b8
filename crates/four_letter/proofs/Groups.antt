-- Values, gathered row by row under their keys.
use Rattle.std.proofs.Common.{◌≡◌, Bool, true, false, cond, ◌||◌, List, [], ◌∷◌, ◌++◌, map, Some, None, is_some, unwrap_or, refl, sym, ap, ◌∙◌}
use mathlib.Core.Bool.{true≢false}
use Rattle.std.specs.declared.cmp.Ordering.{Ordering}
use Rattle.std.specs.declared.cmp.Ordering.TheVariants.{Less, Equal, Greater}
use Rattle.std.specs.BTreeMap.{insert_entry, is_at}
use Rattle.std.specs.BTreeSet.{insert_key}
use Rattle.std.specs.FinMap as finmap
use Rattle.std.specs.FinMap.{find, put}
use Rattle.std.specs.FinMap.Entries.{by_order, find-put}
use Rattle.std.specs.List.{list_any, filter, AllByRecursion}
use Rattle.std.specs.List.Sorted.{IsStrictlySortedBy}
use Rattle.std.specs.Map.{lookup, set_value, keys_of}
use Rattle.std.specs.Ordering.{eq_by_cmp, is_eq, match_ordering}
use Rattle.std.specs.Cmp.{IsTotalOrder, tied_itself}
use Rattle.std.specs.Option.{option_map}
use Rattle.std.proofs.lemmas.Map.Lookups.{CmpEqualImpliesEq}
use Rattle.std.proofs.lemmas.Map.Views.{tells_apart}
use Rattle.watch_manager.specs.Ascending.{sorted_distinct}
use Rattle.values.proofs.Keyed.{entries-empty, entries-in_order}
use Rattle.watch_manager.proofs.Ascending.{ascending-nil, ascending-cons, insert-ascending}
use Rattle.four_letter.specs.Inner.Gathered.{Groups, AddsValue, values_at, sorted_if_any, GathersValues}

-- ---- the entries of a map, whose keys and values are seen in another way

module _ {K V M N : Type 0} (R : K → K → Ordering) (S : V → V → Ordering) (key : M → K) (values : N → List V) where
  abbrev pub groups : List (M × N) → Groups K V
  groups es = map (λ (e : M × N). (key e.0, values e.1)) es

  abbrev asks : K → M → Bool
  asks k = is_at (λ (m : M). R k (key m))

  find-groups : (k : K) (es : List (M × N)) → find R k (groups es) ≡ option_map values (lookup (asks k) es)
  find-groups k [] = refl
  find-groups k (e ∷ es) =
      ap (cond (eq_by_cmp R k (key e.0)) (Some (values e.1))) (find-groups k es)
      ∙ by (eq_by_cmp R k (key e.0))
    where
      by : (b : Bool)
          → cond b (Some (values e.1)) (option_map values (lookup (asks k) es))
          ≡ option_map values (cond b (Some e.1) (lookup (asks k) es))
      by true = refl
      by false = refl

  groups-insert : (es : List (M × N)) (m : M) (n : N)
      → groups (insert_entry (λ (a b : M). R (key a) (key b)) es m n) ≡ put R (key m) (values n) (groups es)
  groups-insert [] m n = refl
  groups-insert (e ∷ es) m n = by (groups-insert es m n) (R (key m) (key e.0))
    where
      by : groups (insert_entry (λ (a b : M). R (key a) (key b)) es m n) ≡ put R (key m) (values n) (groups es)
          → (r : Ordering)
          → groups (match_ordering r ((m, n) ∷ e ∷ es) ((e.0, n) ∷ es)
          (e ∷ insert_entry (λ (a b : M). R (key a) (key b)) es m n))
          ≡ by_order r ((key m, values n) ∷ groups (e ∷ es)) ((key e.0, values n) ∷ groups es)
          ((key e.0, values e.1) ∷ put R (key m) (values n) (groups es))
      by later Less = refl
      by later Equal = refl
      by later Greater = ap (λ (t : Groups K V). (key e.0, values e.1) ∷ t) later

  module _ (o : IsTotalOrder R) (exact : CmpEqualImpliesEq R) where
    find-set : (k q : K) (es : List (M × N)) (old new : N) → Some old ≡ lookup (asks k) es
        → find R q (groups (set_value (asks k) es new))
        ≡ cond (eq_by_cmp R q k) (Some (values new)) (find R q (groups es))
    find-set k q [] old new is = absurd (true≢false (ap is_some is))
    find-set k q (e ∷ es) old new is = by (eq_by_cmp R k (key e.0)) refl is (find-set k q es old new)
      where
        again : {A : Type 0} (b : Bool) (x y z : A) → cond b x z ≡ cond b x (cond b y z)
        again true x y z = refl
        again false x y z = refl

        apart : {A : Type 0} (a b : Bool) (x y z : A) → (a ≡ true → b ≡ true → ⊥)
            → cond a x (cond b y z) ≡ cond b y (cond a x z)
        apart true true x y z never = absurd (never refl refl)
        apart true false x y z never = refl
        apart false b x y z never = refl

        by : (b : Bool) → eq_by_cmp R k (key e.0) ≡ b → Some old ≡ cond b (Some e.1) (lookup (asks k) es)
            → (Some old ≡ lookup (asks k) es
            → find R q (groups (set_value (asks k) es new))
            ≡ cond (eq_by_cmp R q k) (Some (values new)) (find R q (groups es)))
            → find R q (groups (cond b ((e.0, new) ∷ es) (e ∷ set_value (asks k) es new)))
            ≡ cond (eq_by_cmp R q k) (Some (values new)) (find R q (groups (e ∷ es)))
        by true t is rest =
            again (eq_by_cmp R q (key e.0)) (Some (values new)) (Some (values e.1)) (find R q (groups es))
            ∙ ap (λ p. cond (eq_by_cmp R q p) (Some (values new)) (find R q (groups (e ∷ es))))
            (sym (tells_apart exact k (key e.0) t))
        by false t is rest =
            ap (cond (eq_by_cmp R q (key e.0)) (Some (values e.1))) (rest is)
            ∙ apart (eq_by_cmp R q (key e.0)) (eq_by_cmp R q k) (Some (values e.1)) (Some (values new))
            (find R q (groups es)) (λ here there. true≢false
            (sym (ap is_eq (tied_itself o k))
            ∙ ap (eq_by_cmp R k) (sym (tells_apart exact q k there))
            ∙ ap (eq_by_cmp R k) (tells_apart exact q (key e.0) here)
            ∙ t))

    -- Through the values of the key.
    pub adds_through : (k : K) (v : V) (p : K) (es new : List (M × N)) (old now : N) → p ≡ k
        → new ≡ set_value (asks p) es now → Some old ≡ lookup (asks p) es
        → values now ≡ insert_key S (values old) v → AddsValue R S k v (groups es) (groups new)
    adds_through k v p es new old now same made found is q =
        ap (λ n. find R q (groups n)) made
        ∙ find-set p q es old now found
        ∙ ap (λ ks. cond (eq_by_cmp R q p) (Some ks) (find R q (groups es)))
        (is ∙ ap (λ t. insert_key S (unwrap_or t []) v)
        (sym (find-groups p es ∙ ap (option_map values) (sym found))))
        ∙ ap (λ x. cond (eq_by_cmp R q x) (Some (insert_key S (unwrap_or (find R x (groups es)) []) v))
        (find R q (groups es))) same

    -- As the first value of the key.
    pub adds_first : (k : K) (v : V) (m : M) (es new : List (M × N)) (now : N) → key m ≡ k
        → new ≡ insert_entry (λ (a b : M). R (key a) (key b)) es m now → None ≡ lookup (asks (key m)) es
        → values now ≡ insert_key S [] v → AddsValue R S k v (groups es) (groups new)
    adds_first k v m es new now same made none is q =
        ap (λ n. find R q (groups n)) made
        ∙ ap (find R q) (groups-insert es m now)
        ∙ find-put R o q (key m) (values now) (groups es)
        ∙ ap (λ ks. cond (eq_by_cmp R q (key m)) (Some ks) (find R q (groups es)))
        (is ∙ ap (λ t. insert_key S (unwrap_or t []) v)
        (sym (find-groups (key m) es ∙ ap (option_map values) (sym none))))
        ∙ ap (λ x. cond (eq_by_cmp R q x) (Some (insert_key S (unwrap_or (find R x (groups es)) []) v))
        (find R q (groups es))) same

  pub sorted_groups : (es : List (M × N)) → IsStrictlySortedBy (λ (a b : M). R (key a) (key b)) (keys_of es)
      → IsStrictlySortedBy R (keys_of (groups es))
  unfolding IsStrictlySortedBy
  sorted_groups [] s = tt
  sorted_groups (e ∷ es) s = (each es s.0, sorted_groups es s.1)
    where
      each : (fs : List (M × N)) → AllByRecursion (λ (y : M). R (key e.0) (key y) ≡ Less) (keys_of fs)
          → AllByRecursion (λ y. R (key e.0) y ≡ Less) (keys_of (groups fs))
      each [] h = tt
      each (f ∷ fs) h = (h.0, each fs h.1)

-- ---- row by row

module _ {X K V : Type 0} {R : K → K → Ordering} {S : V → V → Ordering} (exact : CmpEqualImpliesEq R)
    (value_total : IsTotalOrder S) (value_exact : CmpEqualImpliesEq S) (key : X → K) (value : X → V) where
  values_at-push : (q : K) (rows : List X) (r : X)
      → values_at R key value q (rows ++ r ∷ [])
      ≡ cond (eq_by_cmp R q (key r)) (values_at R key value q rows ++ value r ∷ []) (values_at R key value q rows)
  values_at-push q [] r = by (eq_by_cmp R q (key r))
    where
      by : (b : Bool) → map value (cond b (r ∷ []) []) ≡ cond b (value r ∷ []) []
      by true = refl
      by false = refl
  values_at-push q (x ∷ xs) r = by (eq_by_cmp R q (key x)) (eq_by_cmp R q (key r)) (values_at-push q xs r)
    where
      at : List X → List X
      at ys = filter (λ (y : X). eq_by_cmp R q (key y)) ys

      by : (a b : Bool) → map value (at (xs ++ r ∷ [])) ≡ cond b (map value (at xs) ++ value r ∷ []) (map value (at xs))
          → map value (cond a (x ∷ at (xs ++ r ∷ [])) (at (xs ++ r ∷ [])))
          ≡ cond b (map value (cond a (x ∷ at xs) (at xs)) ++ value r ∷ []) (map value (cond a (x ∷ at xs) (at xs)))
      by true true rest = ap (λ (vs : List V). value x ∷ vs) rest
      by true false rest = ap (λ (vs : List V). value x ∷ vs) rest
      by false true rest = rest
      by false false rest = rest

  sorted-or : (vs : List V) → unwrap_or (sorted_if_any S vs) [] ≡ sorted_distinct S vs
  sorted-or [] = sym (ascending-nil value_total)
  sorted-or (v ∷ vs) = refl

  sorted-push : (vs : List V) (v : V)
      → Some (insert_key S (unwrap_or (sorted_if_any S vs) []) v) ≡ sorted_if_any S (vs ++ v ∷ [])
  sorted-push vs v =
      ap (λ ks. Some (insert_key S ks v)) (sorted-or vs)
      ∙ ap Some (insert-ascending value_total value_exact vs v)
      ∙ by vs
    where
      by : (xs : List V) → Some (sorted_distinct S (xs ++ v ∷ [])) ≡ sorted_if_any S (xs ++ v ∷ [])
      by [] = refl
      by (x ∷ xs) = refl

  pub gathers_row : (rows : List X) (r : X) (old new : Groups K V) → GathersValues R S key value rows old
      → AddsValue R S (key r) (value r) old new → GathersValues R S key value (rows ++ r ∷ []) new
  gathers_row rows r old new h adds q =
      adds q
      ∙ ap (λ o. cond (eq_by_cmp R q (key r)) (Some (insert_key S (unwrap_or o []) (value r))) (find R q old))
      (h (key r))
      ∙ ap (cond (eq_by_cmp R q (key r))
      (Some (insert_key S (unwrap_or (sorted_if_any S (values_at R key value (key r) rows)) []) (value r)))) (h q)
      ∙ by (eq_by_cmp R q (key r)) refl
      ∙ ap (sorted_if_any S) (sym (values_at-push q rows r))
    where
      by : (b : Bool) → eq_by_cmp R q (key r) ≡ b
          → cond b (Some (insert_key S (unwrap_or (sorted_if_any S (values_at R key value (key r) rows)) []) (value r)))
          (sorted_if_any S (values_at R key value q rows))
          ≡ sorted_if_any S (cond b (values_at R key value q rows ++ value r ∷ []) (values_at R key value q rows))
      by true t =
          sorted-push (values_at R key value (key r) rows) (value r)
          ∙ ap (λ k. sorted_if_any S (values_at R key value k rows ++ value r ∷ [])) (sym (tells_apart exact q (key r) t))
      by false t = refl

-- ---- all rows

abbrev is_any : {V : Type 0} → List V → Bool
is_any [] = false
is_any (v ∷ vs) = true

module _ {K Y : Type 0} {R : K → K → Ordering} (o : IsTotalOrder R) (exact : CmpEqualImpliesEq R) (f : K → Y) where
  abbrev valued : List K → List (K × Y)
  valued ks = map (λ (k : K). (k, f k)) ks

  put-valued : (k : K) (ks : List K) → put R k (f k) (valued ks) ≡ valued (insert_key R ks k)
  put-valued k [] = refl
  put-valued k (x ∷ xs) = by (put-valued k xs) (R k x) refl
    where
      by : put R k (f k) (valued xs) ≡ valued (insert_key R xs k) → (r : Ordering) → R k x ≡ r
          → by_order r ((k, f k) ∷ valued (x ∷ xs)) ((x, f k) ∷ valued xs) ((x, f x) ∷ put R k (f k) (valued xs))
          ≡ valued (match_ordering r (k ∷ x ∷ xs) (x ∷ xs) (x ∷ insert_key R xs k))
      by later Less e = refl
      by later Equal e = ap (λ (y : Y). (x, y) ∷ valued xs) (ap f (exact k x e))
      by later Greater e = ap (λ (t : List (K × Y)). (x, f x) ∷ t) later

  entries-valued : (ks : List K) → finmap.entries (finmap.from_entries {R = R} (valued ks)) ≡ valued (sorted_distinct R ks)
  entries-valued [] = entries-empty R ∙ ap valued (sym (ascending-nil o))
  entries-valued (k ∷ ks) =
      finmap.entries-insert o (finmap.from_entries {R = R} (valued ks)) k (f k)
      ∙ ap (put R k (f k)) (entries-valued ks)
      ∙ put-valued k (sorted_distinct R ks)
      ∙ ap valued (sym (ascending-cons o k ks))

  find-valued : (q : K) (ks : List K) → find R q (valued ks) ≡ cond (list_any (eq_by_cmp R q) ks) (Some (f q)) None
  find-valued q [] = refl
  find-valued q (k ∷ ks) = by (eq_by_cmp R q k) refl (find-valued q ks)
    where
      by : (b : Bool) → eq_by_cmp R q k ≡ b
          → find R q (valued ks) ≡ cond (list_any (eq_by_cmp R q) ks) (Some (f q)) None
          → cond b (Some (f k)) (find R q (valued ks)) ≡ cond (b || list_any (eq_by_cmp R q) ks) (Some (f q)) None
      by true t rest = ap (λ p. Some (f p)) (sym (tells_apart exact q k t))
      by false t rest = rest

module _ {X K V : Type 0} (R : K → K → Ordering) (key : X → K) (value : X → V) where
  is_any-values : (q : K) (rows : List X)
      → is_any (values_at R key value q rows) ≡ list_any (eq_by_cmp R q) (map key rows)
  is_any-values q [] = refl
  is_any-values q (r ∷ rs) = by (eq_by_cmp R q (key r)) (is_any-values q rs)
    where
      by : (b : Bool) → is_any (values_at R key value q rs) ≡ list_any (eq_by_cmp R q) (map key rs)
          → is_any (map value (cond b (r ∷ filter (λ (x : X). eq_by_cmp R q (key x)) rs)
          (filter (λ (x : X). eq_by_cmp R q (key x)) rs)))
          ≡ (b || list_any (eq_by_cmp R q) (map key rs))
      by true rest = refl
      by false rest = rest

module _ {X K V : Type 0} {R : K → K → Ordering} (S : V → V → Ordering) (o : IsTotalOrder R)
    (exact : CmpEqualImpliesEq R) (key : X → K) (value : X → V) where
  abbrev pub sorted_at : List X → K → List V
  sorted_at rows k = sorted_distinct S (values_at R key value k rows)

  -- A key that has a row is found.
  sorted-found : (q : K) (rows : List X)
      → sorted_if_any S (values_at R key value q rows)
      ≡ cond (list_any (eq_by_cmp R q) (map key rows)) (Some (sorted_at rows q)) None
  sorted-found q rows =
      shown (values_at R key value q rows)
      ∙ ap (λ b. cond b (Some (sorted_at rows q)) None) (is_any-values R key value q rows)
    where
      shown : (vs : List V) → sorted_if_any S vs ≡ cond (is_any vs) (Some (sorted_distinct S vs)) None
      shown [] = refl
      shown (v ∷ vs) = refl

  -- The result for all rows.
  pub all_gathered : (rows : List X) (all : Groups K V) → GathersValues R S key value rows all
      → IsStrictlySortedBy R (keys_of all)
      → all ≡ map (λ (k : K). (k, sorted_at rows k)) (sorted_distinct R (map key rows))
  all_gathered rows all h sorted =
      sym (entries-in_order o all sorted)
      ∙ ap (λ m. finmap.entries m) (finmap.same_map o exact _ _ (λ q.
      finmap.get-from_entries o all q
      ∙ h q
      ∙ sorted-found q rows
      ∙ sym (find-valued o exact (sorted_at rows) q (map key rows))
      ∙ sym (finmap.get-from_entries o (valued o exact (sorted_at rows) (map key rows)) q)))
      ∙ entries-valued o exact (sorted_at rows) (map key rows)
