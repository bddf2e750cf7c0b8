-- The counts of all tables.
use Rattle.std.proofs.Common.{◌≡◌, ℕ, ◌+◌, List, [], ◌∷◌, ◌++◌, Bool, true, false, ◌||◌, refl, sym, ap, ◌∙◌, map}
use Rattle.std.specs.List.{list_any}
use Rattle.std.specs.Ordering.{eq_by_cmp, nat_cmp}
use Rattle.std.specs.Cmp.{nat_cmp_total}
use Rattle.std.proofs.lemmas.Map.Lookups.{exact_unsigned, exact_bytes}
use Rattle.std.specs.FinSet as set
use Rattle.ephemerals.specs.Orders.{Bytes, path_cmp}
use Rattle.ephemerals.proofs.Totals.{path_total}
use Rattle.watch_manager.specs.Pairs.{WatchPairs}
use Rattle.watch_manager.specs.Watching.{WatchTables}
use Rattle.watch_manager.specs.Counts.{pairs_watched, watched_paths, watching_connections}
use Rattle.watch_manager.specs.Inner.Grouped.{keys_in, keys_beyond, connections_in, connections_beyond}
use Rattle.watch_manager.proofs.SetCounts.{len-four}

-- ---- the paths and connections of all tables

any-map-append : {A : Type 0} (f : Bytes × ℕ → A) (test : A → Bool) (xs ys : List (Bytes × ℕ))
    → list_any test (map f (xs ++ ys)) ≡ (list_any test (map f xs) || list_any test (map f ys))
any-map-append f test [] ys = refl
any-map-append f test (x ∷ xs) ys =
    ap (λ b. test (f x) || b) (any-map-append f test xs ys)
    ∙ or_assoc (test (f x)) (list_any test (map f xs)) (list_any test (map f ys))
  where
    or_assoc : (a b c : Bool) → (a || (b || c)) ≡ ((a || b) || c)
    or_assoc true b c = refl
    or_assoc false b c = refl

-- Whether one of the four lists passes.
four : {A : Type 0} (f : Bytes × ℕ → A) (test : A → Bool) (w : WatchTables)
    → list_any test (map f (pairs_watched w))
    ≡ (list_any test (map f (set.items w.data_watches)) || (list_any test (map f (set.items w.child))
    || (list_any test (map f (set.items w.lasting.persistent)) || list_any test (map f (set.items w.lasting.recursive)))))
four f test w =
    let data_watches = set.items w.data_watches in
    let child = set.items w.child in
    let persistent = set.items w.lasting.persistent in
    let recursive = set.items w.lasting.recursive in
    any-map-append f test (data_watches ++ child ++ persistent) recursive
    ∙ ap (λ b. b || list_any test (map f recursive)) (any-map-append f test (data_watches ++ child) persistent)
    ∙ ap (λ b. (b || list_any test (map f persistent)) || list_any test (map f recursive))
    (any-map-append f test data_watches child)
    ∙ by (list_any test (map f data_watches)) (list_any test (map f child)) (list_any test (map f persistent))
    (list_any test (map f recursive))
  where
    by : (a b c d : Bool) → (((a || b) || c) || d) ≡ (a || (b || (c || d)))
    by true b c d = refl
    by false true c d = refl
    by false false c d = refl

abbrev first : Bytes × ℕ → Bytes
first p = p.0

abbrev second : Bytes × ℕ → ℕ
second p = p.1

pub len-watched : (w : WatchTables)
    → set.len (keys_in path_cmp w.data_watches) + set.len
    (keys_beyond path_cmp w.child w.data_watches w.data_watches w.data_watches)
    + set.len (keys_beyond path_cmp w.lasting.persistent w.data_watches w.child w.child)
    + set.len (keys_beyond path_cmp w.lasting.recursive w.data_watches w.child
    w.lasting.persistent)
    ≡ set.len (watched_paths w)
len-watched w =
    len-four path_total exact_bytes (keys_in path_cmp w.data_watches) (keys_in path_cmp w.child)
    (keys_in path_cmp w.lasting.persistent) (keys_in path_cmp w.lasting.recursive)
    (watched_paths w) (λ q.
    set.contains-from_list path_total (map first (pairs_watched w)) q
    ∙ four first (eq_by_cmp path_cmp q) w
    ∙ (λ i. listed w.data_watches q i || (listed w.child q i || (listed w.lasting.persistent q i
    || listed w.lasting.recursive q i))))
  where
    listed : (pairs : WatchPairs) (q : Bytes) → list_any (eq_by_cmp path_cmp q) (map first (set.items pairs))
        ≡ set.contains (keys_in path_cmp pairs) q
    listed pairs q = sym (set.contains-from_list path_total (map first (set.items pairs)) q)

pub len-watching : (w : WatchTables)
    → set.len (connections_in w.data_watches) + set.len
    (connections_beyond w.child w.data_watches w.data_watches w.data_watches)
    + set.len (connections_beyond w.lasting.persistent w.data_watches w.child w.child)
    + set.len (connections_beyond w.lasting.recursive w.data_watches w.child
    w.lasting.persistent)
    ≡ set.len (watching_connections w)
len-watching w =
    len-four nat_cmp_total exact_unsigned (connections_in w.data_watches) (connections_in w.child)
    (connections_in w.lasting.persistent) (connections_in w.lasting.recursive)
    (watching_connections w) (λ d.
    set.contains-from_list nat_cmp_total (map second (pairs_watched w)) d
    ∙ four second (eq_by_cmp nat_cmp d) w
    ∙ (λ i. listed w.data_watches d i || (listed w.child d i || (listed w.lasting.persistent d i
    || listed w.lasting.recursive d i))))
  where
    listed : (pairs : WatchPairs) (d : ℕ) → list_any (eq_by_cmp nat_cmp d) (map second (set.items pairs))
        ≡ set.contains (connections_in pairs) d
    listed pairs d = sym (set.contains-from_list nat_cmp_total (map second (set.items pairs)) d)
