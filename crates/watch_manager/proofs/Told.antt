-- The connections that get an event, and how often.
use Rattle.std.proofs.Common.{◌≡◌, ℕ, List, [], ◌∷◌, ◌++◌, Bool, true, false, cond, not, ◌||◌, ◌&&◌, T, refl, sym, ap, subst, ◌∙◌, map}
use mathlib.Core.Bool.{true≢false}
use Rattle.std.proofs.Math.Bool.{or-true}
use Rattle.std.specs.declared.cmp.Ordering.{Ordering}
use Rattle.std.specs.declared.cmp.Ordering.TheVariants.{Less, Equal, Greater}
use Rattle.std.specs.List.{list_any, filter, AllByRecursion, IsDistinct}
use Rattle.std.specs.List.Sorted.{IsStrictlySortedBy}
use Rattle.std.specs.Ordering.{eq_by_cmp, is_eq, is_lt, nat_cmp}
use Rattle.std.specs.Cmp.{nat_cmp_total, tied_itself}
use Rattle.std.proofs.lemmas.Map.Views.{tells_apart}
use Rattle.std.proofs.lemmas.Map.Lookups.{exact_unsigned}
use Rattle.std.proofs.lemmas.Map.Keys.{IsDistinct-from_sorted}
use Rattle.std.specs.FinMap as finmap
use Rattle.std.specs.FinMap.Entries.{below_all, is_sorted}
use Rattle.std.specs.FinSet as set
use Rattle.ephemerals.specs.Orders.{Bytes}
use Rattle.data_tree.specs.declared.outcome.Trigger.{Trigger}
use Rattle.data_tree.specs.declared.outcome.Trigger.TheVariants.{Created, Deleted, DataChanged, ChildrenChanged}
use Rattle.watch_manager.specs.Pairs.{ConnectionSet, WatchPairs, sorted_connections, watchers_of, without_watches_on, without_connection, same_connection}
use Rattle.watch_manager.specs.Lasting.{LastingWatches, watchers_above, persistent_watchers, lasting_watchers}
use Rattle.watch_manager.specs.Watching.{WatchTables, without_watches_of}
use Rattle.watch_manager.specs.Watches.{events_for, connections_not_told, node_watchers, children_watchers, events_of_trigger, watches_after, fire}
use Rattle.watch_manager.specs.Laws.{AllPass, AllLastingPass, WatchersPass}
use Rattle.watch_manager.specs.declared.event.Event.{Event}
use Rattle.watch_manager.specs.declared.event.EventKind.{EventKind}
use Rattle.watch_manager.specs.declared.event.EventKind.TheVariants.{NodeDeleted}
use Rattle.ephemerals.proofs.Ascending.{any-ascending}
use Rattle.pairs.proofs.Grouped.{front_holds, rest_holds}
use Rattle.watch_manager.proofs.Watchers.{contains-watchers, contains-without_path, contains-without_connection}
use Rattle.watch_manager.proofs.Aboves.{watched_at, paths_up, contains-watchers_above}

-- Lists in which each element has a property.
all_append : {A : Type 0} (P : A → Type 0) (xs ys : List A) → AllByRecursion P xs → AllByRecursion P ys
    → AllByRecursion P (xs ++ ys)
all_append P [] ys h k = k
all_append P (x ∷ xs) ys h k = (h.0, all_append P xs ys h.1 k)

pub all_filter : {A : Type 0} (P : A → Type 0) (keep : A → Bool) (xs : List A) → AllByRecursion P xs
    → AllByRecursion P (filter keep xs)
all_filter P keep [] h = tt
all_filter P keep (x ∷ xs) h =
    let rest = all_filter P keep xs h.1 in
    elim (keep x) as (λ b. AllByRecursion P (cond b (x ∷ filter keep xs) (filter keep xs)))
    [ true ↦ (h.0, rest) | false ↦ rest ]

all_kept : {A : Type 0} (keep : A → Bool) (xs : List A) → AllByRecursion (λ x. keep x ≡ true) (filter keep xs)
all_kept keep [] = tt
all_kept keep (x ∷ xs) =
    let rest = all_kept keep xs in
    elim (keep x) as (λ b. keep x ≡ b → AllByRecursion (λ y. keep y ≡ true)
    (cond b (x ∷ filter keep xs) (filter keep xs))) [
      | true ↦ λ e. (e, rest)
      | false ↦ λ e. rest
    ] refl

all_mapped : {A : Type 0} (P Q : A → Type 0) (gives : (x : A) → P x → Q x) (xs : List A) → AllByRecursion P xs
    → AllByRecursion Q xs
all_mapped P Q gives [] h = tt
all_mapped P Q gives (x ∷ xs) h = (gives x h.0, all_mapped P Q gives xs h.1)

all_members : (test : ℕ → Bool) (ns : List ℕ) → ((q : ℕ) → list_any (eq_by_cmp nat_cmp q) ns ≡ true → test q ≡ true)
    → AllByRecursion (λ q. test q ≡ true) ns
all_members test [] h = tt
all_members test (n ∷ ns) h = (
  h n (ap (λ r. is_eq r || list_any (eq_by_cmp nat_cmp n) ns) (tied_itself nat_cmp_total n)),
  all_members test ns (λ q t. h q (ap (λ b. eq_by_cmp nat_cmp q n || b) t ∙ or-true (eq_by_cmp nat_cmp q n))),
)

-- A property of all members of a set holds for each element of its list.
in_number-all : (test : ℕ → Bool) (conns : ConnectionSet) → ((q : ℕ) → set.contains conns q ≡ true → test q ≡ true)
    → AllByRecursion (λ q. test q ≡ true) (sorted_connections conns)
in_number-all test conns h =
    all_members test (sorted_connections conns) (λ q t. h q
    (set.contains-items conns q ∙ sym (any-ascending nat_cmp_total (set.items conns) q) ∙ t))

-- A property of each connection in a list holds for each that gets an event.
told-all : (test : ℕ → Bool) (kind : EventKind) (path : Bytes) (ns : List ℕ) → AllByRecursion (λ q. test q ≡ true) ns
    → AllByRecursion (λ (e : ℕ × Event). test e.0 ≡ true) (events_for kind path ns)
told-all test kind path [] h = tt
told-all test kind path (n ∷ ns) h = (h.0, told-all test kind path ns h.1)

child-all : (test : ℕ → Bool) (path : Bytes) (pairs : WatchPairs) → AllPass test pairs → (q : ℕ)
    → set.contains (watchers_of path pairs) q ≡ true → test q ≡ true
child-all test path pairs h q t = h path q (sym (contains-watchers path pairs q) ∙ t)

-- A connection of one set or of the other.
of_both : (test : ℕ → Bool) (conns others : ConnectionSet)
    → ((q : ℕ) → set.contains conns q ≡ true → test q ≡ true)
    → ((q : ℕ) → set.contains others q ≡ true → test q ≡ true)
    → (q : ℕ) → set.contains (set.union conns others) q ≡ true → test q ≡ true
of_both test conns others h k q t =
    by (set.contains conns q) (h q) (sym (set.contains-union nat_cmp_total conns others q) ∙ t)
  where
    by : (x : Bool) → (x ≡ true → test q ≡ true) → (x || set.contains others q) ≡ true → test q ≡ true
    by true first e = first refl
    by false first e = k q e

persistent-all : (test : ℕ → Bool) (path : Bytes) (lasting : LastingWatches) → AllLastingPass test lasting → (q : ℕ)
    → set.contains (persistent_watchers path lasting) q ≡ true → test q ≡ true
persistent-all test path lasting h = child-all test path lasting.persistent h.0

above-all : (test : ℕ → Bool) (path : Bytes) (pairs : WatchPairs) → AllPass test pairs → (q : ℕ)
    → set.contains (watchers_above path pairs) q ≡ true → test q ≡ true
above-all test path pairs h q t = by (paths_up path) (sym (contains-watchers_above path pairs q) ∙ t)
  where
    by : (paths : List Bytes) → watched_at pairs q paths ≡ true → test q ≡ true
    by [] e = absurd (true≢false (sym e))
    by (p ∷ ps) e =
        elim (set.contains pairs (p, q)) as (λ b. set.contains pairs (p, q) ≡ b → (b || watched_at pairs q ps) ≡ true
        → test q ≡ true) [
          | true ↦ λ here f. h p q here
          | false ↦ λ out f. by ps f
        ] refl e

node-all : (test : ℕ → Bool) (path : Bytes) (w : WatchTables) → WatchersPass test w → (q : ℕ)
    → set.contains (node_watchers path w) q ≡ true → test q ≡ true
node-all test path w h =
    of_both test (watchers_of path w.data_watches) (lasting_watchers path w.lasting)
    (child-all test path w.data_watches h.0)
    (of_both test (persistent_watchers path w.lasting) (watchers_above path w.lasting.recursive)
    (persistent-all test path w.lasting h.2)
    (above-all test path w.lasting.recursive h.2.1))

children-all : (test : ℕ → Bool) (path : Bytes) (w : WatchTables) → WatchersPass test w → (q : ℕ)
    → set.contains (children_watchers path w) q ≡ true → test q ≡ true
children-all test path w h =
    of_both test (watchers_of path w.child) (persistent_watchers path w.lasting) (child-all test path w.child h.1)
    (persistent-all test path w.lasting h.2)

part-all : (test : ℕ → Bool) (kind : EventKind) (path : Bytes) (conns : ConnectionSet)
    → ((q : ℕ) → set.contains conns q ≡ true → test q ≡ true)
    → AllByRecursion (λ (e : ℕ × Event). test e.0 ≡ true) (events_for kind path (sorted_connections conns))
part-all test kind path conns h = told-all test kind path (sorted_connections conns) (in_number-all test conns h)

tells-all : (test : ℕ → Bool) (w : WatchTables) (t : Trigger) → WatchersPass test w
    → AllByRecursion (λ (e : ℕ × Event). test e.0 ≡ true) (events_of_trigger w t)
tells-all test w (Created path) h = part-all test _ path (node_watchers path w) (node-all test path w h)
tells-all test w (Deleted path) h =
    all_append (λ (e : ℕ × Event). test e.0 ≡ true) _ _
    (part-all test _ path (node_watchers path w) (node-all test path w h))
    (told-all test _ path _ (all_filter (λ q. test q ≡ true) (λ (c : ℕ). not (set.contains (node_watchers path w) c))
    (sorted_connections (watchers_of path w.child))
    (in_number-all test (watchers_of path w.child) (child-all test path w.child h.1))))
tells-all test w (DataChanged path) h = part-all test _ path (node_watchers path w) (node-all test path w h)
tells-all test w (ChildrenChanged path) h = part-all test _ path (children_watchers path w) (children-all test path w h)

both_front : (a b : Bool) → (a && b) ≡ true → a ≡ true
both_front true b e = refl
both_front false b e = e

without_path-all : (test : ℕ → Bool) (path : Bytes) (pairs : WatchPairs) → AllPass test pairs
    → AllPass test (without_watches_on path pairs)
without_path-all test path pairs h p c t = h p c (both_front _ _ (sym (contains-without_path path pairs (p, c)) ∙ t))

after-all : (test : ℕ → Bool) (w : WatchTables) (t : Trigger) → WatchersPass test w
    → WatchersPass test (watches_after w t)
after-all test w (Created path) h = (without_path-all test path w.data_watches h.0, h.1, h.2)
after-all test w (Deleted path) h = (
  without_path-all test path w.data_watches h.0,
  without_path-all test path w.child
      h.1,
  h.2,
)
after-all test w (DataChanged path) h = (without_path-all test path w.data_watches h.0, h.1, h.2)
after-all test w (ChildrenChanged path) h = (h.0, without_path-all test path w.child h.1, h.2)

pub fire-all : (test : ℕ → Bool) (w : WatchTables) (ts : List Trigger) → WatchersPass test w
    → AllByRecursion (λ (e : ℕ × Event). test e.0 ≡ true) (fire w ts).events × WatchersPass test (fire w ts).left
fire-all test w [] h = (tt, h)
fire-all test w (t ∷ ts) h =
    let rest = fire-all test (watches_after w t) ts (after-all test w t h) in
    (all_append (λ (e : ℕ × Event). test e.0 ≡ true) _ _ (tells-all test w t h) rest.0, rest.1)

without_connection-all : (test : ℕ → Bool) (connection : ℕ) (pairs : WatchPairs)
    → AllPass (λ c. test c || same_connection connection c) pairs → AllPass test (without_connection connection pairs)
without_connection-all test connection pairs h p c t =
    by (set.contains pairs (p, c)) (same_connection connection c) (test c) (h p c)
    (sym (contains-without_connection connection pairs (p, c)) ∙ t)
  where
    by : (here same passes : Bool) → (here ≡ true → (passes || same) ≡ true) → (here && not same) ≡ true → passes ≡ true
    by true true passes h e = absurd (true≢false (sym e))
    by true false true h e = refl
    by true false false h e = h refl
    by false same passes h e = absurd (true≢false (sym e))

pub dropped-all : (test : ℕ → Bool) (w : WatchTables) (connection : ℕ)
    → WatchersPass (λ c. test c || same_connection connection c) w
    → WatchersPass test (without_watches_of connection w)
dropped-all test w connection h = (
  without_connection-all test connection w.data_watches h.0,
  without_connection-all test connection w.child h.1,
  (
    without_connection-all test connection w.lasting.persistent h.2.0,
    without_connection-all test connection w.lasting.recursive h.2.1,
  ),
)

-- The list of a set has each connection once.
less : (r : Ordering) → T (is_lt r) → r ≡ Less
less Less h = refl
less Equal h = absurd h
less Greater h = absurd h

all_above : (n : ℕ) (es : List (ℕ × Unit {0})) → T (below_all nat_cmp n es)
    → AllByRecursion (λ m. nat_cmp n m ≡ Less) (map (λ (e : ℕ × Unit {0}). e.0) es)
all_above n [] h = tt
all_above n (e ∷ es) h = (less _ (front_holds _ _ h), all_above n es (rest_holds _ _ h))

sorted_keys : (es : List (ℕ × Unit {0})) → T (is_sorted nat_cmp es)
    → IsStrictlySortedBy nat_cmp (map (λ (e : ℕ × Unit {0}). e.0) es)
unfolding IsStrictlySortedBy
sorted_keys [] h = tt
sorted_keys (e ∷ es) h = (all_above e.0 es (front_holds _ _ h), sorted_keys es (rest_holds _ _ h))

pub in_number-sorted : (conns : ConnectionSet) → IsStrictlySortedBy nat_cmp (sorted_connections conns)
in_number-sorted conns =
    let m = finmap.from_entries {R = nat_cmp} (map (λ (connection : ℕ). (connection, tt {0})) (set.items conns)) in
    sorted_keys (finmap.entries m) (finmap.entries_sorted m)

in_number-distinct : (conns : ConnectionSet) → IsDistinct same_connection (sorted_connections conns)
in_number-distinct conns = IsDistinct-from_sorted nat_cmp (sorted_connections conns) (in_number-sorted conns)

distinct_filter : (keep : ℕ → Bool) (ns : List ℕ) → IsDistinct same_connection ns
    → IsDistinct same_connection (filter keep ns)
unfolding IsDistinct
distinct_filter keep [] h = tt
distinct_filter keep (n ∷ ns) h =
    let rest = distinct_filter keep ns h.1 in
    elim (keep n) as (λ b. IsDistinct same_connection (cond b (n ∷ filter keep ns) (filter keep ns))) [
      | true ↦ (all_filter (λ m. same_connection n m ≡ false) keep ns h.0, rest)
      | false ↦ rest
    ]

distinct_append : (ns ms : List ℕ) → IsDistinct same_connection ns → IsDistinct same_connection ms
    → AllByRecursion (λ n. AllByRecursion (λ m. same_connection n m ≡ false) ms) ns
    → IsDistinct same_connection (ns ++ ms)
unfolding IsDistinct
distinct_append [] ms g h apart = h
distinct_append (n ∷ ns) ms g h apart =
    (all_append (λ m. same_connection n m ≡ false) ns ms g.0 apart.0, distinct_append ns ms g.1 h apart.1)

pub told-connections : (kind : EventKind) (path : Bytes) (ns : List ℕ)
    → map (λ (e : ℕ × Event). e.0) (events_for kind path ns) ≡ ns
told-connections kind path [] = refl
told-connections kind path (n ∷ ns) = ap (λ ms. n ∷ ms) (told-connections kind path ns)

map-append : (xs ys : List (ℕ × Event)) → map (λ (e : ℕ × Event). e.0) (xs ++ ys) ≡ map (λ (e : ℕ × Event). e.0) xs
    ++ map (λ (e : ℕ × Event). e.0) ys
map-append [] ys = refl
map-append (x ∷ xs) ys = ap (λ ns. x.0 ∷ ns) (map-append xs ys)

-- A connection that is skipped isn't among those that get the event.
apart_from : (already : ConnectionSet) (n : ℕ) (ms : List ℕ) → set.contains already n ≡ true
    → AllByRecursion (λ m. not (set.contains already m) ≡ true) ms
    → AllByRecursion (λ m. same_connection n m ≡ false) ms
apart_from already n ms here =
    all_mapped (λ m. not (set.contains already m) ≡ true) (λ m. same_connection n m ≡ false)
    (λ m out. by m (same_connection n m) refl out) ms
  where
    by : (m : ℕ) (b : Bool) → same_connection n m ≡ b → not (set.contains already m) ≡ true
        → same_connection n m ≡ false
    by m true e out =
        absurd (true≢false (sym out ∙ ap (λ x. not (set.contains already x)) (sym (tells_apart exact_unsigned n m e))
        ∙ ap not here))
    by m false e out = e

parts-distinct : (already conns : ConnectionSet)
    → IsDistinct same_connection (sorted_connections already ++ connections_not_told already conns)
parts-distinct already conns =
    distinct_append (sorted_connections already) (connections_not_told already conns) (in_number-distinct already)
    (distinct_filter (λ (c : ℕ). not (set.contains already c)) (sorted_connections conns) (in_number-distinct conns))
    (all_mapped (λ n. set.contains already n ≡ true) (λ n. AllByRecursion (λ m. same_connection n m ≡ false)
    (connections_not_told already conns))
    (λ n here. apart_from already n (connections_not_told already conns) here
    (all_kept (λ (c : ℕ). not (set.contains already c)) (sorted_connections conns)))
    (sorted_connections already) (in_number-all (λ c. set.contains already c) already (λ q t. t)))

part-distinct : (kind : EventKind) (path : Bytes) (conns : ConnectionSet)
    → IsDistinct same_connection (map (λ (e : ℕ × Event). e.0) (events_for kind path (sorted_connections conns)))
part-distinct kind path conns =
    subst (IsDistinct same_connection) (sym (told-connections kind path (sorted_connections conns)))
    (in_number-distinct conns)

pub told_once : (w : WatchTables) (t : Trigger)
    → IsDistinct same_connection (map (λ (e : ℕ × Event). e.0) (events_of_trigger w t))
told_once w (Created path) = part-distinct _ path (node_watchers path w)
told_once w (Deleted path) =
    subst (IsDistinct same_connection)
    (sym (map-append (events_for NodeDeleted path (sorted_connections (node_watchers path w)))
    (events_for NodeDeleted path (connections_not_told (node_watchers path w) (watchers_of path w.child)))
    ∙ (λ i. told-connections NodeDeleted path (sorted_connections (node_watchers path w)) i
    ++ told-connections NodeDeleted path (connections_not_told (node_watchers path w) (watchers_of path w.child)) i)))
    (parts-distinct (node_watchers path w) (watchers_of path w.child))
told_once w (DataChanged path) = part-distinct _ path (node_watchers path w)
told_once w (ChildrenChanged path) = part-distinct _ path (children_watchers path w)
