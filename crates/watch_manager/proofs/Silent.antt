-- Where no event is sent, no watch is used up.
use Rattle.std.proofs.Common.{◌≡◌, ℕ, List, [], ◌∷◌, ◌++◌, Bool, true, false, cond, not, ◌||◌, length, refl, sym, ap, ◌∙◌, arith}
use mathlib.Core.Bool.{true≢false}
use Rattle.std.specs.List.{list_any, filter}
use Rattle.std.specs.Ordering.{eq_by_cmp, nat_cmp}
use Rattle.std.specs.Cmp.{nat_cmp_total}
use Rattle.std.proofs.lemmas.Map.Lookups.{exact_unsigned}
use Rattle.std.specs.FinSet as set
use Rattle.ephemerals.specs.Orders.{Bytes}
use Rattle.data_tree.specs.declared.outcome.Trigger.{Trigger}
use Rattle.data_tree.specs.declared.outcome.Trigger.TheVariants.{Created, Deleted, DataChanged, ChildrenChanged}
use Rattle.watch_manager.specs.Pairs.{ConnectionSet, WatchPairs, sorted_connections, watchers_of, without_watches_on}
use Rattle.watch_manager.specs.Lasting.{persistent_watchers, lasting_watchers}
use Rattle.watch_manager.specs.Watching.{WatchTables}
use Rattle.watch_manager.specs.Watches.{events_for, connections_not_told, node_watchers, events_of_trigger, watches_after, fire}
use Rattle.watch_manager.specs.declared.event.EventKind.{EventKind}
use Rattle.ephemerals.proofs.Ascending.{any-ascending}
use Rattle.watch_manager.proofs.Watchers.{unwatched}

pub front_empty : {A : Type 0} (xs ys : List A) → xs ++ ys ≡ [] → xs ≡ []
front_empty [] ys e = refl
front_empty (x ∷ xs) ys e = absurd (let more : length (x ∷ (xs ++ ys)) ≡ 0 = ap length e in omega (arith, more))

pub rest_empty : {A : Type 0} (xs ys : List A) → xs ++ ys ≡ [] → ys ≡ []
rest_empty [] ys e = e
rest_empty (x ∷ xs) ys e = absurd (let more : length (x ∷ (xs ++ ys)) ≡ 0 = ap length e in omega (arith, more))

none_told : (kind : EventKind) (path : Bytes) (ns : List ℕ) → events_for kind path ns ≡ [] → ns ≡ []
none_told kind path [] e = refl
none_told kind path (n ∷ ns) e =
    absurd (let more : length (events_for kind path (n ∷ ns)) ≡ 0 = ap length e in omega (arith, more))

none_listed : (conns : ConnectionSet) → sorted_connections conns ≡ [] → conns ≡ set.empty
none_listed conns e = set.same_set nat_cmp_total exact_unsigned _ _ (λ q.
    set.contains-items conns q
    ∙ sym (any-ascending nat_cmp_total (set.items conns) q)
    ∙ ap (list_any (eq_by_cmp nat_cmp q)) e
    ∙ sym (set.contains-empty nat_cmp q))

none_kept : (keep : ℕ → Bool) (ns : List ℕ) → ((n : ℕ) → keep n ≡ true) → filter keep ns ≡ [] → ns ≡ []
none_kept keep [] all e = refl
none_kept keep (n ∷ ns) all e =
    absurd (let more : length (n ∷ filter keep ns)
    ≡ 0 = ap (λ b. length (cond b (n ∷ filter keep ns) (filter keep ns))) (sym (all n))
    ∙ ap length e in omega (arith, more))

-- Where nobody is in either set, nobody is in the first.
nobody_first : (conns others : ConnectionSet) → set.union conns others ≡ set.empty → conns ≡ set.empty
nobody_first conns others none = set.same_set nat_cmp_total exact_unsigned _ _ (λ q.
    by (set.contains conns q) (set.contains others q)
    (sym (set.contains-union nat_cmp_total conns others q) ∙ ap (λ s. set.contains s q) none
    ∙ set.contains-empty nat_cmp q)
    ∙ sym (set.contains-empty nat_cmp q))
  where
    by : (x y : Bool) → (x || y) ≡ false → x ≡ false
    by true y e = absurd (true≢false e)
    by false y e = refl

nobody_told : (kind : EventKind) (path : Bytes) (conns : ConnectionSet)
    → events_for kind path (sorted_connections conns) ≡ [] → conns ≡ set.empty
nobody_told kind path conns e = none_listed conns (none_told kind path (sorted_connections conns) e)

untouched : (kind : EventKind) (path : Bytes) (pairs : WatchPairs) (lasting : ConnectionSet)
    → events_for kind path (sorted_connections (set.union (watchers_of path pairs) lasting)) ≡ []
    → without_watches_on path pairs ≡ pairs
untouched kind path pairs lasting e =
    sym (unwatched path pairs (nobody_first (watchers_of path pairs) lasting
    (nobody_told kind path (set.union (watchers_of path pairs) lasting) e)))

untouched-others : (kind : EventKind) (path : Bytes) (already : ConnectionSet) (child : WatchPairs)
    → already ≡ set.empty → events_for kind path (connections_not_told already (watchers_of path child)) ≡ []
    → without_watches_on path child ≡ child
untouched-others kind path already child none e =
    sym (unwatched path child (none_listed (watchers_of path child)
    (none_kept (λ (c : ℕ). not (set.contains already c)) (sorted_connections (watchers_of path child))
    (λ c. ap (λ s. not (set.contains s c)) none ∙ ap not (set.contains-empty nat_cmp c))
    (none_told kind path (connections_not_told already (watchers_of path child)) e))))

pub after-silent : (w : WatchTables) (t : Trigger) → events_of_trigger w t ≡ [] → watches_after w t ≡ w
after-silent w (Created path) e =
    λ i. record w { data_watches = untouched _ path w.data_watches (lasting_watchers path w.lasting) e i }
after-silent w (Deleted path) e =
    let first = front_empty _ _ e in
    let none = nobody_told _ path (node_watchers path w) first in
    λ i. record w {
      data_watches = untouched _ path w.data_watches (lasting_watchers path w.lasting) first i;
      child = untouched-others _ path (node_watchers path w) w.child none
          (rest_empty _ _ e) i;
    }
after-silent w (DataChanged path) e =
    λ i. record w { data_watches = untouched _ path w.data_watches (lasting_watchers path w.lasting) e i }
after-silent w (ChildrenChanged path) e =
    λ i. record w { child = untouched _ path w.child (persistent_watchers path w.lasting) e i }

pub silent : (w : WatchTables) (ts : List Trigger) → (fire w ts).events ≡ [] → w ≡ (fire w ts).left
silent w [] e = refl
silent w (t ∷ ts) e =
    sym (after-silent w t (front_empty (events_of_trigger w t) (fire (watches_after w t) ts).events e))
    ∙ silent (watches_after w t) ts (rest_empty (events_of_trigger w t) (fire (watches_after w t) ts).events e)
