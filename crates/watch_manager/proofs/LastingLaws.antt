-- What holds of lasting watches for each firing.
use Rattle.std.proofs.Common.{◌≡◌, ℕ, suc, List, [], ◌∷◌, ◌++◌, Bool, true, false, cond, not, ◌||◌, refl, sym, ap, subst, ◌∙◌, arith, append-nil}
use mathlib.Core.Bool.{true≢false}
use Rattle.std.proofs.Math.Bool.{or-true}
use Rattle.std.specs.Prelude.{Contains}
use Rattle.std.specs.List.{list_any, filter}
use Rattle.std.specs.List.Sorted.{IsStrictlySortedBy}
use Rattle.std.specs.declared.cmp.Ordering.TheVariants.{Less}
use Rattle.std.specs.Ordering.{eq_by_cmp, nat_cmp}
use Rattle.std.specs.Cmp.{nat_cmp_total}
use Rattle.std.proofs.lemmas.Map.Views.{tells_apart}
use Rattle.std.proofs.lemmas.Map.Lookups.{exact_unsigned, exact_bytes}
use Rattle.std.specs.FinSet as set
use Rattle.ephemerals.specs.Orders.{Bytes}
use Rattle.ephemerals.proofs.Ascending.{any-ascending}
use Rattle.data_tree.specs.declared.outcome.Trigger.{Trigger}
use Rattle.data_tree.specs.declared.outcome.Trigger.TheVariants.{Created, Deleted, DataChanged, ChildrenChanged}
use Rattle.watch_manager.specs.Pairs.{ConnectionSet, WatchPairs, sorted_connections, watchers_of, same_path}
use Rattle.watch_manager.specs.Lasting.{watchers_above, persistent_watchers, lasting_watchers}
use Rattle.watch_manager.specs.Watching.{WatchTables}
use Rattle.watch_manager.specs.Watches.{event_for, events_for, connections_not_told, node_watchers, children_watchers, watches_after}
use Rattle.watch_manager.specs.Laws.{LastingWatchesStay, WatchesRecursively, RecursiveWatchersAreTold, IsInConnectionOrder, PartsAscend}
use Rattle.watch_manager.specs.declared.event.Event.{Event}
use Rattle.watch_manager.specs.declared.event.EventKind.{EventKind}
use Rattle.watch_manager.specs.declared.event.EventKind.TheVariants.{NodeCreated, NodeDeleted, NodeDataChanged}
use Rattle.watch_manager.proofs.Aboves.{watched_at, paths_up, is_up, contains-watchers_above}
use Rattle.watch_manager.proofs.Told.{all_filter, told-connections, in_number-sorted}

-- ---- lasting watches stay

after-stay : (w : WatchTables) (t : Trigger) → (watches_after w t).lasting ≡ w.lasting
after-stay w (Created path) = refl
after-stay w (Deleted path) = refl
after-stay w (DataChanged path) = refl
after-stay w (ChildrenChanged path) = refl

pub lasting_stay : LastingWatchesStay
lasting_stay w [] = refl
lasting_stay w (t ∷ ts) = lasting_stay (watches_after w t) ts ∙ after-stay w t

-- ---- recursive watchers are told

watched-at : (pairs : WatchPairs) (on : Bytes) (c : ℕ) (paths : List Bytes) → set.contains pairs (on, c) ≡ true
    → list_any (same_path on) paths ≡ true → watched_at pairs c paths ≡ true
watched-at pairs on c [] here e = absurd (true≢false (sym e))
watched-at pairs on c (p ∷ ps) here e =
    elim (same_path on p) as (λ b. same_path on p ≡ b → (b || list_any (same_path on) ps) ≡ true
    → watched_at pairs c (p ∷ ps) ≡ true) [
      | true ↦ λ t f.
          ap (λ b. b || watched_at pairs c ps)
          (ap (λ x. set.contains pairs (x, c)) (sym (tells_apart exact_bytes on p t)) ∙ here)
      | false ↦ λ t f.
          ap (λ b. set.contains pairs (p, c) || b) (watched-at pairs on c ps here f)
          ∙ or-true (set.contains pairs (p, c))
    ] refl e

above-watched : (w : WatchTables) (path : Bytes) (connection : ℕ) → WatchesRecursively w path connection
    → set.contains (watchers_above path w.lasting.recursive) connection ≡ true
above-watched w path connection h =
    contains-watchers_above path w.lasting.recursive connection
    ∙ watched-at w.lasting.recursive h.on connection (paths_up path) h.is_set
    (sym (is_up h.on path) ∙ h.reaches)

node-watched : (w : WatchTables) (path : Bytes) (connection : ℕ) → WatchesRecursively w path connection
    → set.contains (node_watchers path w) connection ≡ true
node-watched w path connection h =
    set.contains-union nat_cmp_total (watchers_of path w.data_watches) (lasting_watchers path w.lasting) connection
    ∙ ap (λ b. set.contains (watchers_of path w.data_watches) connection || b)
    (set.contains-union nat_cmp_total (persistent_watchers path w.lasting)
    (watchers_above path w.lasting.recursive) connection
    ∙ ap (λ b. set.contains (persistent_watchers path w.lasting) connection || b) (above-watched w path connection h)
    ∙ or-true (set.contains (persistent_watchers path w.lasting) connection))
    ∙ or-true (set.contains (watchers_of path w.data_watches) connection)

event-told : (kind : EventKind) (path : Bytes) (c : ℕ) (ns : List ℕ) (after : List (ℕ × Event))
    → list_any (eq_by_cmp nat_cmp c) ns ≡ true
    → Contains (events_for kind path ns ++ after) (event_for c kind path)
event-told kind path c [] after e = absurd (true≢false (sym e))
event-told kind path c (n ∷ ns) after e =
    elim (eq_by_cmp nat_cmp c n) as (λ b. eq_by_cmp nat_cmp c n ≡ b → (b || list_any (eq_by_cmp nat_cmp c) ns) ≡ true
    → Contains (events_for kind path (n ∷ ns) ++ after) (event_for c kind path)) [
      | true ↦ λ t f. (0, omega arith, ap (λ x. event_for x kind path) (sym (tells_apart exact_unsigned c n t)))
      | false ↦ λ t f. let rest = event-told kind path c ns after f in (suc rest.0, omega (arith, rest.1), rest.2)
    ] refl e

part-told : (kind : EventKind) (path : Bytes) (w : WatchTables) (connection : ℕ) (after : List (ℕ × Event))
    → WatchesRecursively w path connection
    → Contains (events_for kind path (sorted_connections (node_watchers path w)) ++ after)
    (event_for connection kind path)
part-told kind path w connection after h =
    event-told kind path connection (sorted_connections (node_watchers path w)) after
    (any-ascending nat_cmp_total (set.items (node_watchers path w)) connection
    ∙ sym (set.contains-items (node_watchers path w) connection)
    ∙ node-watched w path connection h)

alone : (kind : EventKind) (path : Bytes) (w : WatchTables) (connection : ℕ) → WatchesRecursively w path connection
    → Contains (events_for kind path (sorted_connections (node_watchers path w))) (event_for connection kind path)
alone kind path w connection h =
    subst (λ (es : List (ℕ × Event)). Contains es (event_for connection kind path))
    (append-nil (events_for kind path (sorted_connections (node_watchers path w))))
    (part-told kind path w connection [] h)

pub recursive_told : RecursiveWatchersAreTold
recursive_told = record {
  created = λ w path connection h. alone NodeCreated path w connection h;
  deleted = λ w path connection h. part-told NodeDeleted path w connection
      (events_for NodeDeleted path (connections_not_told (node_watchers path w) (watchers_of path w.child))) h;
  changed = λ w path connection h. alone NodeDataChanged path w connection h;
}

-- ---- parts ascend

filter-sorted : (keep : ℕ → Bool) (ns : List ℕ) → IsStrictlySortedBy nat_cmp ns
    → IsStrictlySortedBy nat_cmp (filter keep ns)
unfolding IsStrictlySortedBy
filter-sorted keep [] h = tt
filter-sorted keep (n ∷ ns) h =
    let rest = filter-sorted keep ns h.1 in
    elim (keep n) as (λ b. IsStrictlySortedBy nat_cmp (cond b (n ∷ filter keep ns) (filter keep ns))) [
      | true ↦ (all_filter (λ m. nat_cmp n m ≡ Less) keep ns h.0, rest)
      | false ↦ rest
    ]

in_order : (kind : EventKind) (path : Bytes) (ns : List ℕ) → IsStrictlySortedBy nat_cmp ns
    → IsInConnectionOrder (events_for kind path ns)
in_order kind path ns h = subst (IsStrictlySortedBy nat_cmp) (sym (told-connections kind path ns)) h

part-in_order : (kind : EventKind) (path : Bytes) (conns : ConnectionSet)
    → IsInConnectionOrder (events_for kind path (sorted_connections conns))
part-in_order kind path conns = in_order kind path (sorted_connections conns) (in_number-sorted conns)

pub parts_ascend : PartsAscend
parts_ascend = record {
  created = λ w path. part-in_order _ path (node_watchers path w);
  deleted = λ w path. (
    events_for NodeDeleted path (sorted_connections (node_watchers path w)),
    events_for NodeDeleted path (connections_not_told (node_watchers path w) (watchers_of path w.child)),
    refl,
    part-in_order _ path (node_watchers path w),
    in_order _ path (connections_not_told (node_watchers path w) (watchers_of path w.child))
        (filter-sorted (λ (c : ℕ). not (set.contains (node_watchers path w) c))
        (sorted_connections (watchers_of path w.child)) (in_number-sorted (watchers_of path w.child))),
  );
  changed = λ w path. part-in_order _ path (node_watchers path w);
  children = λ w path. part-in_order _ path (children_watchers path w);
}
