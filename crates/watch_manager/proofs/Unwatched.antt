-- Where nothing is watched, a trigger has no event.
use Rattle.std.proofs.Common.{◌≡◌, ℕ, List, [], ◌∷◌, ◌++◌, ◌||◌, not, refl, sym, ap, ◌∙◌, map}
use Rattle.std.specs.List.{filter}
use Rattle.std.specs.Ordering.{nat_cmp}
use Rattle.std.specs.Cmp.{nat_cmp_total}
use Rattle.std.proofs.lemmas.Map.Lookups.{exact_unsigned}
use Rattle.std.specs.FinSet as set
use Rattle.ephemerals.specs.Orders.{Bytes}
use Rattle.ephemerals.proofs.Ascending.{any-ascending}
use Rattle.data_tree.specs.declared.outcome.Trigger.{Trigger}
use Rattle.data_tree.specs.declared.outcome.Trigger.TheVariants.{Created, Deleted, DataChanged, ChildrenChanged}
use Rattle.watch_manager.specs.Pairs.{ConnectionSet, watch_cmp, same_path, sorted_connections, watchers_of}
use Rattle.watch_manager.specs.Lasting.{no_lasting_watch, is_above, watchers_above, lasting_watchers}
use Rattle.watch_manager.specs.Watching.{no_watch}
use Rattle.watch_manager.specs.Watches.{events_for, connections_not_told, node_watchers, events_of_trigger, watches_after, fire}
use Rattle.watch_manager.specs.declared.event.EventKind.{EventKind}
use Rattle.watch_manager.specs.declared.event.EventKind.TheVariants.{NodeDeleted}
use Rattle.watch_manager.proofs.Totals.{watch_total}
use Rattle.watch_manager.proofs.Emptiness.{nothing_found, nobody}
use Rattle.watch_manager.proofs.Silent.{after-silent, silent}

no_pairs : set.items (set.empty {R = watch_cmp}) ≡ []
no_pairs = nothing_found watch_total _
    (λ q. sym (set.contains-items set.empty q) ∙ set.contains-empty watch_cmp q)

nobody_above : (path : Bytes) → watchers_above path set.empty ≡ set.empty
nobody_above path =
    ap (λ ps. set.from_list (map (λ (p : Bytes × ℕ). p.1)
    (filter (λ (p : Bytes × ℕ). same_path p.0 path || is_above p.0 path) ps))) no_pairs

neither : set.union (set.empty {R = nat_cmp}) set.empty ≡ set.empty
neither = set.same_set nat_cmp_total exact_unsigned _ _ (λ q.
    set.contains-union nat_cmp_total set.empty set.empty q
    ∙ ap (λ b. b || set.contains (set.empty {R = nat_cmp}) q) (set.contains-empty nat_cmp q))

nobody_lasting : (path : Bytes) → lasting_watchers path no_lasting_watch ≡ set.empty
nobody_lasting path = (λ i. set.union (nobody path i) (nobody_above path i)) ∙ neither

nobody_at : (path : Bytes) → node_watchers path no_watch ≡ set.empty
nobody_at path = (λ i. set.union (nobody path i) (nobody_lasting path i)) ∙ neither

none_sorted : sorted_connections set.empty ≡ []
none_sorted = nothing_found nat_cmp_total _ (λ q.
    any-ascending nat_cmp_total (set.items set.empty) q
    ∙ sym (set.contains-items (set.empty {R = nat_cmp}) q) ∙ set.contains-empty nat_cmp q)

none_told : (kind : EventKind) (path : Bytes) (conns : ConnectionSet) → conns ≡ set.empty
    → events_for kind path (sorted_connections conns) ≡ []
none_told kind path conns e =
    ap (λ s. events_for kind path (sorted_connections s)) e ∙ ap (events_for kind path) none_sorted

no_event : (t : Trigger) → events_of_trigger no_watch t ≡ []
no_event (Created path) = none_told _ path _ (nobody_at path)
no_event (Deleted path) =
    ap (λ es. es ++ events_for NodeDeleted path (connections_not_told (node_watchers path no_watch) (watchers_of path set.empty)))
    (none_told _ path _ (nobody_at path))
    ∙ ap (λ s. events_for NodeDeleted path (connections_not_told (node_watchers path no_watch) s)) (nobody path)
    ∙ ap (λ ns. events_for NodeDeleted path
    (filter (λ (connection : ℕ). not (set.contains (node_watchers path no_watch) connection)) ns)) none_sorted
no_event (DataChanged path) = none_told _ path _ (nobody_at path)
no_event (ChildrenChanged path) =
    none_told _ path _ ((λ i. set.union (nobody path i) (nobody path i)) ∙ neither)

pub no_events : (ts : List Trigger) → (fire no_watch ts).events ≡ []
no_events [] = refl
no_events (t ∷ ts) =
    ap (λ es. es ++ (fire (watches_after no_watch t) ts).events) (no_event t)
    ∙ ap (λ w. (fire w ts).events) (after-silent no_watch t (no_event t))
    ∙ no_events ts

-- Nothing is left, either.
pub none_left : (ts : List Trigger) → no_watch ≡ (fire no_watch ts).left
none_left ts = silent no_watch ts (no_events ts)
