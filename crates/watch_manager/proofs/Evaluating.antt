-- Firing, evaluated on watches given as a list.
use Rattle.std.proofs.Common.{◌≡◌, ℕ, List, [], ◌∷◌, ◌++◌, Bool, true, false, cond, not, ◌||◌, ◌&&◌, refl, sym, ap, ◌∙◌, map}
use Rattle.std.specs.List.{list_any, filter}
use Rattle.std.specs.Ordering.{eq_by_cmp, nat_cmp}
use Rattle.std.specs.Cmp.{nat_cmp_total}
use Rattle.std.proofs.lemmas.List.Folds.{list_any-append}
use Rattle.std.proofs.lemmas.Map.Views.{tells_apart}
use Rattle.std.proofs.lemmas.Map.Lookups.{exact_unsigned}
use Rattle.std.specs.FinSet as set
use Rattle.ephemerals.specs.Orders.{Bytes}
use Rattle.data_tree.specs.declared.outcome.Trigger.{Trigger}
use Rattle.data_tree.specs.declared.outcome.Trigger.TheVariants.{Created, Deleted, DataChanged, ChildrenChanged}
use Rattle.watch_manager.specs.Pairs.{ConnectionSet, watch_cmp, same_path, sorted_connections, watchers_of, without_watches_on}
use Rattle.watch_manager.specs.Lasting.{LastingWatches, is_above, watchers_above, persistent_watchers, lasting_watchers}
use Rattle.watch_manager.specs.Watching.{WatchTables}
use Rattle.watch_manager.specs.Watches.{FireResult, events_for, connections_not_told, node_watchers, children_watchers, events_of_trigger, watches_after, fire}
use Rattle.watch_manager.specs.Rows.{watches_on, lasting_on}
use Rattle.watch_manager.specs.declared.event.Event.{Event}
use Rattle.watch_manager.specs.declared.event.EventKind.TheVariants.{NodeCreated, NodeDeleted, NodeDataChanged, NodeChildrenChanged}
use Rattle.watch_manager.proofs.Totals.{watch_total, watch_exact}
use Rattle.watch_manager.proofs.Ascending.{placed, ascending-placed, same_ascending}
use Rattle.watch_manager.proofs.Watchers.{any-watcher, contains-watchers, contains-without_path}
use Rattle.watch_manager.proofs.Aboves.{paths_up, any-watchers_above, contains-watchers_above}

abbrev Listed : Type 0
Listed = List (Bytes × ℕ)

-- The persistent watches, and the recursive ones.
abbrev LastingListed : Type 0
LastingListed = Listed × Listed

-- The connections that watch the path, in the order of the list.
abbrev pub at : Bytes → Listed → List ℕ
at path ps = map (λ (p : Bytes × ℕ). p.1) (filter (λ (p : Bytes × ℕ). same_path path p.0) ps)

-- The connections that watch the path or one above it.
abbrev pub above : Bytes → Listed → List ℕ
above path ps =
    map (λ (p : Bytes × ℕ). p.1) (filter (λ (p : Bytes × ℕ). same_path p.0 path || is_above p.0 path) ps)

-- The watches on other paths.
abbrev pub but : Bytes → Listed → Listed
but path ps = filter (λ (p : Bytes × ℕ). not (same_path path p.0)) ps

abbrev pub node_at : Bytes → Listed → LastingListed → List ℕ
node_at path data_watches ls = at path data_watches ++
    (at path ls.0 ++ above path ls.1)

abbrev pub children_at : Bytes → Listed → LastingListed → List ℕ
children_at path child ls = at path child ++ at path ls.0

-- In ascending order of their numbers.
abbrev pub in_number : List ℕ → List ℕ
in_number ns = placed nat_cmp_total ns

abbrev pub others : List ℕ → List ℕ → List ℕ
others already conns = filter (λ (connection : ℕ). not (list_any (eq_by_cmp nat_cmp connection) already))
    (in_number conns)

abbrev pub events_of : Listed → Listed → LastingListed → Trigger → List (ℕ × Event)
events_of data_watches child ls (Created path) = events_for NodeCreated path (in_number (node_at path data_watches ls))
events_of data_watches child ls (Deleted path) =
    events_for NodeDeleted path (in_number (node_at path data_watches ls))
    ++ events_for NodeDeleted path (others (node_at path data_watches ls) (at path child))
events_of data_watches child ls (DataChanged path) = events_for NodeDataChanged path
    (in_number (node_at path data_watches ls))
events_of data_watches child ls (ChildrenChanged path) =
    events_for NodeChildrenChanged path (in_number (children_at path child ls))

abbrev pub own_after : Listed → Trigger → Listed
own_after data_watches (Created path) = but path data_watches
own_after data_watches (Deleted path) = but path data_watches
own_after data_watches (DataChanged path) = but path data_watches
own_after data_watches (ChildrenChanged path) = data_watches

abbrev pub child_after : Listed → Trigger → Listed
child_after child (Created path) = child
child_after child (Deleted path) = but path child
child_after child (DataChanged path) = child
child_after child (ChildrenChanged path) = but path child

abbrev lasting_listed : LastingListed → LastingWatches
lasting_listed ls = record { persistent = set.from_list ls.0; recursive = set.from_list ls.1 }

abbrev pub watches_listed : Listed → Listed → LastingListed → WatchTables
watches_listed data_watches child ls = lasting_on ls.0 ls.1 (watches_on data_watches child)

abbrev pub fire_listed : Listed → Listed → LastingListed → List Trigger → FireResult
fire_listed data_watches child ls [] = record { events = []; left = watches_listed data_watches child ls }
fire_listed data_watches child ls (t ∷ ts) =
    let rest = fire_listed (own_after data_watches t) (child_after child t) ls ts in
    record { events = events_of data_watches child ls t ++ rest.events; left = rest.left }

-- A set of connections that has the members of a list.
HasMembers : ConnectionSet → List ℕ → Type 0
HasMembers conns ns = (c : ℕ) → set.contains conns c ≡ list_any (eq_by_cmp nat_cmp c) ns

ascending-members : (conns : ConnectionSet) (ns : List ℕ) → HasMembers conns ns → sorted_connections conns
    ≡ in_number ns
unfolding HasMembers
ascending-members conns ns has =
    same_ascending nat_cmp_total exact_unsigned (set.items conns) ns
    (λ c. sym (set.contains-items conns c) ∙ has c)
    ∙ ascending-placed nat_cmp_total ns

union-members : (conns others : ConnectionSet) (ns ms : List ℕ) → HasMembers conns ns → HasMembers others ms
    → HasMembers (set.union conns others) (ns ++ ms)
unfolding HasMembers
union-members conns others ns ms h k c =
    set.contains-union nat_cmp_total conns others c
    ∙ (λ i. h c i || k c i)
    ∙ sym (list_any-append (eq_by_cmp nat_cmp c) ns ms)

watchers-listed : (path : Bytes) (ps : Listed) → HasMembers (watchers_of path (set.from_list ps)) (at path ps)
unfolding HasMembers
watchers-listed path ps c =
    contains-watchers path (set.from_list ps) c
    ∙ set.contains-from_list watch_total ps (path, c)
    ∙ sym (any-watcher path c ps)

above-listed : (path : Bytes) (ps : Listed) → HasMembers (watchers_above path (set.from_list ps)) (above path ps)
unfolding HasMembers
above-listed path ps c =
    contains-watchers_above path (set.from_list ps) c
    ∙ (λ i. list_any (λ (x : Bytes). set.contains-from_list watch_total ps (x, c) i) (paths_up path))
    ∙ sym (any-watchers_above path ps c)

any-kept : (keep : Bytes × ℕ → Bool) (q : Bytes × ℕ) (ps : Listed)
    → list_any (eq_by_cmp watch_cmp q) (filter keep ps) ≡ (list_any (eq_by_cmp watch_cmp q) ps && keep q)
any-kept keep q [] = refl
any-kept keep q (p ∷ ps) = by (any-kept keep q ps) (keep p) refl (eq_by_cmp watch_cmp q p) refl
  where
    and_or : (x y k : Bool) → (x ≡ true → k ≡ true) → (x || (y && k)) ≡ ((x || y) && k)
    and_or true y k h = sym (h refl)
    and_or false y k h = refl

    or_and : (x y k : Bool) → (x ≡ true → k ≡ false) → (y && k) ≡ ((x || y) && k)
    or_and true true k h = refl
    or_and true false k h = sym (h refl)
    or_and false y k h = refl

    same : eq_by_cmp watch_cmp q p ≡ true → keep q ≡ keep p
    same t = ap keep (tells_apart watch_exact q p t)

    by : list_any (eq_by_cmp watch_cmp q) (filter keep ps)
        ≡ (list_any (eq_by_cmp watch_cmp q) ps && keep q) → (k : Bool) → keep p ≡ k
        → (x : Bool) → eq_by_cmp watch_cmp q p ≡ x
        → list_any (eq_by_cmp watch_cmp q) (cond k (p ∷ filter keep ps) (filter keep ps))
        ≡ ((x || list_any (eq_by_cmp watch_cmp q) ps) && keep q)
    by rest true e x is =
        (λ i. is i || rest i)
        ∙ and_or x (list_any (eq_by_cmp watch_cmp q) ps) (keep q) (λ t. same (is ∙ t) ∙ e)
    by rest false e x is =
        rest ∙ or_and x (list_any (eq_by_cmp watch_cmp q) ps) (keep q) (λ t. same (is ∙ t) ∙ e)

without-listed : (path : Bytes) (ps : Listed) → without_watches_on path (set.from_list ps) ≡ set.from_list (but path ps)
without-listed path ps = set.same_set watch_total watch_exact _ _ (λ q.
    contains-without_path path (set.from_list ps) q
    ∙ ap (λ b. b && not (same_path path q.0)) (set.contains-from_list watch_total ps q)
    ∙ sym (any-kept (λ (p : Bytes × ℕ). not (same_path path p.0)) q ps)
    ∙ sym (set.contains-from_list watch_total (but path ps) q))

node-listed : (path : Bytes) (data_watches child : Listed) (ls : LastingListed)
    → HasMembers (node_watchers path (watches_listed data_watches child ls)) (node_at path data_watches ls)
unfolding HasMembers
node-listed path data_watches child ls =
    union-members (watchers_of path (set.from_list data_watches)) (lasting_watchers path (lasting_listed ls))
    (at path data_watches) (at path ls.0 ++ above path ls.1) (watchers-listed path data_watches)
    (union-members (persistent_watchers path (lasting_listed ls)) (watchers_above path (set.from_list ls.1))
    (at path ls.0) (above path ls.1) (watchers-listed path ls.0) (above-listed path ls.1))

children-listed : (path : Bytes) (data_watches child : Listed) (ls : LastingListed)
    → HasMembers (children_watchers path (watches_listed data_watches child ls)) (children_at path child ls)
children-listed path data_watches child ls =
    union-members (watchers_of path (set.from_list child)) (persistent_watchers path (lasting_listed ls))
    (at path child) (at path ls.0) (watchers-listed path child) (watchers-listed path ls.0)

each_but-at : (path : Bytes) (data_watches child : Listed) (ls : LastingListed)
    → connections_not_told (node_watchers path (watches_listed data_watches child ls))
    (watchers_of path (set.from_list child))
    ≡ others (node_at path data_watches ls) (at path child)
unfolding HasMembers
each_but-at path data_watches child ls =
    λ i. filter (λ (c : ℕ). not (node-listed path data_watches child ls c i))
    (ascending-members (watchers_of path (set.from_list child)) (at path child) (watchers-listed path child) i)

node-in_number : (path : Bytes) (data_watches child : Listed) (ls : LastingListed)
    → sorted_connections (node_watchers path (watches_listed data_watches child ls)) ≡ in_number
    (node_at path data_watches ls)
node-in_number path data_watches child ls =
    ascending-members (node_watchers path (watches_listed data_watches child ls)) (node_at path data_watches ls)
    (node-listed path data_watches child ls)

tells-listed : (data_watches child : Listed) (ls : LastingListed) (t : Trigger)
    → events_of_trigger (watches_listed data_watches child ls) t ≡ events_of data_watches child ls t
tells-listed data_watches child ls (Created path) = ap (events_for NodeCreated path)
    (node-in_number path data_watches child ls)
tells-listed data_watches child ls (Deleted path) =
    λ i. events_for NodeDeleted path (node-in_number path data_watches child ls i)
    ++ events_for NodeDeleted path (each_but-at path data_watches child ls i)
tells-listed data_watches child ls (DataChanged path) = ap (events_for NodeDataChanged path)
    (node-in_number path data_watches child ls)
tells-listed data_watches child ls (ChildrenChanged path) =
    ap (events_for NodeChildrenChanged path)
    (ascending-members (children_watchers path (watches_listed data_watches child ls))
    (children_at path child ls) (children-listed path data_watches child ls))

after-listed : (data_watches child : Listed) (ls : LastingListed) (t : Trigger)
    → watches_after (watches_listed data_watches child ls) t ≡ watches_listed (own_after data_watches t)
    (child_after child t) ls
after-listed data_watches child ls (Created path) =
    λ i. record (watches_listed data_watches child ls) { data_watches = without-listed path data_watches i }
after-listed data_watches child ls (Deleted path) =
    λ i. record (watches_listed data_watches child ls)
    { data_watches = without-listed path data_watches i; child = without-listed path child i }
after-listed data_watches child ls (DataChanged path) =
    λ i. record (watches_listed data_watches child ls) { data_watches = without-listed path data_watches i }
after-listed data_watches child ls (ChildrenChanged path) =
    λ i. record (watches_listed data_watches child ls) { child = without-listed path child i }

pub evaluated : (data_watches child : Listed) (ls : LastingListed) (ts : List Trigger)
    → fire (watches_listed data_watches child ls) ts ≡ fire_listed data_watches child ls ts
evaluated data_watches child ls [] = refl
evaluated data_watches child ls (t ∷ ts) =
    let rest : fire (watches_after (watches_listed data_watches child ls) t) ts
    ≡ fire_listed (own_after data_watches t) (child_after child t) ls ts =
    ap (λ w. fire w ts) (after-listed data_watches child ls t) ∙ evaluated (own_after data_watches t)
    (child_after child t) ls ts in
    λ i. record { events = tells-listed data_watches child ls t i ++ (rest i).events; left = (rest i).left }
