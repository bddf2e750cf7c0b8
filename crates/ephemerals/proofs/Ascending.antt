-- The elements of a set that is listed in order.
use Rattle.std.proofs.Common.{◌≡◌, List, [], ◌∷◌, Bool, true, false, ◌&&◌, T, length, map, refl, sym, ap, ◌∙◌}
use Rattle.std.specs.declared.cmp.Ordering.{Ordering}
use Rattle.std.specs.declared.cmp.Ordering.TheVariants.{Less, Equal, Greater}
use Rattle.std.specs.Ordering.{eq_by_cmp, is_lt}
use Rattle.std.specs.FinMap as finmap
use Rattle.std.specs.FinMap.Entries.{is_sorted, below_all}
use Rattle.std.specs.FinSet as set
use Rattle.std.specs.List.{list_any, AllByRecursion}
use Rattle.std.specs.List.Sorted.{IsStrictlySortedBy}
use Rattle.std.proofs.lemmas.Map.Lookups.{exact_bytes}
use Rattle.values.proofs.Keyed.{len-set_of}
pub use Rattle.pairs.proofs.Ascending.{any-ascending}
use Rattle.ephemerals.specs.Orders.{Bytes, Names, path_cmp, sorted_names, sorted_texts}
use Rattle.ephemerals.proofs.Totals.{path_total}

pub any-in_order : (names : Names) (q : Bytes) → list_any (eq_by_cmp path_cmp q) (sorted_names names)
    ≡ set.contains names q
any-in_order names q = any-ascending path_total (set.items names) q ∙ sym (set.contains-items names q)

both : (a b : Bool) → T (a && b) → T a × T b
both true b h = (tt, h)
both false b h = absurd h

less : (o : Ordering) → T (is_lt o) → o ≡ Less
less Less h = refl
less Equal h = absurd h
less Greater h = absurd h

all_above : (k : Bytes) (es : List (Bytes × Unit {0})) → T (below_all path_cmp k es)
    → AllByRecursion (λ y. path_cmp k y ≡ Less) (map (λ (e : Bytes × Unit {0}). e.0) es)
all_above k [] h = tt
all_above k (e ∷ es) h =
    let parts = both (is_lt (path_cmp k e.0)) (below_all path_cmp k es) h in
    (less (path_cmp k e.0) parts.0, all_above k es parts.1)

keys_ascend : (es : List (Bytes × Unit {0})) → T (is_sorted path_cmp es)
    → IsStrictlySortedBy path_cmp (map (λ (e : Bytes × Unit {0}). e.0) es)
unfolding IsStrictlySortedBy
keys_ascend [] h = tt
keys_ascend (e ∷ es) h =
    let parts = both (below_all path_cmp e.0 es) (is_sorted path_cmp es) h in
    (all_above e.0 es parts.0, keys_ascend es parts.1)

pub sorted_ascend : (texts : List Bytes) → IsStrictlySortedBy path_cmp (sorted_texts texts)
sorted_ascend texts =
    let entries = finmap.from_entries {R = path_cmp} (map (λ (t : Bytes). (t, tt {0})) texts) in
    keys_ascend (finmap.entries entries) (finmap.entries_sorted entries)

-- The texts in order are as many as the set has.
pub count_in_order : (names : Names) → length (sorted_names names) ≡ set.len names
count_in_order names =
    sym (len-set_of path_total exact_bytes (sorted_names names) (sorted_ascend (set.items names)))
    ∙ ap set.len (set.same_set path_total exact_bytes _ names (λ q.
    set.contains-from_list path_total (sorted_names names) q ∙ any-in_order names q))
