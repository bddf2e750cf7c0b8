-- The paths of a set as a list.
use Rattle.std.proofs.Common.{◌≡◌, List, [], ◌∷◌, Bool, true, false, cond, refl, sym, ap, ◌∙◌, map, subst, is_some}
use Rattle.std.specs.List.Sorted.{IsStrictlySortedBy}
use Rattle.std.specs.FinMap as finmap
use Rattle.std.specs.FinMap.Entries.{is_some-find}
use Rattle.std.specs.FinSet as set
use mathlib.Core.Bool.{true≢false}
use Rattle.ephemerals.specs.Orders.{Bytes, path_cmp, sorted_names, sorted_texts}
use Rattle.ephemerals.proofs.Ascending.{sorted_ascend}
use Rattle.ephemerals.proofs.Totals.{path_total}
use Rattle.txn_codec.specs.declared.txn.Txn.{Txn}
use Rattle.data_tree.specs.Footprint.{has_path, footprint}
use Rattle.footprint.specs.declared.cover.Footprint.{Footprint}
use Rattle.footprint.specs.declared.cover.Footprint.TheVariants.{Barrier, Paths}
use Rattle.footprint.specs.Footprints.{txn_paths, is_barrier, txn_footprint}
use Rattle.footprint.specs.Laws.{PathsAreTheCells, PathsAscend}

-- Texts as entries.
abbrev marked : List Bytes → List (Bytes × Unit {0})
marked texts = map (λ (t : Bytes). (t, tt {0})) texts

unmarked : (texts : List Bytes) → map (λ (e : Bytes × Unit {0}). e.0) (marked texts) ≡ texts
unmarked [] = refl
unmarked (t ∷ ts) = ap (λ r. t ∷ r) (unmarked ts)

in_ascending : (texts : List Bytes) (q : Bytes) → has_path (sorted_texts texts) q ≡ has_path texts q
in_ascending texts q =
    sym (finmap.contains_key-keys (finmap.from_entries {R = path_cmp} (marked texts)) q)
    ∙ ap is_some (finmap.get-from_entries path_total (marked texts) q)
    ∙ is_some-find path_cmp q (marked texts)
    ∙ ap (λ ts. has_path ts q) (unmarked texts)

abbrev are_paths : Footprint → Bool
are_paths Barrier = false
are_paths (Paths paths) = true

abbrev listed : Footprint → List Bytes
listed Barrier = []
listed (Paths paths) = paths

-- The list of a footprint that isn't a barrier.
the_list : (t : Txn) (paths : List Bytes) → txn_footprint t ≡ Paths paths → sorted_names (txn_paths t) ≡ paths
the_list t paths = by (is_barrier t)
  where
    by : (b : Bool) → cond b Barrier (Paths (sorted_names (txn_paths t))) ≡ Paths paths
        → sorted_names (txn_paths t) ≡ paths
    by true is = absurd (true≢false (sym (ap are_paths is)))
    by false is = ap listed is

pub paths_are_the_cells : PathsAreTheCells
paths_are_the_cells t paths is path =
    ap (λ ps. has_path ps path) (sym (the_list t paths is))
    ∙ in_ascending (set.items (txn_paths t)) path
    ∙ sym (set.contains-items (txn_paths t) path)
    ∙ set.contains-from_list path_total (footprint t) path

pub paths_ascend : PathsAscend
paths_ascend t paths is =
    subst (λ ps. IsStrictlySortedBy path_cmp ps) (the_list t paths is) (sorted_ascend (set.items (txn_paths t)))
