-- A table without the watches on some paths.
use Rattle.std.proofs.Common.{◌≡◌, ℕ, Bool, true, false, not, ◌||◌, ◌&&◌, refl, sym, ap, ◌∙◌}
use mathlib.Core.Bool.{and-true, and-false}
use Rattle.std.specs.Ordering.{nat_cmp}
use Rattle.std.specs.Cmp.{nat_cmp_total, eq_by_cmp_equiv}
use Rattle.std.proofs.lemmas.Map.Lookups.{exact_unsigned}
use Rattle.std.specs.FinSet as set
use Rattle.ephemerals.specs.Orders.{Bytes, Names, path_cmp}
use Rattle.ephemerals.proofs.Totals.{path_total}
use Rattle.watch_manager.specs.Pairs.{WatchPairs, watchers_of, without_watches_on, same_path}
use Rattle.watch_manager.specs.Inner.Telling.{watches_elsewhere}
use Rattle.watch_manager.proofs.Totals.{watch_total, watch_exact}
use Rattle.watch_manager.specs.Inner.Grouped.{keys_in}
use Rattle.pairs.proofs.NumbersOf.{unlisted}
use Rattle.watch_manager.proofs.Watchers.{contains-watchers, contains-without_path, unwatched}

contains-but_on : (used : Names) (pairs : WatchPairs) (q : Bytes × ℕ)
    → set.contains (watches_elsewhere used pairs) q ≡ (set.contains pairs q && not (set.contains used q.0))
contains-but_on used pairs q =
    set.contains-retain pairs (λ (p : Bytes × ℕ). not (set.contains used p.0)) q
    (λ x tie. ap (λ (p : Bytes × ℕ). not (set.contains used p.0)) (sym (watch_exact q x tie)))

pub but_on-none : (used : Names) (pairs : WatchPairs) → used ≡ set.empty → watches_elsewhere used pairs ≡ pairs
but_on-none used pairs none = set.same_set watch_total watch_exact _ _ (λ q.
    contains-but_on used pairs q
    ∙ ap (λ b. set.contains pairs q && not b) (ap (λ s. set.contains s q.0) none ∙ set.contains-empty path_cmp q.0)
    ∙ and-true (set.contains pairs q))

contains-watchers_left : (used : Names) (pairs : WatchPairs) (path : Bytes) (c : ℕ)
    → set.contains (watchers_of path (watches_elsewhere used pairs)) c
    ≡ (set.contains (watchers_of path pairs) c && not (set.contains used path))
contains-watchers_left used pairs path c =
    contains-watchers path (watches_elsewhere used pairs) c
    ∙ contains-but_on used pairs (path, c)
    ∙ ap (λ b. b && not (set.contains used path)) (sym (contains-watchers path pairs c))

-- No connection watches a path whose watches are used up.
pub used_path : (used : Names) (pairs : WatchPairs) (path : Bytes) → set.contains used path ≡ true
    → set.empty ≡ watchers_of path (watches_elsewhere used pairs)
used_path used pairs path here = set.same_set nat_cmp_total exact_unsigned _ _ (λ c.
    set.contains-empty nat_cmp c
    ∙ sym (contains-watchers_left used pairs path c ∙ ap (λ b. set.contains (watchers_of path pairs) c && not b) here
    ∙ and-false (set.contains (watchers_of path pairs) c)))

-- Other paths are watched as before.
pub other_path : (used : Names) (pairs : WatchPairs) (path : Bytes) → set.contains used path ≡ false
    → watchers_of path pairs ≡ watchers_of path (watches_elsewhere used pairs)
other_path used pairs path none = set.same_set nat_cmp_total exact_unsigned _ _ (λ c.
    sym (contains-watchers_left used pairs path c ∙ ap (λ b. set.contains (watchers_of path pairs) c && not b) none
    ∙ and-true (set.contains (watchers_of path pairs) c)))

-- One more path.
pub but_on-insert : (used : Names) (pairs : WatchPairs) (path : Bytes)
    → watches_elsewhere (set.insert used path) pairs ≡ without_watches_on path (watches_elsewhere used pairs)
but_on-insert used pairs path = set.same_set watch_total watch_exact _ _ (λ q.
    contains-but_on (set.insert used path) pairs q
    ∙ ap (λ b. set.contains pairs q && not b) (set.contains-insert path_total used path q.0
    ∙ ap (λ b. b || set.contains used q.0) ((eq_by_cmp_equiv path_total).symm q.0 path))
    ∙ by (set.contains pairs q) (same_path path q.0) (set.contains used q.0)
    ∙ ap (λ b. b && not (same_path path q.0)) (sym (contains-but_on used pairs q))
    ∙ sym (contains-without_path path (watches_elsewhere used pairs) q))
  where
    by : (a b c : Bool) → (a && not (b || c)) ≡ ((a && not c) && not b)
    by true true true = refl
    by true true false = refl
    by true false true = refl
    by true false false = refl
    by false b c = refl

-- A path that nobody watched has no watch to use up.
pub unwatched_left : (used : Names) (pairs : WatchPairs) (path : Bytes)
    → set.contains (keys_in path_cmp pairs) path ≡ false
    → watches_elsewhere used pairs ≡ without_watches_on path (watches_elsewhere used pairs)
unwatched_left used pairs path none = unwatched path (watches_elsewhere used pairs) (set.same_set nat_cmp_total exact_unsigned _ _ (λ c.
    contains-watchers_left used pairs path c
    ∙ ap (λ s. set.contains s c && not (set.contains used path)) (unlisted path pairs none)
    ∙ ap (λ b. b && not (set.contains used path)) (set.contains-empty nat_cmp c)
    ∙ sym (set.contains-empty nat_cmp c)))
