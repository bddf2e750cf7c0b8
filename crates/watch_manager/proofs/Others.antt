-- What one connection does with its watches leaves those of every other, and what it removes is gone.
use Rattle.std.proofs.Common.{◌≡◌, ◌≢◌, ℕ, Bool, true, false, not, ◌&&◌, ◌||◌, refl, sym, ap, ◌∙◌}
use mathlib.Core.Bool.{and-true}
use Rattle.std.specs.Ordering.{eq_by_cmp, is_eq}
use Rattle.std.specs.Cmp.{tied_itself}
use Rattle.std.proofs.lemmas.Map.Views.{tells_apart}
use Rattle.std.proofs.lemmas.Map.Lookups.{exact_unsigned}
use Rattle.std.specs.FinSet as set
use Rattle.ephemerals.specs.Orders.{Bytes}
use Rattle.watch_manager.specs.Pairs.{WatchPairs, watch_cmp, without_connection, same_connection}
use Rattle.watch_manager.specs.Laws.{OthersKeepWatches, RemovedIsGone}
use Rattle.watch_manager.specs.declared.kind.WatchKind.TheVariants.{Child, Data, Any, Persistent, Recursive}
use Rattle.watch_manager.proofs.Totals.{watch_total, watch_exact}
use Rattle.watch_manager.proofs.Watchers.{contains-without_connection}

sets : (pairs : WatchPairs) (path : Bytes) (connection : ℕ) (p : Bytes) (other : ℕ) → other ≢ connection
    → set.contains (set.insert pairs (path, connection)) (p, other) ≡ set.contains pairs (p, other)
sets pairs path connection p other apart =
    set.contains-insert watch_total pairs (path, connection) (p, other)
    ∙ by (eq_by_cmp watch_cmp (p, other) (path, connection)) refl
  where
    by : (b : Bool) → eq_by_cmp watch_cmp (p, other) (path, connection) ≡ b → (b || set.contains pairs (p, other))
        ≡ set.contains pairs (p, other)
    by true same = absurd (apart (ap (λ (q : Bytes × ℕ). q.1)
        (tells_apart watch_exact (p, other) (path, connection) same)))
    by false differ = refl

removes : (pairs : WatchPairs) (path : Bytes) (connection : ℕ) (p : Bytes) (other : ℕ) → other ≢ connection
    → set.contains (set.remove pairs (path, connection)) (p, other) ≡ set.contains pairs (p, other)
removes pairs path connection p other apart =
    set.contains-remove watch_total pairs (path, connection) (p, other)
    ∙ by (eq_by_cmp watch_cmp (p, other) (path, connection)) refl
  where
    by : (b : Bool) → eq_by_cmp watch_cmp (p, other) (path, connection) ≡ b → (not b && set.contains pairs (p, other))
        ≡ set.contains pairs (p, other)
    by true same = absurd (apart (ap (λ (q : Bytes × ℕ). q.1)
        (tells_apart watch_exact (p, other) (path, connection) same)))
    by false differ = refl

drops : (pairs : WatchPairs) (connection : ℕ) (p : Bytes) (other : ℕ) → other ≢ connection
    → set.contains (without_connection connection pairs) (p, other) ≡ set.contains pairs (p, other)
drops pairs connection p other apart = contains-without_connection connection pairs (p, other)
    ∙ by (same_connection connection other) refl
  where
    by : (b : Bool) → same_connection connection other ≡ b → (set.contains pairs (p, other) && not b) ≡ set.contains
        pairs (p, other)
    by true same = absurd (apart (sym (tells_apart exact_unsigned connection other same)))
    by false differ = and-true (set.contains pairs (p, other))

gone : (pairs : WatchPairs) (p : Bytes × ℕ) → set.contains (set.remove pairs p) p ≡ false
gone pairs p =
    set.contains-remove watch_total pairs p p
    ∙ ap (λ r. not (is_eq r) && set.contains pairs p) (tied_itself watch_total p)

pub removed_is_gone : RemovedIsGone
removed_is_gone w Child connection path = gone w.child (path, connection)
removed_is_gone w Data connection path = gone w.data_watches (path, connection)
removed_is_gone w Persistent connection path = gone w.lasting.persistent (path, connection)
removed_is_gone w Recursive connection path = gone w.lasting.recursive (path, connection)
removed_is_gone w Any connection path =
    λ i. gone w.child (path, connection) i || gone w.data_watches (path, connection) i
    || gone w.lasting.persistent (path, connection) i || gone w.lasting.recursive (path, connection) i

pub others_keep_watches : OthersKeepWatches
others_keep_watches = record {
  sets = sets;
  removes = removes;
  drops = drops;
}
