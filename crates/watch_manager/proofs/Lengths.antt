-- The lengths of the paths that are watched.
use Rattle.std.proofs.Common.{◌≡◌, ℕ, Bool, true, false, cond, not, ◌||◌, ◌&&◌, refl, sym, ap, ◌∙◌, length}
use mathlib.Core.Bool.{true≢false}
use Rattle.std.specs.Ordering.{eq_by_cmp, nat_cmp}
use Rattle.std.specs.List.{list_any}
use Rattle.std.specs.BTreeSet as sorted
use Rattle.std.specs.BTreeSet.{BTreeSet}
use Rattle.std.proofs.lemmas.Map.Views.{tells_apart}
use Rattle.std.specs.FinSet as set
use Rattle.ephemerals.specs.Orders.{Bytes}
use Rattle.watch_manager.specs.Pairs.{WatchPairs, watch_cmp, same_connection, watchers_of, without_connection}
use Rattle.watch_manager.specs.Inner.Lasting.{HaveLengthsIn}
use Rattle.watch_manager.proofs.Totals.{watch_total, watch_exact}
use Rattle.std.proofs.lemmas.List.{nil_from_length}
use Rattle.watch_manager.proofs.Watchers.{no_watcher, contains-without_connection}

-- A path of another length has no watcher.
pub nobody_of_length : (lengths : BTreeSet ℕ) (pairs : WatchPairs) (path : Bytes) → HaveLengthsIn lengths pairs
    → sorted.contains nat_cmp lengths (length path) ≡ false → watchers_of path pairs ≡ set.empty
nobody_of_length lengths pairs path have other =
    no_watcher path pairs (λ c. by (set.contains pairs (path, c)) (sorted.contains nat_cmp lengths (length path))
    (have path c) other)
  where
    by : (x y : Bool) → (x ≡ true → y ≡ true) → y ≡ false → x ≡ false
    by true y here out = absurd (true≢false (sym (here refl) ∙ out))
    by false y here out = refl

-- Where no length is noted, nothing is watched.
pub no_lengths : (lengths : BTreeSet ℕ) (pairs : WatchPairs) → HaveLengthsIn lengths pairs
    → length lengths.keys ≡ 0 → pairs ≡ set.empty
no_lengths lengths pairs have none = set.same_set watch_total watch_exact _ _ (λ q.
    by (set.contains pairs q) (length q.0) (have q.0 q.1) ∙ sym (set.contains-empty watch_cmp q))
  where
    by : (x : Bool) (n : ℕ) → (x ≡ true → sorted.contains nat_cmp lengths n ≡ true) → x ≡ false
    by true n here = absurd (true≢false (sym (here refl)
        ∙ ap (λ ns. list_any (eq_by_cmp nat_cmp n) ns) (nil_from_length lengths.keys none)))
    by false n here = refl

pub lengths-empty : (lengths : BTreeSet ℕ) (pairs : WatchPairs) → pairs ≡ set.empty → HaveLengthsIn lengths pairs
lengths-empty lengths pairs none path connection here =
    absurd (true≢false (sym here ∙ ap (λ s. set.contains s (path, connection)) none ∙ set.contains-empty watch_cmp
    (path, connection)))

lengths-kept : (before after : BTreeSet ℕ) (n : ℕ) → sorted.Updates nat_cmp before after n true → (q : ℕ)
    → sorted.contains nat_cmp before q ≡ true → sorted.contains nat_cmp after q ≡ true
lengths-kept before after n updates q here =
    updates.0 q ∙ by (eq_by_cmp nat_cmp n q) (sorted.contains nat_cmp before q) here
  where
    by : (t x : Bool) → x ≡ true → cond t true x ≡ true
    by true x h = refl
    by false x h = h

pub lengths-insert : (before after : BTreeSet ℕ) (pairs : WatchPairs) (path : Bytes) (connection : ℕ)
    → HaveLengthsIn before pairs → sorted.Updates nat_cmp before after (length path) true
    → HaveLengthsIn after (set.insert pairs (path, connection))
lengths-insert before after pairs path connection have updates q c here =
    by (eq_by_cmp watch_cmp (q, c) (path, connection)) (set.contains pairs (q, c))
    (λ tie. ap (λ (p : Bytes × ℕ). sorted.contains nat_cmp after (length p.0))
    (tells_apart watch_exact (q, c) (path, connection) tie)
    ∙ updates.1)
    (λ old. lengths-kept before after (length path) updates (length q) (have q c old))
    (sym (set.contains-insert watch_total pairs (path, connection) (q, c)) ∙ here)
  where
    by : (t x : Bool) {Y : Type 0} → (t ≡ true → Y) → (x ≡ true → Y) → (t || x) ≡ true → Y
    by true x new old h = new refl
    by false x new old h = old h

pub lengths-remove : (lengths : BTreeSet ℕ) (pairs : WatchPairs) (k : Bytes × ℕ) → HaveLengthsIn lengths pairs
    → HaveLengthsIn lengths (set.remove pairs k)
lengths-remove lengths pairs k have q c here =
    have q c (by (eq_by_cmp watch_cmp (q, c) k) (set.contains pairs (q, c))
    (sym (set.contains-remove watch_total pairs k (q, c)) ∙ here))
  where
    by : (t x : Bool) → (not t && x) ≡ true → x ≡ true
    by true x h = absurd (true≢false (sym h))
    by false x h = h

pub lengths-dropped : (lengths : BTreeSet ℕ) (pairs : WatchPairs) (connection : ℕ) → HaveLengthsIn lengths pairs
    → HaveLengthsIn lengths (without_connection connection pairs)
lengths-dropped lengths pairs connection have q c here =
    have q c (by (set.contains pairs (q, c)) (not (same_connection connection c))
    (sym (contains-without_connection connection pairs (q, c)) ∙ here))
  where
    by : (x t : Bool) → (x && t) ≡ true → x ≡ true
    by true t h = refl
    by false t h = absurd (true≢false (sym h))
