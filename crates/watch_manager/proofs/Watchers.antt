-- The watchers of a path, and a table without a path or a connection.
use Rattle.std.proofs.Common.{◌≡◌, ℕ, List, [], ◌∷◌, Bool, true, false, cond, not, ◌||◌, ◌&&◌, refl, sym, ap, ◌∙◌, map}
use mathlib.Core.Bool.{and-true}
use Rattle.std.specs.List.{list_any, filter}
use Rattle.std.specs.Ordering.{eq_by_cmp, nat_cmp}
use Rattle.std.specs.Cmp.{nat_cmp_total}
use Rattle.std.proofs.lemmas.Map.Lookups.{exact_unsigned, exact_bytes}
use Rattle.std.proofs.lemmas.Map.Views.{tells_apart}
use Rattle.std.specs.FinSet as set
use Rattle.ephemerals.specs.Orders.{Bytes, path_cmp}
use Rattle.ephemerals.proofs.Ties.{tied_then}
use Rattle.watch_manager.specs.Pairs.{ConnectionSet, WatchPairs, watch_cmp, same_path, same_connection, watchers_of, without_watches_on, without_connection}
use Rattle.watch_manager.proofs.Totals.{watch_total, watch_exact}

pub any-watcher : (path : Bytes) (c : ℕ) (ps : List (Bytes × ℕ))
    → list_any (eq_by_cmp nat_cmp c) (map (λ (p : Bytes × ℕ). p.1) (filter (λ (p : Bytes × ℕ). same_path path p.0) ps))
    ≡ list_any (eq_by_cmp watch_cmp (path, c)) ps
any-watcher path c [] = refl
any-watcher path c (p ∷ ps) =
    by (same_path path p.0) ∙ (λ i. sym (tied_then (path_cmp path p.0) (nat_cmp c p.1)) i || any-watcher path c ps i)
  where
    by : (b : Bool) → list_any (eq_by_cmp nat_cmp c) (map (λ (p : Bytes × ℕ). p.1)
        (cond b (p ∷ filter (λ (p : Bytes × ℕ). same_path path p.0) ps)
        (filter (λ (p : Bytes × ℕ). same_path path p.0) ps)))
        ≡ ((b && eq_by_cmp nat_cmp c p.1) || list_any (eq_by_cmp nat_cmp c)
        (map (λ (p : Bytes × ℕ). p.1) (filter (λ (p : Bytes × ℕ). same_path path p.0) ps)))
    by true = refl
    by false = refl

pub contains-watchers : (path : Bytes) (pairs : WatchPairs) (c : ℕ)
    → set.contains (watchers_of path pairs) c ≡ set.contains pairs (path, c)
contains-watchers path pairs c =
    set.contains-from_list nat_cmp_total (map (λ (p : Bytes × ℕ). p.1)
    (filter (λ (p : Bytes × ℕ). same_path path p.0) (set.items pairs))) c
    ∙ any-watcher path c (set.items pairs)
    ∙ sym (set.contains-items pairs (path, c))

pub contains-without_path : (path : Bytes) (pairs : WatchPairs) (q : Bytes × ℕ)
    → set.contains (without_watches_on path pairs) q ≡ (set.contains pairs q && not (same_path path q.0))
contains-without_path path pairs q =
    set.contains-retain pairs (λ (p : Bytes × ℕ). not (same_path path p.0)) q
    (λ x tie. ap (λ (p : Bytes × ℕ). not (same_path path p.0)) (sym (watch_exact q x tie)))

pub contains-without_connection : (connection : ℕ) (pairs : WatchPairs) (q : Bytes × ℕ)
    → set.contains (without_connection connection pairs) q ≡
    (set.contains pairs q && not (same_connection connection q.1))
contains-without_connection connection pairs q =
    set.contains-retain pairs (λ (p : Bytes × ℕ). not (same_connection connection p.1)) q
    (λ x tie. ap (λ (p : Bytes × ℕ). not (same_connection connection p.1)) (sym (watch_exact q x tie)))

-- A set that has exactly the watchers as members.
pub are_watchers : (path : Bytes) (pairs : WatchPairs) (conns : ConnectionSet)
    → ((c : ℕ) → set.contains conns c ≡ set.contains pairs (path, c)) → conns ≡ watchers_of path pairs
are_watchers path pairs conns is =
    set.same_set nat_cmp_total exact_unsigned _ _ (λ c. is c ∙ sym (contains-watchers path pairs c))

pub no_watcher : (path : Bytes) (pairs : WatchPairs) → ((c : ℕ) → set.contains pairs (path, c) ≡ false)
    → watchers_of path pairs ≡ set.empty
no_watcher path pairs none = sym (are_watchers path pairs set.empty (λ c. set.contains-empty nat_cmp c ∙ sym (none c)))

-- A path that no connection watches.
pub unwatched : (p : Bytes) (pairs : WatchPairs) → watchers_of p pairs ≡ set.empty → pairs ≡ without_watches_on p pairs
unwatched p pairs none =
    set.same_set watch_total watch_exact _ _ (λ r. by r.0 r.1 (same_path p r.0) refl
    ∙ sym (contains-without_path p pairs r))
  where
    by : (q : Bytes) (d : ℕ) (t : Bool) → same_path p q ≡ t
        → set.contains pairs (q, d) ≡ (set.contains pairs (q, d) && not t)
    by q d true e =
        let out : set.contains pairs (q, d) ≡ false =
        ap (λ x. set.contains pairs (x, d)) (sym (tells_apart exact_bytes p q e)) ∙ sym (contains-watchers p pairs d)
        ∙ ap (λ s. set.contains s d) none ∙ set.contains-empty nat_cmp d in
        out ∙ ap (λ b. b && false) (sym out)
    by q d false e = sym (and-true (set.contains pairs (q, d)))
