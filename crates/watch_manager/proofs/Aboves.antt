-- The connections that watch a path or one above it.
use Rattle.std.proofs.Common.{◌≡◌, ℕ, List, [], ◌∷◌, ◌++◌, Bool, true, false, cond, not, ◌||◌, ◌&&◌, Some, None, refl, sym, ap, ◌∙◌, map, take, drop, length, T, subst, eqb→eq}
use Rattle.std.proofs.lemmas.List.{nil_from_length}
use mathlib.Core.Bool.{true≢false}
use Rattle.std.specs.Prelude.{nat_eq, ◌==◌}
use Rattle.std.specs.Str.Pattern.{RFindsChar}
use Rattle.std.specs.List.{list_any, filter, starts_with}
use Rattle.std.specs.Ordering.{eq_by_cmp, nat_cmp}
use Rattle.std.specs.Cmp.{nat_cmp_total, eq_by_cmp_equiv, unsigned_tied, nat_eq_equiv}
use Rattle.std.proofs.lemmas.Map.Views.{tells_apart}
use Rattle.std.proofs.lemmas.Map.Lookups.{exact_unsigned, exact_bytes}
use Rattle.std.specs.FinSet as set
use Rattle.ephemerals.specs.Orders.{Bytes, path_cmp}
use Rattle.ephemerals.proofs.Ascending.{any-ascending}
use Rattle.ephemerals.proofs.Ties.{tied_then}
use Rattle.ephemerals.proofs.Totals.{path_total}
use Rattle.paths_and_acls.specs.Paths.{has_slash}
use Rattle.paths_and_acls.proofs.Slashes.{is_cut, uncut}
use Rattle.watch_manager.specs.Pairs.{ConnectionSet, WatchPairs, watch_cmp, same_path, watchers_of, sorted_connections}
use Rattle.watch_manager.specs.Lasting.{root_path, is_above, watchers_above}
use Rattle.watch_manager.specs.Inner.Lasting.{with_connections, with_watchers_on, fronts_before_slash, is_nonempty, named_fronts}
use Rattle.watch_manager.proofs.Watchers.{contains-watchers}

-- ---- sets of connections

contains-with_connections : (conns : ConnectionSet) (ns : List ℕ) (q : ℕ)
    → set.contains (with_connections conns ns) q ≡ (set.contains conns q || list_any (eq_by_cmp nat_cmp q) ns)
contains-with_connections conns [] q = by (set.contains conns q)
  where
    by : (x : Bool) → x ≡ (x || false)
    by true = refl
    by false = refl
contains-with_connections conns (n ∷ ns) q =
    contains-with_connections (set.insert conns n) ns q
    ∙ ap (λ b. b || list_any (eq_by_cmp nat_cmp q) ns) (set.contains-insert nat_cmp_total conns n q)
    ∙ by (eq_by_cmp nat_cmp q n) (set.contains conns q) (list_any (eq_by_cmp nat_cmp q) ns)
  where
    by : (t x y : Bool) → ((t || x) || y) ≡ (x || (t || y))
    by true true y = refl
    by true false y = refl
    by false x y = refl

pub union-listed : (conns others : ConnectionSet)
    → with_connections conns (sorted_connections others) ≡ set.union conns others
union-listed conns others = set.same_set nat_cmp_total exact_unsigned _ _ (λ q.
    contains-with_connections conns (sorted_connections others) q
    ∙ ap (λ b. set.contains conns q || b)
    (any-ascending nat_cmp_total (set.items others) q ∙ sym (set.contains-items others q))
    ∙ sym (set.contains-union nat_cmp_total conns others q))

pub union-empty : (conns : ConnectionSet) → set.union set.empty conns ≡ conns
union-empty conns = set.same_set nat_cmp_total exact_unsigned _ _ (λ q.
    set.contains-union nat_cmp_total set.empty conns q
    ∙ ap (λ b. b || set.contains conns q) (set.contains-empty nat_cmp q))

pub union-nobody : (conns : ConnectionSet) → set.union conns set.empty ≡ conns
union-nobody conns = set.same_set nat_cmp_total exact_unsigned _ _ (λ q.
    set.contains-union nat_cmp_total conns set.empty q
    ∙ ap (λ b. set.contains conns q || b) (set.contains-empty nat_cmp q)
    ∙ by (set.contains conns q))
  where
    by : (x : Bool) → (x || false) ≡ x
    by true = refl
    by false = refl

-- ---- the fronts of a path

any-longer : (a : Bytes) (x b : ℕ) (fronts : List Bytes)
    → list_any (same_path (x ∷ a)) (map (λ (front : Bytes). b ∷ front) fronts)
    ≡ (nat_eq x b && list_any (same_path a) fronts)
any-longer a x b [] = by (nat_eq x b)
  where
    by : (t : Bool) → false ≡ (t && false)
    by true = refl
    by false = refl
any-longer a x b (f ∷ fs) =
    (λ i. (tied_then (nat_cmp x b) (path_cmp a f) ∙ ap (λ t. t && same_path a f) (unsigned_tied x b)) i
    || any-longer a x b fs i)
    ∙ by (nat_eq x b) (same_path a f) (list_any (same_path a) fs)
  where
    by : (t x y : Bool) → ((t && x) || (t && y)) ≡ (t && (x || y))
    by true x y = refl
    by false x y = refl

none_shorter : (b : ℕ) (fronts : List Bytes)
    → list_any (same_path []) (map (λ (front : Bytes). b ∷ front) fronts) ≡ false
none_shorter b [] = refl
none_shorter b (f ∷ fs) = none_shorter b fs

any-append : (test : Bytes → Bool) (xs ys : List Bytes)
    → list_any test (xs ++ ys) ≡ (list_any test xs || list_any test ys)
any-append test [] ys = refl
any-append test (x ∷ xs) ys =
    ap (λ b. test x || b) (any-append test xs ys) ∙ by (test x) (list_any test xs) (list_any test ys)
  where
    by : (a b c : Bool) → (a || (b || c)) ≡ ((a || b) || c)
    by true b c = refl
    by false b c = refl

-- A path begins with a text and "/" where the text is one of its fronts.
pub any-front : (a path : Bytes) → list_any (same_path a) (fronts_before_slash path)
    ≡ starts_with nat_eq path (a ++ root_path)
any-front [] [] = refl
any-front (x ∷ a) [] = refl
any-front [] (b ∷ path) =
    any-append (same_path []) (map (λ (front : Bytes). b ∷ front) (fronts_before_slash path))
    (cond (b == 47) ([] ∷ []) [])
    ∙ ap (λ t. t || list_any (same_path []) (cond (b == 47) ([] ∷ []) [])) (none_shorter b (fronts_before_slash path))
    ∙ by (b == 47)
    ∙ nat_eq_equiv.symm b 47
    ∙ and-true (nat_eq 47 b)
  where
    by : (t : Bool) → list_any (same_path []) (cond t ([] ∷ []) []) ≡ t
    by true = refl
    by false = refl

    and-true : (t : Bool) → t ≡ (t && true)
    and-true true = refl
    and-true false = refl
any-front (x ∷ a) (b ∷ path) =
    any-append (same_path (x ∷ a)) (map (λ (front : Bytes). b ∷ front) (fronts_before_slash path))
    (cond (b == 47) ([] ∷ []) [])
    ∙ (λ i. any-longer a x b (fronts_before_slash path) i || none (b == 47) i)
    ∙ or-false (nat_eq x b && list_any (same_path a) (fronts_before_slash path))
    ∙ ap (λ t. nat_eq x b && t) (any-front a path)
  where
    none : (t : Bool) → list_any (same_path (x ∷ a)) (cond t ([] ∷ []) []) ≡ false
    none true = refl
    none false = refl

    or-false : (t : Bool) → (t || false) ≡ t
    or-false true = refl
    or-false false = refl

no_fronts : (name : Bytes) → has_slash name ≡ false → fronts_before_slash name ≡ []
no_fronts [] none = refl
no_fronts (b ∷ name) none =
    (λ i. map (λ (front : Bytes). b ∷ front) (no_fronts name (later (b == 47) (has_slash name) none) i)
    ++ cond (first (b == 47) (has_slash name) none i) ([] ∷ []) [])
  where
    first : (t u : Bool) → (t || u) ≡ false → t ≡ false
    first true u e = absurd (true≢false e)
    first false u e = refl

    later : (t u : Bool) → (t || u) ≡ false → u ≡ false
    later true u e = absurd (true≢false e)
    later false u e = e

-- The longest front ends before the last slash.
fronts-cut : (front name : Bytes) → has_slash name ≡ false
    → fronts_before_slash (front ++ 47 ∷ name) ≡ front ∷ fronts_before_slash front
fronts-cut [] name none = ap (λ fs. map (λ (f : Bytes). 47 ∷ f) fs ++ [] ∷ []) (no_fronts name none)
fronts-cut (b ∷ front) name none =
    ap (λ fs. map (λ (f : Bytes). b ∷ f) fs ++ cond (b == 47) ([] ∷ []) []) (fronts-cut front name none)

fronts-found : (text : Bytes) (i j : ℕ) → RFindsChar 47 text (Some (i, j))
    → fronts_before_slash text ≡ take i text ∷ fronts_before_slash (take i text)
fronts-found text i j found =
    let cut = is_cut text i j found in
    ap fronts_before_slash cut.0 ∙ fronts-cut (take i text) (drop j text) cut.1

pub named-found : (text : Bytes) (i j : ℕ) → RFindsChar 47 text (Some (i, j)) → is_nonempty (take i text) ≡ true
    → named_fronts text ≡ take i text ∷ named_fronts (take i text)
named-found text i j found named =
    ap (filter is_nonempty) (fronts-found text i j found)
    ∙ ap (λ b. cond b (take i text ∷ named_fronts (take i text)) (named_fronts (take i text))) named

-- Before the last slash there is nothing.
pub named-empty : (text : Bytes) (i j : ℕ) → RFindsChar 47 text (Some (i, j)) → take i text ≡ []
    → named_fronts text ≡ []
named-empty text i j found empty =
    ap (filter is_nonempty) (fronts-found text i j found)
    ∙ ap (λ front. filter is_nonempty (front ∷ fronts_before_slash front)) empty

pub is_nonempty-true : (front : Bytes) → nat_eq (length front) 0 ≡ false → is_nonempty front ≡ true
is_nonempty-true [] e = absurd (true≢false e)
is_nonempty-true (b ∷ front) e = refl

pub is_empty-true : (front : Bytes) → nat_eq (length front) 0 ≡ true → front ≡ []
is_empty-true front e = nil_from_length front (eqb→eq (length front) 0 (subst T (sym e) tt))

pub named-none : (text : Bytes) → RFindsChar 47 text None → named_fronts text ≡ []
named-none text found = ap (filter is_nonempty) (no_fronts text (uncut text found))

-- ---- the watchers at several paths

abbrev pub watched_at : WatchPairs → ℕ → List Bytes → Bool
watched_at pairs c paths = list_any (λ (x : Bytes). set.contains pairs (x, c)) paths

contains-one_more : (path : Bytes) (pairs : WatchPairs) (conns : ConnectionSet) (q : ℕ)
    → set.contains (set.union conns (watchers_of path pairs)) q ≡ (set.contains conns q || set.contains pairs (path, q))
contains-one_more path pairs conns q =
    set.contains-union nat_cmp_total conns (watchers_of path pairs) q
    ∙ ap (λ b. set.contains conns q || b) (contains-watchers path pairs q)

contains-with_watchers_on : (paths : List Bytes) (pairs : WatchPairs) (conns : ConnectionSet) (q : ℕ)
    → set.contains (with_watchers_on paths pairs conns) q ≡ (set.contains conns q || watched_at pairs q paths)
contains-with_watchers_on [] pairs conns q = by (set.contains conns q)
  where
    by : (x : Bool) → x ≡ (x || false)
    by true = refl
    by false = refl
contains-with_watchers_on (p ∷ ps) pairs conns q =
    contains-with_watchers_on ps pairs (set.union conns (watchers_of p pairs)) q
    ∙ ap (λ b. b || watched_at pairs q ps) (contains-one_more p pairs conns q)
    ∙ by (set.contains conns q) (set.contains pairs (p, q)) (watched_at pairs q ps)
  where
    by : (x y z : Bool) → ((x || y) || z) ≡ (x || (y || z))
    by true y z = refl
    by false y z = refl

-- A path, "/", and the fronts of the path.
abbrev pub paths_up : Bytes → List Bytes
paths_up path = path ∷ root_path ∷ named_fronts path

none_empty : (fronts : List Bytes) → list_any (same_path []) (filter is_nonempty fronts) ≡ false
none_empty [] = refl
none_empty ([] ∷ fs) = none_empty fs
none_empty ((b ∷ f) ∷ fs) = none_empty fs

any-named : (x : ℕ) (a : Bytes) (fronts : List Bytes)
    → list_any (same_path (x ∷ a)) (filter is_nonempty fronts) ≡ list_any (same_path (x ∷ a)) fronts
any-named x a [] = refl
any-named x a ([] ∷ fs) = any-named x a fs
any-named x a ((b ∷ f) ∷ fs) = ap (λ t. same_path (x ∷ a) (b ∷ f) || t) (any-named x a fs)

-- A path is one of these where it is the path or above it.
pub is_up : (a path : Bytes) → (same_path a path || is_above a path) ≡ list_any (same_path a) (paths_up path)
is_up [] path = ap (λ t. same_path [] path || t) (sym (none_empty (fronts_before_slash path)))
is_up (x ∷ front) path =
    ap (λ t. same_path a path || ((same_path a root_path && not (same_path path root_path)) || t))
    (sym (any-named x front (fronts_before_slash path) ∙ any-front a path))
    ∙ by (same_path a path) (same_path a root_path) (same_path path root_path)
    (list_any (same_path a) (named_fronts path)) (λ t u. both t u)
  where
    a : Bytes
    a = x ∷ front

    both : same_path a root_path ≡ true → same_path path root_path ≡ true → same_path a path ≡ true
    both t u =
        ap (λ x. same_path a x) (tells_apart exact_bytes path root_path u) ∙ t

    by : (x r s f : Bool) → (r ≡ true → s ≡ true → x ≡ true) → (x || ((r && not s) || f)) ≡ (x || (r || f))
    by true r s f h = refl
    by false true true f h = absurd (true≢false (sym (h refl refl)))
    by false true false f h = refl
    by false false s f h = refl

any-pair : (c : ℕ) (p : Bytes × ℕ) (paths : List Bytes)
    → list_any (λ (x : Bytes). eq_by_cmp watch_cmp (x, c) p) paths
    ≡ (list_any (same_path p.0) paths && eq_by_cmp nat_cmp c p.1)
any-pair c p [] = refl
any-pair c p (x ∷ xs) =
    (λ i. (tied_then (path_cmp x p.0) (nat_cmp c p.1)
    ∙ ap (λ t. t && eq_by_cmp nat_cmp c p.1) ((eq_by_cmp_equiv path_total).symm x p.0)) i || any-pair c p xs i)
    ∙ by (same_path p.0 x) (list_any (same_path p.0) xs) (eq_by_cmp nat_cmp c p.1)
  where
    by : (a b k : Bool) → ((a && k) || (b && k)) ≡ ((a || b) && k)
    by true true true = refl
    by true true false = refl
    by true false true = refl
    by true false false = refl
    by false b k = refl

any-or : (s t : Bytes → Bool) (xs : List Bytes)
    → list_any (λ (x : Bytes). s x || t x) xs ≡ (list_any s xs || list_any t xs)
any-or s t [] = refl
any-or s t (x ∷ xs) = ap (λ b. (s x || t x) || b) (any-or s t xs) ∙ by (s x) (t x) (list_any s xs) (list_any t xs)
  where
    by : (a b c d : Bool) → ((a || b) || (c || d)) ≡ ((a || c) || (b || d))
    by true b c d = refl
    by false true true d = refl
    by false true false d = refl
    by false false c d = refl

none-any : (xs : List Bytes) → false ≡ list_any (λ (x : Bytes). false) xs
none-any [] = refl
none-any (x ∷ xs) = none-any xs

-- The connections of the pairs at any of the paths.
any-of_paths : (c : ℕ) (paths : List Bytes) (ps : List (Bytes × ℕ))
    → list_any (eq_by_cmp nat_cmp c)
    (map (λ (p : Bytes × ℕ). p.1) (filter (λ (p : Bytes × ℕ). list_any (same_path p.0) paths) ps))
    ≡ list_any (λ (x : Bytes). list_any (eq_by_cmp watch_cmp (x, c)) ps) paths
any-of_paths c paths [] = none-any paths
any-of_paths c paths (p ∷ ps) =
    by (list_any (same_path p.0) paths)
    ∙ (λ i. sym (any-pair c p paths) i || any-of_paths c paths ps i)
    ∙ sym (any-or (λ x. eq_by_cmp watch_cmp (x, c) p) (λ x. list_any (eq_by_cmp watch_cmp (x, c)) ps) paths)
  where
    by : (b : Bool) → list_any (eq_by_cmp nat_cmp c) (map (λ (p : Bytes × ℕ). p.1)
        (cond b (p ∷ filter (λ (p : Bytes × ℕ). list_any (same_path p.0) paths) ps)
        (filter (λ (p : Bytes × ℕ). list_any (same_path p.0) paths) ps)))
        ≡ ((b && eq_by_cmp nat_cmp c p.1) || list_any (eq_by_cmp nat_cmp c)
        (map (λ (p : Bytes × ℕ). p.1) (filter (λ (p : Bytes × ℕ). list_any (same_path p.0) paths) ps)))
    by true = refl
    by false = refl

pub any-watchers_above : (path : Bytes) (ps : List (Bytes × ℕ)) (c : ℕ)
    → list_any (eq_by_cmp nat_cmp c) (map (λ (p : Bytes × ℕ). p.1)
    (filter (λ (p : Bytes × ℕ). same_path p.0 path || is_above p.0 path) ps))
    ≡ list_any (λ (x : Bytes). list_any (eq_by_cmp watch_cmp (x, c)) ps) (paths_up path)
any-watchers_above path ps c =
    (λ i. list_any (eq_by_cmp nat_cmp c) (map (λ (p : Bytes × ℕ). p.1)
    (filter (λ (p : Bytes × ℕ). is_up p.0 path i) ps)))
    ∙ any-of_paths c (paths_up path) ps

pub contains-watchers_above : (path : Bytes) (pairs : WatchPairs) (c : ℕ)
    → set.contains (watchers_above path pairs) c ≡ watched_at pairs c (paths_up path)
contains-watchers_above path pairs c =
    set.contains-from_list nat_cmp_total (map (λ (p : Bytes × ℕ). p.1)
    (filter (λ (p : Bytes × ℕ). same_path p.0 path || is_above p.0 path) (set.items pairs))) c
    ∙ any-watchers_above path (set.items pairs) c
    ∙ (λ i. list_any (λ (x : Bytes). sym (set.contains-items pairs (x, c)) i) (paths_up path))

-- The watchers of the path and of "/", and then those of the fronts.
pub gathered_above : (path : Bytes) (pairs : WatchPairs) (conns : ConnectionSet)
    → with_watchers_on (named_fronts path) pairs
    (set.union (set.union conns (watchers_of path pairs)) (watchers_of root_path pairs))
    ≡ set.union conns (watchers_above path pairs)
gathered_above path pairs conns = set.same_set nat_cmp_total exact_unsigned _ _ (λ q.
    contains-with_watchers_on (paths_up path) pairs conns q
    ∙ ap (λ b. set.contains conns q || b) (sym (contains-watchers_above path pairs q))
    ∙ sym (set.contains-union nat_cmp_total conns (watchers_above path pairs) q))

pub nobody_above : (path : Bytes) (pairs : WatchPairs) → pairs ≡ set.empty → watchers_above path pairs ≡ set.empty
nobody_above path pairs none = set.same_set nat_cmp_total exact_unsigned _ _ (λ q.
    contains-watchers_above path pairs q
    ∙ (λ i. list_any (λ (x : Bytes). out q x i) (paths_up path))
    ∙ sym (none-any (paths_up path))
    ∙ sym (set.contains-empty nat_cmp q))
  where
    out : (q : ℕ) (x : Bytes) → set.contains pairs (x, q) ≡ false
    out q x = ap (λ s. set.contains s (x, q)) none ∙ set.contains-empty watch_cmp (x, q)
