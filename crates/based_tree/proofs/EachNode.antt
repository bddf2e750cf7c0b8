-- What holds of each entry of a list holds of each node of the map.
use Rattle.std.proofs.Common.{◌≡◌, ℤ, ◌≤ℤ◌, List, [], ◌∷◌, ◌++◌, Bool, true, false, cond, ◌||◌, int_lt, Option, Some, None, refl, sym, ap, subst, ◌∙◌, if◌then◌else◌, arith}
use Rattle.std.specs.Int.{int_max}
use Rattle.std.proofs.lemmas.Int.{ints, clamps}
use Rattle.std.specs.List.{AllByRecursion}
use Rattle.std.specs.Ordering.{eq_by_cmp}
use Rattle.std.specs.FinMap as finmap
use Rattle.std.specs.FinSet as set
use Rattle.std.proofs.lemmas.Map.Lookups.{exact_bytes}
use Rattle.std.proofs.lemmas.Map.Views.{tells_apart}
use Rattle.ephemerals.specs.Orders.{Bytes, OwnerPairs, path_cmp}
use Rattle.ephemerals.proofs.Totals.{path_total}
use Rattle.node_map.specs.declared.node.Node.{Node}
use Rattle.node_map.proofs.HashedNodes.{AreApart, apart_first, apart_rest, not_found_apart}
use Rattle.data_tree.specs.State.{State, Nodes}
use Rattle.data_tree.specs.Cells.{without_node}
use Rattle.data_tree.specs.Footprint.{has_path}
use Rattle.data_tree.proofs.SameCells.{same_state}
use Rattle.based_tree.specs.Inner.{is_newer, is_one_newer, unless_newer, has_newer, HasNoNewer, AreNewerPaths, without_nodes_at, without_newer}
use Rattle.based_tree.proofs.LaterNodes.{get-older}

module _ (P : Bytes → Option Node → Type 0) (none : (q : Bytes) → P q None) where
  abbrev pub HoldOf : List (Bytes × Node) → Type 0
  HoldOf es = AllByRecursion (λ (e : Bytes × Node). P e.0 (Some e.1)) es

  found : (es : List (Bytes × Node)) → HoldOf es → (q : Bytes) → P q (finmap.find path_cmp q es)
  found [] all q = none q
  found (e ∷ es) all q = by (found es all.1 q) (eq_by_cmp path_cmp q e.0) refl
    where
      by : P q (finmap.find path_cmp q es) → (b : Bool) → eq_by_cmp path_cmp q e.0 ≡ b → P q (cond b (Some e.1) (finmap.find path_cmp q es))
      by later true is = subst (λ p. P p (Some e.1)) (sym (tells_apart exact_bytes q e.0 is)) all.0
      by later false is = later

  pub of_each : (nodes : Nodes) (es : List (Bytes × Node)) → finmap.from_entries {R = path_cmp} es ≡ nodes → HoldOf es
      → (q : Bytes) → P q (finmap.get nodes q)
  of_each nodes es same all q =
      subst (P q) (sym (finmap.get-from_entries path_total es q) ∙ ap (λ (m : Nodes). finmap.get m q) same) (found es all q)

-- ---- the greatest zxid so far

not_below : (a b : ℤ) → b ≤ℤ a → int_lt a b ≡ false
not_below a b le = grind (arith, ints)

none_of_three : (a b c : Bool) → a ≡ false → b ≡ false → c ≡ false → (a || (b || c)) ≡ false
none_of_three true b c e f g = e
none_of_three false true c e f g = f
none_of_three false false c e f g = g

-- No node is newer than a zxid that is as great, if none of the others is.
abbrev pub NoneNewer : ℤ → State → List (Bytes × Node) → Type 0
NoneNewer newest s rest =
    (z : ℤ) → newest ≤ℤ z → HoldOf (λ q o. is_one_newer z o ≡ false) (λ q. refl) rest → HasNoNewer z s

pub newer-first : (z : ℤ) (s : State) (es : List (Bytes × Node)) → finmap.from_entries {R = path_cmp} es ≡ s.nodes
    → NoneNewer z s es
newer-first newest s es same z above all q = of_each (λ p o. is_one_newer z o ≡ false) (λ p. refl) s.nodes es same all q

pub newer-next : (newest : ℤ) (s : State) (e : Bytes × Node) (rest : List (Bytes × Node)) → NoneNewer newest s (e ∷ rest)
    → NoneNewer (int_max newest (int_max e.1.stat.czxid (int_max e.1.stat.mzxid e.1.stat.pzxid))) s rest
newer-next newest s e rest so_far z above all =
    let czxid = e.1.stat.czxid in
    let mzxid = e.1.stat.mzxid in
    let pzxid = e.1.stat.pzxid in
    let first : newest ≤ℤ z = omega (arith, ints, clamps) in
    let created : czxid ≤ℤ z = omega (arith, ints, clamps) in
    let changed : mzxid ≤ℤ z = omega (arith, ints, clamps) in
    let below : pzxid ≤ℤ z = omega (arith, ints, clamps) in
    so_far z first (
      none_of_three (int_lt z czxid) (int_lt z mzxid) (int_lt z pzxid) (not_below z czxid created)
          (not_below z mzxid changed) (not_below z pzxid below),
      all,
    )

pub newer-last : (newest : ℤ) (s : State) → NoneNewer newest s [] → HasNoNewer newest s
newer-last newest s so_far =
    let same : newest ≤ℤ newest = omega (arith, ints) in so_far newest same tt

-- ---- the paths of newer nodes

has-last : (ps : List Bytes) (p q : Bytes) → has_path (ps ++ p ∷ []) q ≡ (has_path ps q || eq_by_cmp path_cmp q p)
has-last [] p q = by (eq_by_cmp path_cmp q p)
  where
    by : (b : Bool) → (b || false) ≡ b
    by true = refl
    by false = refl
has-last (x ∷ ps) p q = by (eq_by_cmp path_cmp q x) (has-last ps p q)
  where
    by : (b : Bool) → has_path (ps ++ p ∷ []) q ≡ (has_path ps q || eq_by_cmp path_cmp q p)
        → (b || has_path (ps ++ p ∷ []) q) ≡ ((b || has_path ps q) || eq_by_cmp path_cmp q p)
    by true e = refl
    by false e = e

-- The first of these entries at the path is newer.
abbrev newer_in : ℤ → List (Bytes × Node) → Bytes → Bool
newer_in zxid es q = is_one_newer zxid (finmap.find path_cmp q es)

-- The newer nodes are at these paths, or among the entries that are left, in which no path comes twice.
pub record NewerLeft (zxid : ℤ) (s : State) (paths : List Bytes) (rest : List (Bytes × Node)) : Type 0 where
  pub once : AreApart rest
  pub newer : (q : Bytes) → (has_path paths q || newer_in zxid rest q) ≡ has_newer zxid s q

pub none-listed : (zxid : ℤ) (s : State) (es : List (Bytes × Node)) → finmap.from_entries {R = path_cmp} es ≡ s.nodes
    → AreApart es → NewerLeft zxid s [] es
none-listed zxid s es same once = record {
  once = once;
  newer = λ q. ap (is_one_newer zxid)
      (sym (finmap.get-from_entries path_total es q) ∙ ap (λ (m : Nodes). finmap.get m q) same);
}

or_false : (a : Bool) → (a || false) ≡ a
or_false true = refl
or_false false = refl

pub newer-listed : (zxid : ℤ) (s : State) (paths : List Bytes) (p : Bytes) (n : Node) (rest : List (Bytes × Node))
    → is_newer zxid n ≡ true → NewerLeft zxid s paths ((p, n) ∷ rest) → NewerLeft zxid s (paths ++ p ∷ []) rest
newer-listed zxid s paths p n rest newer left = record {
  once = apart_rest (p, n) rest left.once;
  newer = λ q. ap (λ b. b || newer_in zxid rest q) (has-last paths p q)
      ∙ by q (eq_by_cmp path_cmp q p)
      ∙ left.newer q;
}
  where
    first : (a b : Bool) → ((a || true) || b) ≡ (a || is_newer zxid n)
    first true b = refl
    first false b = sym newer

    by : (q : Bytes) (b : Bool)
        → ((has_path paths q || b) || newer_in zxid rest q)
        ≡ (has_path paths q || is_one_newer zxid (cond b (Some n) (finmap.find path_cmp q rest)))
    by q true = first (has_path paths q) (newer_in zxid rest q)
    by q false = ap (λ b. b || newer_in zxid rest q) (or_false (has_path paths q))

pub older-passed : (zxid : ℤ) (s : State) (paths : List Bytes) (p : Bytes) (n : Node) (rest : List (Bytes × Node))
    → is_newer zxid n ≡ false → NewerLeft zxid s paths ((p, n) ∷ rest) → NewerLeft zxid s paths rest
older-passed zxid s paths p n rest older left = record {
  once = apart_rest (p, n) rest left.once;
  newer = λ q. by q (eq_by_cmp path_cmp q p) refl ∙ left.newer q;
}
  where
    absent : (q : Bytes) → eq_by_cmp path_cmp q p ≡ true → newer_in zxid rest q ≡ false
    absent q is =
        ap (λ (x : Bytes). newer_in zxid rest x) (tells_apart exact_bytes q p is)
        ∙ ap (is_one_newer zxid) (not_found_apart p rest (apart_first (p, n) rest left.once))

    by : (q : Bytes) (b : Bool) → eq_by_cmp path_cmp q p ≡ b
        → (has_path paths q || newer_in zxid rest q)
        ≡ (has_path paths q || is_one_newer zxid (cond b (Some n) (finmap.find path_cmp q rest)))
    by q true is = ap (λ b. has_path paths q || b) (absent q is ∙ sym older)
    by q false is = refl

pub all-listed : (zxid : ℤ) (s : State) (paths : List Bytes) → NewerLeft zxid s paths [] → AreNewerPaths zxid s paths
all-listed zxid s paths left q = sym (or_false (has_path paths q)) ∙ left.newer q

-- ---- the newer nodes are removed

pub get-without : (paths : List Bytes) (s : State) (q : Bytes)
    → finmap.get (without_nodes_at paths s).nodes q ≡ cond (has_path paths q) None (finmap.get s.nodes q)
get-without [] s q = refl
get-without (p ∷ paths) s q =
    get-without paths (without_node p s) q
    ∙ ap (cond (has_path paths q) None) (finmap.get-remove path_total s.nodes p q)
    ∙ by (eq_by_cmp path_cmp q p) (has_path paths q)
  where
    by : (a b : Bool)
        → cond b None (cond a None (finmap.get s.nodes q)) ≡ cond (a || b) None (finmap.get s.nodes q)
    by true true = refl
    by true false = refl
    by false b = refl

pairs-without : (paths : List Bytes) (s : State) → (without_nodes_at paths s).pairs ≡ s.pairs
pairs-without [] s = refl
pairs-without (p ∷ paths) s = pairs-without paths (without_node p s)

sessions-without : (paths : List Bytes) (s : State) → (without_nodes_at paths s).sessions ≡ s.sessions
sessions-without [] s = refl
sessions-without (p ∷ paths) s = sessions-without paths (without_node p s)

pub newer-removed : (zxid : ℤ) (s : State) (paths : List Bytes) → AreNewerPaths zxid s paths
    → without_nodes_at paths s ≡ without_newer zxid s
newer-removed zxid s paths all =
    same_state (without_nodes_at paths s) (without_newer zxid s) (sessions-without paths s) (λ q. record {
      node = get-without paths s q
          ∙ ap (λ b. cond b None (finmap.get s.nodes q)) (all q)
          ∙ by (finmap.get s.nodes q)
          ∙ sym (get-older zxid s q);
      owners = λ w. ap (λ (pairs : OwnerPairs). set.contains pairs (w, q)) (pairs-without paths s);
    })
  where
    by : (o : Option Node) → cond (is_one_newer zxid o) None o ≡ unless_newer zxid o
    by None = refl
    by (Some n) = newer (is_newer zxid n)
      where
        newer : (b : Bool) → cond b None (Some n) ≡ (if b then None else Some n)
        newer true = refl
        newer false = refl
