-- The entries of a hash map are its nodes, each path once.
use Rattle.std.proofs.Common.{◌≡◌, List, [], ◌∷◌, false, cond, Some, None, refl, sym, ap, subst, ◌∙◌, length}
use Rattle.std.specs.Map.{keys_of}
use Rattle.std.specs.List.{AllByRecursion, IsDistinct}
use Rattle.std.specs.List.Sorted.{IsPermutation}
use Rattle.std.specs.Ordering.{eq_by_cmp, is_eq}
use Rattle.std.specs.Cmp.{eq_by_cmp_equiv}
use Rattle.std.specs.declared.cmp.Ordering.{Ordering}
use Rattle.std.specs.declared.cmp.Ordering.TheVariants.{Less, Equal, Greater}
use Rattle.std.proofs.lemmas.List.Sorted.{IsPermutation-refl, IsPermutation-sym, IsPermutation-cons, IsPermutation-middle, IsPermutation-trans, length_permutation}
use Rattle.std.proofs.lemmas.Map.Keys.{IsDistinct-head, IsDistinct-tail}
use Rattle.std.proofs.lemmas.Map.Lookups.{exact_bytes}
use Rattle.std.specs.FinMap as finmap
use Rattle.std.specs.FinMap.Entries.{by_order}
use Rattle.ephemerals.specs.Orders.{Bytes, path_cmp}
use Rattle.ephemerals.proofs.Totals.{path_total}
use Rattle.node_map.specs.Nodes.{Nodes}
use Rattle.node_map.specs.declared.node.Node.{Node}
use Rattle.values.proofs.Keyed.{inserted, entries-empty}
use Rattle.pairs.proofs.Hashed.{map_of}

-- ---- each path once

abbrev pub AreApart : List (Bytes × Node) → Type 0
AreApart es = IsDistinct (eq_by_cmp path_cmp) (keys_of es)

abbrev pub IsApart : Bytes → List (Bytes × Node) → Type 0
IsApart path es = AllByRecursion (λ y. eq_by_cmp path_cmp path y ≡ false) (keys_of es)

pub apart_first : (e : Bytes × Node) (es : List (Bytes × Node)) → AreApart (e ∷ es) → IsApart e.0 es
apart_first e es apart = IsDistinct-head (eq_by_cmp path_cmp) e.0 (keys_of es) apart

pub apart_rest : (e : Bytes × Node) (es : List (Bytes × Node)) → AreApart (e ∷ es) → AreApart es
apart_rest e es apart = IsDistinct-tail (eq_by_cmp path_cmp) e.0 (keys_of es) apart

pub not_found_apart : (path : Bytes) (es : List (Bytes × Node)) → IsApart path es → finmap.find path_cmp path es ≡ None
not_found_apart path [] h = refl
not_found_apart path (e ∷ es) h =
    ap (λ b. cond b (Some e.1) (finmap.find path_cmp path es)) h.0 ∙ not_found_apart path es h.1

-- An entry's node is at its path.
abbrev pub IsFound : Nodes → Bytes × Node → Type 0
IsFound nodes e = finmap.get nodes e.0 ≡ Some e.1

still_found : (nodes : Nodes) (e : Bytes × Node) (es : List (Bytes × Node)) → IsApart e.0 es
    → AllByRecursion (IsFound nodes) es → AllByRecursion (IsFound (finmap.insert nodes e.0 e.1)) es
still_found nodes e [] apart found = tt
still_found nodes e (x ∷ xs) apart found = (
  finmap.get-insert path_total nodes e.0 e.1 x.0
      ∙ ap (λ b. cond b (Some e.1) (finmap.get nodes x.0)) ((eq_by_cmp_equiv path_total).symm x.0 e.0 ∙ apart.0)
      ∙ found.0,
  still_found nodes e xs apart.1 found.1,
)

pub each_found : (es : List (Bytes × Node)) → AreApart es → AllByRecursion (IsFound (map_of es)) es
each_found [] apart = tt
each_found (e ∷ es) apart = (
  inserted path_total exact_bytes (map_of es) e.0 e.1,
  still_found (map_of es) e es (apart_first e es apart) (each_found es (apart_rest e es apart)),
)

-- ---- the entries are those of the nodes

put_somewhere : (path : Bytes) (node : Node) (es : List (Bytes × Node)) → finmap.find path_cmp path es ≡ None
    → IsPermutation ((path, node) ∷ es) (finmap.put path_cmp path node es)
put_somewhere path node [] none = IsPermutation-refl ((path, node) ∷ [])
put_somewhere path node (e ∷ es) none = by (put_somewhere path node es) (path_cmp path e.0) refl
  where
    new : Bytes × Node
    new = (path, node)

    by : (finmap.find path_cmp path es ≡ None → IsPermutation (new ∷ es) (finmap.put path_cmp path node es))
        → (r : Ordering) → path_cmp path e.0 ≡ r
        → IsPermutation (new ∷ e ∷ es)
        (by_order r (new ∷ e ∷ es) ((e.0, node) ∷ es) (e ∷ finmap.put path_cmp path node es))
    by rest Less is = IsPermutation-refl (new ∷ e ∷ es)
    by rest Equal is =
        let clash : Some e.1 ≡ None =
        sym (ap (λ r. cond (is_eq r) (Some e.1) (finmap.find path_cmp path es)) is) ∙ none in
        cc
    by rest Greater is =
        let none_left : finmap.find path_cmp path es ≡ None =
        sym (ap (λ r. cond (is_eq r) (Some e.1) (finmap.find path_cmp path es)) is) ∙ none in
        IsPermutation-trans (new ∷ e ∷ es) (e ∷ new ∷ es) (e ∷ finmap.put path_cmp path node es)
        (IsPermutation-sym (e ∷ new ∷ es) (new ∷ e ∷ es) (IsPermutation-middle (e ∷ []) new es))
        (IsPermutation-cons e (new ∷ es) (finmap.put path_cmp path node es) (rest none_left))

pub entries_are : (es : List (Bytes × Node)) → AreApart es → IsPermutation es (finmap.entries (map_of es))
entries_are [] apart = subst (λ xs. IsPermutation [] xs) (sym (entries-empty path_cmp)) (IsPermutation-refl [])
entries_are (e ∷ es) apart =
    let others : List (Bytes × Node) = finmap.entries (map_of es) in
    let none : finmap.find path_cmp e.0 others ≡ None =
    sym (finmap.get-entries (map_of es) e.0) ∙ finmap.get-from_entries path_total es e.0
    ∙ not_found_apart e.0 es (apart_first e es apart) in
    subst (IsPermutation (e ∷ es)) (sym (finmap.entries-insert path_total (map_of es) e.0 e.1))
    (IsPermutation-trans (e ∷ es) (e ∷ others) (finmap.put path_cmp e.0 e.1 others)
    (IsPermutation-cons e es others (entries_are es (apart_rest e es apart)))
    (put_somewhere e.0 e.1 others none))

pub len_is : (es : List (Bytes × Node)) → AreApart es → finmap.len (map_of es) ≡ length es
len_is es apart =
    finmap.len-entries (map_of es) ∙ length_permutation es (finmap.entries (map_of es)) (entries_are es apart)
