-- What holds of each entry holds of each node of a map, and how nodes are linked.
use Rattle.std.proofs.Common.{◌≡◌, suc, ◌<◌, List, [], ◌∷◌, Bool, true, false, cond, Option, Some, None, refl, sym, ap, subst, ◌∙◌, ◌||◌, ◌↔◌, map, length, is_some, arith}
use mathlib.Core.Bool.{true≢false}
use Rattle.std.specs.List.{list_any, All, AllByRecursion}
use Rattle.std.specs.Ordering.{eq_by_cmp, is_eq}
use Rattle.std.specs.Cmp.{tied_itself}
use Rattle.std.proofs.lemmas.Map.Lookups.{exact_bytes}
use Rattle.std.proofs.lemmas.Map.Views.{tells_apart}
use Rattle.std.specs.FinMap as finmap
use Rattle.std.specs.FinSet as set
use Rattle.ephemerals.specs.Orders.{Bytes, Names, path_cmp}
use Rattle.paths_and_acls.specs.Paths.{child_of}
use Rattle.node_map.specs.Nodes.{Nodes}
use Rattle.node_map.specs.Agreement.{has_node, has_parent, is_listed, AreLinked}
use Rattle.node_map.specs.Children.{HasItsChildren}
use Rattle.node_map.specs.declared.node.Node.{Node}
use Rattle.ephemerals.proofs.Totals.{path_total}
use Rattle.node_map.proofs.Deciding.{Decides}
use Rattle.node_map.proofs.HashedNodes.{AreApart, IsFound, each_found}
use Rattle.pairs.proofs.Hashed.{map_of}

pub each_of_all : {A : Type 0} (P : A → Type 0) (xs : List A) → All P xs → AllByRecursion P xs
each_of_all P [] h = tt
each_of_all P (x ∷ xs) h = (
  h 0 x (omega arith),
  each_of_all P xs
      (λ k d lt. let next : suc k < length (x ∷ xs) = omega arith in h (suc k) d next),
)

all_map : {A : Type 0} (P Q : A → Type 0) → ((x : A) → P x → Q x) → (xs : List A) → AllByRecursion P xs
    → AllByRecursion Q xs
all_map P Q f [] h = tt
all_map P Q f (x ∷ xs) h = (f x h.0, all_map P Q f xs h.1)

-- The texts visited are those of a set.
module _ (P : Bytes → Type 0) where
  each_text : (q : Bytes) (keys : List Bytes) → AllByRecursion (λ (k : Bytes). P k) keys
      → list_any (eq_by_cmp path_cmp q) keys ≡ true → P q
  each_text q [] all one = absurd (true≢false (sym one))
  each_text q (k ∷ ks) all one = by (each_text q ks all.1) (eq_by_cmp path_cmp q k) refl one
    where
      by : (list_any (eq_by_cmp path_cmp q) ks ≡ true → P q)
          → (b : Bool) → eq_by_cmp path_cmp q k ≡ b
          → (b || list_any (eq_by_cmp path_cmp q) ks) ≡ true → P q
      by rest true e one = subst P (sym (tells_apart exact_bytes q k e)) all.0
      by rest false e one = rest one

  of_each_text : (keys : List Bytes)
      → ((q : Bytes) → list_any (eq_by_cmp path_cmp q) keys ≡ true → P q)
      → AllByRecursion (λ (k : Bytes). P k) keys
  of_each_text [] each = tt
  of_each_text (k ∷ ks) each = (
    each k
        (ap (λ r. is_eq r || list_any (eq_by_cmp path_cmp k) ks)
        (tied_itself path_total k)),
    of_each_text ks
        (λ q one. each q
        (ap (λ b. eq_by_cmp path_cmp q k || b) one ∙ or-true (eq_by_cmp path_cmp q k))),
  )
    where
      or-true : (b : Bool) → (b || true) ≡ true
      or-true true = refl
      or-true false = refl

  pub all_texts : (names : Names) (keys : List Bytes)
      → ((q : Bytes) → set.contains names q ≡ list_any (eq_by_cmp path_cmp q) keys)
      → AllByRecursion (λ (k : Bytes). P k) keys ↔ ((q : Bytes) → set.contains names q ≡ true → P q)
  all_texts names keys members = (
    (λ all q one. each_text q keys all (sym (members q) ∙ one)),
    (λ each. of_each_text keys (λ q one. each q (members q ∙ one))),
  )

-- The entries visited are the nodes of a map.
module _ (P : Bytes → Node → Type 0) where
  each_entry : (q : Bytes) (node : Node) (es : List (Bytes × Node))
      → AllByRecursion (λ (e : Bytes × Node). P e.0 e.1) es → finmap.find path_cmp q es ≡ Some node
      → P q node
  each_entry q node [] all found = cc
  each_entry q node (e ∷ es) all found =
      by (each_entry q node es all.1) (eq_by_cmp path_cmp q e.0) refl found
    where
      by : (finmap.find path_cmp q es ≡ Some node → P q node) → (b : Bool) → eq_by_cmp path_cmp q e.0 ≡ b
          → cond b (Some e.1) (finmap.find path_cmp q es) ≡ Some node → P q node
      by rest true t found = let same : e.1 ≡ node =
          cc in subst (λ n. P q n) same
          (subst (λ p. P p e.1) (sym (tells_apart exact_bytes q e.0 t)) all.0)
      by rest false t found = rest found

  pub all_nodes : (es : List (Bytes × Node)) → AreApart es
      → AllByRecursion (λ (e : Bytes × Node). P e.0 e.1) es
      ↔ ((path : Bytes) (node : Node) → finmap.get (map_of es) path ≡ Some node → P path node)
  all_nodes es apart = (
    (λ all path node is. each_entry path node es all (sym (finmap.get-from_entries path_total es path) ∙ is)),
    (λ each. all_map (IsFound (map_of es)) (λ (e : Bytes × Node). P e.0 e.1)
        (λ e is. each e.0 e.1 is) es (each_found es apart)),
  )

-- What a node contributes to the agreement of nodes and names.
abbrev pub IsLinked : Nodes → Bytes → Node → Type 0
IsLinked nodes path node = (has_parent nodes path ≡ true) × HasItsChildren nodes path node.children

pub linked-is : (nodes : Nodes)
    → ((path : Bytes) (node : Node) → finmap.get nodes path ≡ Some node → IsLinked nodes path node) ↔ AreLinked nodes
linked-is nodes = (
  (λ each.
      record {
        parents = λ path. parents each path (finmap.get nodes path) refl;
        children =
            λ path name. children each path name (finmap.get nodes path) refl;
      }),
  (λ linked path node is.
      (linked.parents path (ap is_some is), λ name one. linked.children path name (ap (is_listed name) is ∙ one))),
)
  where
    Each : Type 0
    Each = (path : Bytes) (node : Node) → finmap.get nodes path ≡ Some node → IsLinked nodes path node

    parents : Each → (path : Bytes) (o : Option Node) → finmap.get nodes path ≡ o → is_some o ≡ true
        → has_parent nodes path ≡ true
    parents each path None is one = absurd (true≢false (sym one))
    parents each path (Some node) is one = (each path node is).0

    children : Each → (path name : Bytes) (o : Option Node) → finmap.get nodes path ≡ o → is_listed name o ≡ true
        → has_node nodes (child_of path name) ≡ true
    children each path name None is one = absurd (true≢false (sym one))
    children each path name (Some node) is one = (each path node is).1 name one

pub linked-entries : (es : List (Bytes × Node)) → AreApart es
    → (rest : List (Bytes × Node)) → rest ≡ es → (nodes : Nodes) → map_of es ≡ nodes
    → Decides (λ (e : Bytes × Node). IsLinked nodes e.0 e.1) (AreLinked nodes) rest
linked-entries es apart rest all nodes is =
    subst (λ ns. Decides (λ (e : Bytes × Node). IsLinked ns e.0 e.1) (AreLinked ns) rest) is
    (subst (λ xs. Decides (λ (e : Bytes × Node). IsLinked (map_of es) e.0 e.1)
    (AreLinked (map_of es)) xs) (sym all) (
      (λ each. (linked-is (map_of es)).0 ((all_nodes (IsLinked (map_of es)) es apart).0 each)),
      (λ linked. (all_nodes (IsLinked (map_of es)) es apart).1 ((linked-is (map_of es)).1 linked)),
    ))
