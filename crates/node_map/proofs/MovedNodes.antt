-- Nodes that are taken out of a map, and put into one.
use Rattle.std.proofs.Common.{◌≡◌, List, [], ◌∷◌, Bool, true, false, cond, not, ◌||◌, ◌&&◌, Option, Some, None, is_some, ◌⊎◌, inl, inr, refl, sym, ap, ◌∙◌}
use Rattle.std.specs.List.{list_any}
use Rattle.std.specs.Option.{option_or}
use Rattle.std.proofs.Math.Bool.{and-false, or-false}
use Rattle.std.specs.Ordering.{eq_by_cmp}
use Rattle.std.specs.FinMap as finmap
use Rattle.std.specs.FinSet as set
use mathlib.Core.Bool.{true≢false}
use Rattle.std.proofs.lemmas.Map.Lookups.{exact_bytes}
use Rattle.std.proofs.lemmas.Map.Views.{tells_apart}
use Rattle.ephemerals.specs.Orders.{Bytes, Names, path_cmp, sorted_names}
use Rattle.ephemerals.proofs.Totals.{path_total}
use Rattle.ephemerals.proofs.Ascending.{any-in_order}
use Rattle.node_map.specs.Nodes.{Nodes}
use Rattle.node_map.specs.Agreement.{has_node}
use Rattle.node_map.specs.Updates.{update_found, with_entries, with_node_at, IsBetween}
use Rattle.node_map.specs.Inner.Moving.{IsRoomFor, with_replaced_node, without_nodes, with_moved_nodes}
use Rattle.node_map.specs.declared.node.Node.{Node}
use Rattle.pairs.proofs.Hashed.{map_of}
use Rattle.node_map.proofs.HashedNodes.{AreApart, apart_first, apart_rest, not_found_apart}

-- ---- the nodes

pub get-kept : (nodes : Nodes) (p : Bytes → Bool) (q : Bytes)
    → finmap.get (finmap.retain_keys nodes p) q ≡ cond (p q) (finmap.get nodes q) None
get-kept nodes p q = finmap.get-retain_keys nodes p q (λ x tie. ap p (sym (exact_bytes q x tie)))

find-entries : (nodes : Nodes) (es : List (Bytes × Node)) (q : Bytes)
    → finmap.get (with_entries nodes es) q ≡ option_or (finmap.find path_cmp q es) (finmap.get nodes q)
find-entries nodes [] q = refl
find-entries nodes (e ∷ es) q =
    finmap.get-insert path_total (with_entries nodes es) e.0 e.1 q
    ∙ ap (cond (eq_by_cmp path_cmp q e.0) (Some e.1)) (find-entries nodes es q)
    ∙ by (eq_by_cmp path_cmp q e.0) (finmap.find path_cmp q es)
  where
    by : (b : Bool) (found : Option Node) → cond b (Some e.1) (option_or found (finmap.get nodes q))
        ≡ option_or (cond b (Some e.1) found) (finmap.get nodes q)
    by true found = refl
    by false found = refl

pub get-with : (nodes new : Nodes) (q : Bytes) → finmap.get (with_entries nodes (finmap.entries new)) q
    ≡ option_or (finmap.get new q) (finmap.get nodes q)
get-with nodes new q =
    find-entries nodes (finmap.entries new) q
    ∙ ap (λ o. option_or o (finmap.get nodes q)) (sym (finmap.get-entries new q))

-- ---- nodes that are moved one by one

-- The first nodes, without those at the paths.
pub removed_all : (nodes : Nodes) (ps : List Bytes) (q : Bytes) → finmap.get (without_nodes ps nodes) q
    ≡ cond (list_any (eq_by_cmp path_cmp q) ps) None (finmap.get nodes q)
removed_all nodes [] q = refl
removed_all nodes (p ∷ ps) q =
    removed_all (finmap.remove nodes p) ps q
    ∙ ap (cond (list_any (eq_by_cmp path_cmp q) ps) None) (finmap.get-remove path_total nodes p q)
    ∙ by (eq_by_cmp path_cmp q p) (list_any (eq_by_cmp path_cmp q) ps)
  where
    by : (a b : Bool) → cond b None (cond a None (finmap.get nodes q)) ≡ cond (a || b) None (finmap.get nodes q)
    by true true = refl
    by true false = refl
    by false b = refl

pub none_left : (nodes : Nodes) (paths : Names)
    → without_nodes (sorted_names paths) nodes ≡ finmap.retain_keys nodes (λ (p : Bytes). not (set.contains paths p))
none_left nodes paths = finmap.same_map path_total exact_bytes _ _ (λ q.
    removed_all nodes (sorted_names paths) q
    ∙ ap (λ b. cond b None (finmap.get nodes q)) (any-in_order paths q)
    ∙ by (set.contains paths q) (finmap.get nodes q)
    ∙ sym (get-kept nodes (λ (p : Bytes). not (set.contains paths p)) q))
  where
    by : (b : Bool) (o : Option Node) → cond b None o ≡ cond (not b) o None
    by true o = refl
    by false o = refl

-- A node that replaces another one, where there is one.
abbrev put_over : Option Node → Option Node → Option Node
put_over None stood = stood
put_over (Some node) None = None
put_over (Some node) (Some stood) = Some node

get-filled : (p : Bytes) (found : Option Node) (room : Nodes) (q : Bytes)
    → finmap.get (with_replaced_node p found room) q
    ≡ cond (eq_by_cmp path_cmp q p) (put_over found (finmap.get room q)) (finmap.get room q)
get-filled p None room q = sym (same (eq_by_cmp path_cmp q p))
  where
    same : (b : Bool) → cond b (finmap.get room q) (finmap.get room q) ≡ finmap.get room q
    same true = refl
    same false = refl
get-filled p (Some node) room q =
    by (finmap.get room p) refl (eq_by_cmp path_cmp q p) refl
  where
    by : (o : Option Node) → finmap.get room p ≡ o → (b : Bool) → eq_by_cmp path_cmp q p ≡ b
        → finmap.get (update_found room p (λ (n : Node). node) o) q
        ≡ cond b (put_over (Some node) (finmap.get room q)) (finmap.get room q)
    by None e true t =
        let none : finmap.get room q ≡ None = ap (finmap.get room) (tells_apart exact_bytes q p t) ∙ e in
        none ∙ ap (put_over (Some node)) (sym none)
    by None e false t = refl
    by (Some n) e true t =
        let some : finmap.get room q ≡ Some n = ap (finmap.get room) (tells_apart exact_bytes q p t) ∙ e in
        finmap.get-insert path_total room p node q ∙ ap (λ b. cond b (Some node) (finmap.get room q)) t
        ∙ ap (put_over (Some node)) (sym some)
    by (Some n) e false t =
        finmap.get-insert path_total room p node q ∙ ap (λ b. cond b (Some node) (finmap.get room q)) t

pub get-node_at : (p : Bytes) (o : Option Node) (nodes : Nodes) (q : Bytes) (b : Bool) → eq_by_cmp path_cmp q p ≡ b
    → finmap.get (with_node_at p o nodes) q ≡ cond b o (finmap.get nodes q)
get-node_at p None nodes q b t =
    finmap.get-remove path_total nodes p q ∙ ap (λ x. cond x None (finmap.get nodes q)) t
get-node_at p (Some node) nodes q b t =
    finmap.get-insert path_total nodes p node q ∙ ap (λ x. cond x (Some node) (finmap.get nodes q)) t

get-moved : (ps : List Bytes) (nodes room : Nodes) (q : Bytes) → finmap.get (with_moved_nodes ps nodes room) q
    ≡ cond (list_any (eq_by_cmp path_cmp q) ps) (put_over (finmap.get nodes q) (finmap.get room q)) (finmap.get room q)
get-moved [] nodes room q = refl
get-moved (p ∷ ps) nodes room q =
    get-moved ps (finmap.remove nodes p) (with_replaced_node p (finmap.get nodes p) room) q
    ∙ (λ i. cond (list_any (eq_by_cmp path_cmp q) ps)
    (put_over (finmap.get-remove path_total nodes p q i) (get-filled p (finmap.get nodes p) room q i))
    (get-filled p (finmap.get nodes p) room q i))
    ∙ by (eq_by_cmp path_cmp q p) (list_any (eq_by_cmp path_cmp q) ps)
    (λ t. ap (finmap.get nodes) (sym (tells_apart exact_bytes q p t)))
  where
    by : (a b : Bool) → (a ≡ true → finmap.get nodes p ≡ finmap.get nodes q)
        → cond b
        (put_over (cond a None (finmap.get nodes q))
        (cond a (put_over (finmap.get nodes p) (finmap.get room q)) (finmap.get room q)))
        (cond a (put_over (finmap.get nodes p) (finmap.get room q)) (finmap.get room q))
        ≡ cond (a || b) (put_over (finmap.get nodes q) (finmap.get room q)) (finmap.get room q)
    by true true same = ap (λ o. put_over o (finmap.get room q)) (same refl)
    by true false same = ap (λ o. put_over o (finmap.get room q)) (same refl)
    by false true same = refl
    by false false same = refl

-- Where there is room for them, all nodes at the paths were moved.
pub all_moved : (paths : Names) (nodes room : Nodes) → IsRoomFor paths nodes room
    → with_moved_nodes (sorted_names paths) nodes room ≡ finmap.retain_keys nodes (set.contains paths)
all_moved paths nodes room has = finmap.same_map path_total exact_bytes _ _ (λ q.
    get-moved (sorted_names paths) nodes room q
    ∙ ap (λ b. cond b (put_over (finmap.get nodes q) (finmap.get room q)) (finmap.get room q)) (any-in_order paths q)
    ∙ by (set.contains paths q) (finmap.get nodes q) (finmap.get room q) (has q)
    ∙ sym (get-kept nodes (set.contains paths) q))
  where
    by : (b : Bool) (n r : Option Node) → is_some r ≡ (b && is_some n) → cond b (put_over n r) r ≡ cond b n None
    by true None None h = refl
    by true None (Some r) h = absurd (true≢false h)
    by true (Some n) None h = absurd (true≢false (sym h))
    by true (Some n) (Some r) h = refl
    by false n None h = refl
    by false n (Some r) h = absurd (true≢false h)

-- There is room for the nodes at all paths except those left.
abbrev pub HasRoomFor : Names → Nodes → List Bytes → Nodes → Type 0
HasRoomFor paths nodes left room =
    (q : Bytes) → (has_node room q || (list_any (eq_by_cmp path_cmp q) left && has_node nodes q))
    ≡ (set.contains paths q && has_node nodes q)

pub no_room_yet : (paths : Names) (nodes room : Nodes) (ps : List Bytes) → room ≡ finmap.empty
    → ps ≡ sorted_names paths → HasRoomFor paths nodes ps room
no_room_yet paths nodes room ps empty is q =
    (λ i. is_some ((ap (λ m. finmap.get m q) empty ∙ finmap.get-empty path_cmp q) i)
    || (list_any (eq_by_cmp path_cmp q) (is i) && has_node nodes q))
    ∙ ap (λ b. b && has_node nodes q) (any-in_order paths q)

pub room_made : (paths : Names) (nodes room new : Nodes) (p : Bytes) (ps : List Bytes) (node : Node)
    → HasRoomFor paths nodes (p ∷ ps) room → has_node nodes p ≡ true → new ≡ finmap.insert room p node
    → HasRoomFor paths nodes ps new
room_made paths nodes room new p ps node before here made q =
    ap (λ o. is_some o || (list_any (eq_by_cmp path_cmp q) ps && has_node nodes q))
    (ap (λ m. finmap.get m q) made ∙ finmap.get-insert path_total room p node q)
    ∙ by (eq_by_cmp path_cmp q p) (finmap.get room q) (list_any (eq_by_cmp path_cmp q) ps) (has_node nodes q)
    (λ t. ap (has_node nodes) (tells_apart exact_bytes q p t) ∙ here)
    ∙ before q
  where
    by : (a : Bool) (r : Option Node) (b n : Bool) → (a ≡ true → n ≡ true)
        → (is_some (cond a (Some node) r) || (b && n)) ≡ (is_some r || ((a || b) && n))
    by true None b n h = sym (h refl)
    by true (Some x) b n h = refl
    by false r b n h = refl

pub no_room_needed : (paths : Names) (nodes room : Nodes) (p : Bytes) (ps : List Bytes)
    → HasRoomFor paths nodes (p ∷ ps) room → has_node nodes p ≡ false → HasRoomFor paths nodes ps room
no_room_needed paths nodes room p ps before none q =
    by (eq_by_cmp path_cmp q p) (has_node room q) (list_any (eq_by_cmp path_cmp q) ps) (has_node nodes q)
    (λ t. ap (has_node nodes) (tells_apart exact_bytes q p t) ∙ none)
    ∙ before q
  where
    by : (a r b n : Bool) → (a ≡ true → n ≡ false) → (r || (b && n)) ≡ (r || ((a || b) && n))
    by true r b n h = ap (λ x. r || x) (ap (λ x. b && x) (h refl) ∙ and-false b ∙ sym (h refl))
    by false r b n h = refl

pub room_for_all : (paths : Names) (nodes room : Nodes) → HasRoomFor paths nodes [] room → IsRoomFor paths nodes room
room_for_all paths nodes room all q = sym (or-false (has_node room q)) ∙ all q

-- ---- nodes that are inserted one by one

-- The first nodes with those of the others that aren't left. At each path they are as before, or as with all others.
pub record IsJoining (others old : Nodes) (left : List (Bytes × Node)) (nodes : Nodes) : Type 0 where
  apart : AreApart left
  same : (q : Bytes) → option_or (finmap.get (map_of left) q) (finmap.get nodes q)
      ≡ option_or (finmap.get others q) (finmap.get old q)
  either : (q : Bytes) → (finmap.get nodes q ≡ finmap.get old q)
      ⊎ (finmap.get nodes q ≡ option_or (finmap.get others q) (finmap.get old q))

pub joining : (others old : Nodes) (all : List (Bytes × Node))
    → AreApart all → map_of all ≡ others → IsJoining others old all old
joining others old all apart is = record {
  apart = apart;
  same = λ q. ap (λ m. option_or (finmap.get m q) (finmap.get old q)) is;
  either = λ q. inl refl;
}

pub joined_one : (others old nodes new : Nodes) (e : Bytes × Node) (es : List (Bytes × Node))
    → IsJoining others old (e ∷ es) nodes → new ≡ finmap.insert nodes e.0 e.1
    → IsJoining others old es new
joined_one others old nodes new e es before made = record {
  apart = apart_rest e es before.apart;
  same =
      λ q.
      ap (option_or (finmap.get (map_of es) q))
      (ap (λ m. finmap.get m q) made ∙ finmap.get-insert path_total nodes e.0 e.1 q)
      ∙ by q (eq_by_cmp path_cmp q e.0) refl
      ∙ ap (λ o. option_or o (finmap.get nodes q))
      (sym (finmap.get-insert path_total (map_of es) e.0 e.1 q))
      ∙ before.same q;
  either =
      λ q.
      now_either q (eq_by_cmp path_cmp q e.0) refl
      (ap (λ m. finmap.get m q) made ∙ finmap.get-insert path_total nodes e.0 e.1 q) (before.either q);
}
  where
    by : (q : Bytes) (b : Bool) → eq_by_cmp path_cmp q e.0 ≡ b
        → option_or (finmap.get (map_of es) q) (cond b (Some e.1) (finmap.get nodes q))
        ≡ option_or (cond b (Some e.1) (finmap.get (map_of es) q)) (finmap.get nodes q)
    by q true t = ap (λ o. option_or o (Some e.1))
        (ap (finmap.get (map_of es)) (tells_apart exact_bytes q e.0 t)
        ∙ finmap.get-from_entries path_total es e.0
        ∙ not_found_apart e.0 es (apart_first e es before.apart))
    by q false t = refl

    now_either : (q : Bytes) (b : Bool) → eq_by_cmp path_cmp q e.0 ≡ b
        → finmap.get new q ≡ cond (eq_by_cmp path_cmp q e.0) (Some e.1) (finmap.get nodes q)
        → (finmap.get nodes q ≡ finmap.get old q)
        ⊎ (finmap.get nodes q ≡ option_or (finmap.get others q) (finmap.get old q))
        → (finmap.get new q ≡ finmap.get old q) ⊎ (finmap.get new q ≡ option_or (finmap.get others q) (finmap.get old q))
    now_either q true t is or =
        inr (is ∙ ap (λ b. cond b (Some e.1) (finmap.get nodes q)) t
        ∙ ap (λ o. option_or o (finmap.get nodes q)) (sym (finmap.get-insert path_total (map_of es)
        e.0 e.1 q ∙ ap (λ b. cond b (Some e.1) (finmap.get (map_of es) q)) t))
        ∙ before.same q)
    now_either q false t is (inl stays) = inl (is ∙ ap (λ b. cond b (Some e.1) (finmap.get nodes q)) t ∙ stays)
    now_either q false t is (inr joined) = inr (is ∙ ap (λ b. cond b (Some e.1) (finmap.get nodes q)) t ∙ joined)

pub all_joined : (others old nodes : Nodes) → IsJoining others old [] nodes
    → nodes ≡ with_entries old (finmap.entries others)
all_joined others old nodes joined = finmap.same_map path_total exact_bytes _ _ (λ q.
    ap (λ o. option_or o (finmap.get nodes q)) (sym (finmap.get-empty path_cmp q))
    ∙ joined.same q ∙ sym (get-with old others q))

pub joined_between : (others old nodes : Nodes) (es : List (Bytes × Node)) → IsJoining others old es nodes
    → IsBetween old (with_entries old (finmap.entries others)) nodes
joined_between others old nodes es joined q = by (joined.either q)
  where
    by : (finmap.get nodes q ≡ finmap.get old q)
        ⊎ (finmap.get nodes q ≡ option_or (finmap.get others q) (finmap.get old q))
        → (finmap.get nodes q ≡ finmap.get old q)
        ⊎ (finmap.get nodes q ≡ finmap.get (with_entries old (finmap.entries others)) q)
    by (inl stays) = inl stays
    by (inr joins) = inr (joins ∙ sym (get-with old others q))
