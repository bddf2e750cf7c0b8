-- The ephemeral nodes of a session that ends are deleted in turn, each before those below it.
use Rattle.std.proofs.Common.{◌≡◌, ℕ, pos, Bool, true, false, ◌&&◌, ◌||◌, cond, T, List, [], ◌∷◌, ◌++◌, Option, Some, None, map, refl, sym, ap, ◌∙◌, if◌then◌else◌, codes}
use mathlib.Core.Bool.{true≢false}
use Rattle.std.proofs.lemmas.Cmp.{eq_by_cmp_equiv, nat_cmp_total}
use Rattle.std.specs.declared.cmp.Ordering.{Ordering}
use Rattle.std.specs.declared.cmp.Ordering.TheVariants.{Less, Equal, Greater}
use Rattle.std.specs.FinMap as finmap
use Rattle.std.specs.FinMap.Entries.{is_sorted, below_all}
use Rattle.std.specs.FinSet as set
use Rattle.std.specs.List.{list_any, AllByRecursion}
use Rattle.std.specs.Ordering.{eq_by_cmp, int_eq, is_eq, is_lt, nat_cmp, ordering_then}
use Rattle.ephemerals.specs.Orders.{Bytes, Names, path_cmp, sorted_names}
use Rattle.ephemerals.specs.Pairs.{paths_of_session}
use Rattle.ephemerals.proofs.Ascending.{any-in_order}
use Rattle.ephemerals.proofs.SessionPaths.{contains-owned}
use Rattle.ephemerals.proofs.Totals.{path_total}
use Rattle.settings.specs.declared.dialect.Dialect.{Dialect}
use Rattle.settings.specs.declared.dialect.Dialect.TheVariants.{Zk34, Zk38}
use Rattle.paths_and_acls.specs.Paths.{is_root, is_child_path, parent_of, name_of}
use Rattle.txn_codec.specs.declared.txn.TxnHeader.{TxnHeader}
use Rattle.node_map.specs.Children.{without_child, without_missing_child}
use Rattle.node_map.specs.declared.node.Node.{Node}
use Rattle.data_tree.specs.State.{State, Nodes}
use Rattle.data_tree.specs.Meaning.{after_changes, delete_missing, delete_at, delete_of, of_operation, state_without_session}
use Rattle.data_tree.specs.Meaning.Change.{Disown}
use Rattle.audit.specs.Clean.{is_childless, are_childless}
use Rattle.audit.specs.Laws.{are_childless_in_turn, DeletesGoInTurn}
use Rattle.audit.proofs.Names.{or_true, root_is, child_is}

-- ---- a parent comes before its children

itself : (a : ℕ) → nat_cmp a a ≡ Equal
itself a = by (nat_cmp a a) ((eq_by_cmp_equiv nat_cmp_total).refl a)
  where
    by : (o : Ordering) → is_eq o ≡ true → o ≡ Equal
    by Less e = absurd (true≢false (sym e))
    by Equal e = refl
    by Greater e = absurd (true≢false (sym e))

front_less : (x : Bytes) (b : ℕ) (y : Bytes) → path_cmp x (x ++ b ∷ y) ≡ Less
front_less [] b y = refl
front_less (a ∷ x) b y = (λ i. ordering_then (itself a i) (path_cmp x (x ++ b ∷ y))) ∙ front_less x b y

parent_less : (p : Bytes) → is_child_path p ≡ true → path_cmp (parent_of p) p ≡ Less
parent_less p child = by (is_root (parent_of p)) (name_of p) refl refl
  where
    by : (r : Bool) (name : Bytes) → is_root (parent_of p) ≡ r → name_of p ≡ name → path_cmp (parent_of p) p ≡ Less
    by false name e f =
        let is : parent_of p ++ 47 ∷ name_of p ≡ p =
        (λ i. if sym e i then parent_of p ++ name_of p else parent_of p ++ 47 ∷ name_of p) ∙ child_is p child in
        ap (path_cmp (parent_of p)) (sym is) ∙ front_less (parent_of p) 47 (name_of p)
    by true (b ∷ name) e f =
        let is : parent_of p ++ b ∷ name ≡ p =
        (λ i. parent_of p ++ sym f i)
        ∙ (λ i. if sym e i then parent_of p ++ name_of p else parent_of p ++ 47 ∷ name_of p)
        ∙ child_is p child in
        ap (path_cmp (parent_of p)) (sym is) ∙ front_less (parent_of p) b name
    by true [] e f =
        let is : p ≡ codes "/" =
        sym (child_is p child)
        ∙ (λ i. if e i then parent_of p ++ name_of p else parent_of p ++ 47 ∷ name_of p)
        ∙ (λ i. root_is (parent_of p) e i ++ f i) in
        absurd (true≢false (sym child ∙ ap is_child_path is))

other : (a b : Bytes) → path_cmp a b ≡ Less → eq_by_cmp path_cmp b a ≡ false
other a b less = (eq_by_cmp_equiv path_total).symm b a ∙ ap is_eq less

-- ---- elements in order

abbrev Ascends : List Bytes → Type 0
Ascends [] = Unit {0}
Ascends (p ∷ ps) = AllByRecursion (λ (q : Bytes). path_cmp p q ≡ Less) ps × Ascends ps

abbrev Entries : Type 0
Entries = List (Bytes × Unit {0})

abbrev keys_of : Entries → List Bytes
keys_of es = map (λ (e : Bytes × Unit {0}). e.0) es

split : (a b : Bool) → T (a && b) → T a × T b
split true b p = (tt, p)
split false b p = absurd p

is_less : (o : Ordering) → T (is_lt o) → o ≡ Less
is_less Less p = refl
is_less Equal p = absurd p
is_less Greater p = absurd p

all_above : (k : Bytes) (es : Entries) → T (below_all path_cmp k es)
    → AllByRecursion (λ (q : Bytes). path_cmp k q ≡ Less) (keys_of es)
all_above k [] h = tt
all_above k (e ∷ es) h =
    let parts = split (is_lt (path_cmp k e.0)) (below_all path_cmp k es) h in
    (is_less (path_cmp k e.0) parts.0, all_above k es parts.1)

keys_ascend : (es : Entries) → T (is_sorted path_cmp es) → Ascends (keys_of es)
keys_ascend [] h = tt
keys_ascend (e ∷ es) h =
    let parts = split (below_all path_cmp e.0 es) (is_sorted path_cmp es) h in
    (all_above e.0 es parts.0, keys_ascend es parts.1)

in_order_ascends : (names : Names) → Ascends (sorted_names names)
in_order_ascends names =
    let entries = finmap.from_entries {R = path_cmp} (map (λ (t : Bytes). (t, tt {0})) (set.items names)) in
    keys_ascend (finmap.entries entries) (finmap.entries_sorted entries)

members : (P : Bytes → Type 0) (ps : List Bytes) → ((q : Bytes) → list_any (eq_by_cmp path_cmp q) ps ≡ true → P q)
    → AllByRecursion P ps
members P [] f = tt
members P (p ∷ ps) f = (
  f p (λ i. (eq_by_cmp_equiv path_total).refl p i || list_any (eq_by_cmp path_cmp p) ps),
  members P ps (λ q e. f q ((λ i. eq_by_cmp path_cmp q p || e i) ∙ or_true (eq_by_cmp path_cmp q p))),
)

-- ---- a delete leaves every node but its own and the parent

unchanged : (h : TxnHeader) (p : Bytes) (s : State) (q : Bytes) → eq_by_cmp path_cmp q p ≡ false
    → eq_by_cmp path_cmp q (parent_of p) ≡ false
    → finmap.get (of_operation h (delete_of p) s).state.nodes q ≡ finmap.get s.nodes q
unchanged h p s q apart above = by (finmap.get s.nodes p) (finmap.get (finmap.remove s.nodes p) (parent_of p))
  where
    removed : finmap.get (finmap.remove s.nodes p) q ≡ finmap.get s.nodes q
    removed =
        finmap.get-remove path_total s.nodes p q
        ∙ ap (λ (b : Bool). cond b None (finmap.get s.nodes q)) apart

    put : (new : Node) → finmap.get (finmap.insert (finmap.remove s.nodes p) (parent_of p) new) q
        ≡ finmap.get s.nodes q
    put new =
        finmap.get-insert path_total (finmap.remove s.nodes p) (parent_of p) new q
        ∙ ap (λ (b : Bool). cond b (Some new) (finmap.get (finmap.remove s.nodes p) q)) above
        ∙ removed

    by : (o up : Option Node)
        → finmap.get (after_changes s (delete_at h p o up).changes).nodes q ≡ finmap.get s.nodes q
    by None up = missing h.rules up
      where
        missing : (rules : Dialect) (up : Option Node)
            → finmap.get (after_changes s (delete_missing rules h p up).changes).nodes q ≡ finmap.get s.nodes q
        missing Zk34 up = refl
        missing Zk38 None = refl
        missing Zk38 (Some parent) =
            finmap.get-insert path_total s.nodes (parent_of p) (without_missing_child h parent) q
            ∙ ap (λ (b : Bool). cond b (Some (without_missing_child h parent)) (finmap.get s.nodes q)) above
    by (Some node) None = removed
    by (Some node) (Some parent) = owned (int_eq node.stat.ephemeral_owner (pos 0))
      where
        owned : (b : Bool)
            → finmap.get (after_changes
            (record s {
              nodes = finmap.insert (finmap.remove s.nodes p) (parent_of p)
                  (without_child (name_of p) h parent);
            })
            (if b then [] else Disown node.stat.ephemeral_owner p ∷ [])).nodes q ≡ finmap.get s.nodes q
        owned true = put _
        owned false = put _

-- ---- one after the other

same_childless : (m n : Nodes) (ps : List Bytes)
    → AllByRecursion (λ (q : Bytes). finmap.get m q ≡ finmap.get n q) ps → are_childless m ps ≡ are_childless n ps
same_childless m n [] all = refl
same_childless m n (p ∷ ps) all = λ i. is_childless (all.0 i) && same_childless m n ps all.1 i

unmoved : (h : TxnHeader) (p : Bytes) (s : State) → is_child_path p ≡ true → (qs : List Bytes)
    → AllByRecursion (λ (q : Bytes). path_cmp p q ≡ Less) qs
    → AllByRecursion
    (λ (q : Bytes). finmap.get s.nodes q ≡ finmap.get (of_operation h (delete_of p) s).state.nodes q) qs
unmoved h p s child [] all = tt
unmoved h p s child (q ∷ qs) all = (
  sym (unchanged h p s q (other p q all.0)
      (other (parent_of p) q (path_total.trans (parent_of p) p q (parent_less p child) all.0))),
  unmoved h p s child qs all.1,
)

in_turn : (h : TxnHeader) (ps : List Bytes) (s : State) → Ascends ps
    → AllByRecursion (λ (p : Bytes). is_child_path p ≡ true) ps
    → are_childless s.nodes ps ≡ are_childless_in_turn h ps s
in_turn h [] s order children = refl
in_turn h (p ∷ ps) s order children =
    ap (λ (b : Bool). is_childless (finmap.get s.nodes p) && b)
    (same_childless s.nodes (of_operation h (delete_of p) s).state.nodes ps (unmoved h p s children.0 ps order.0)
    ∙ in_turn h ps (of_operation h (delete_of p) s).state order.1 children.1)

pub deletes_go_in_turn : DeletesGoInTurn
deletes_go_in_turn h s children =
    in_turn h (sorted_names (paths_of_session h.client_id s.pairs)) (state_without_session h.client_id s)
    (in_order_ascends (paths_of_session h.client_id s.pairs))
    (members (λ (p : Bytes). is_child_path p ≡ true) (sorted_names (paths_of_session h.client_id s.pairs))
    (λ q e. children h.client_id q
    (sym (any-in_order (paths_of_session h.client_id s.pairs) q ∙ contains-owned h.client_id s.pairs q) ∙ e)))
