-- The state that the parts make one by one is the one that the conditions on all parts describe.
use Rattle.std.proofs.Common.{◌≡◌, ℕ, Bool, true, false, not, cond, eqb, ◌&&◌, ◌||◌, List, [], ◌∷◌, ◌++◌, Option, Some, None, is_some, refl, sym, ap, subst, ◌∙◌}
use mathlib.Core.Bool.{true≢false}
use Rattle.std.specs.Prelude.{ℤ, pos, negsuc, if◌then◌else◌}
use Rattle.std.specs.Cmp.{int_cmp_total, tied_itself}
use Rattle.std.specs.FinMap as finmap
use Rattle.std.specs.FinMap.{find}
use Rattle.std.specs.FinMap.Entries.{find-append}
use Rattle.std.specs.FinSet as set
use Rattle.std.specs.List.{list_any}
use Rattle.std.specs.Ordering.{eq_by_cmp, is_eq, int_cmp, int_eq}
use Rattle.std.proofs.lemmas.Bool.{eqb-true}
use Rattle.std.proofs.lemmas.Bool.Decides.{Decides-int_eq}
use Rattle.std.proofs.lemmas.List.Folds.{list_any-append}
use Rattle.std.proofs.lemmas.Map.Lookups.{exact_bytes, exact_signed}
use Rattle.std.proofs.lemmas.Map.Views.{tells_apart}
use Rattle.settings.specs.declared.dialect.Dialect.{Dialect}
use Rattle.settings.specs.declared.dialect.Dialect.TheVariants.{Zk34, Zk38}
use Rattle.ephemerals.specs.Orders.{Bytes, OwnerPairs, path_cmp, pair_cmp}
use Rattle.ephemerals.specs.Pairs.{with_pair}
use Rattle.ephemerals.proofs.Ties.{tied_then, same_session}
use Rattle.ephemerals.proofs.Totals.{path_total, pair_total}
use Rattle.jute.specs.Codes.{open_acl}
use Rattle.jute.specs.declared.owned.Acl.{Acl}
use Rattle.paths_and_acls.specs.Paths.{is_root, parent_of, name_of}
use Rattle.node_map.specs.Updates.{with_name, update_node, update_found}
use Rattle.node_map.specs.Nodes.{Nodes}
use Rattle.node_map.specs.Agreement.{is_owner}
use Rattle.node_map.specs.declared.node.Node.{Node}
use Rattle.data_tree.specs.Making.{with_session, with_node, has_place}
use Rattle.data_tree.specs.State.{State}
use Rattle.snapshot_codec.specs.Dialects.{owning_session, or_missing, is_late, comes_late}
use Rattle.snapshot_codec.specs.Image.{SessionEntries, Lists, Rows, list_named, HasPlace, IsInTime, is_child, AreAt, IsMadeOf}
use Rattle.snapshot_codec.specs.Made.{LoadedParts, node_with}
use Rattle.snapshot_codec.specs.declared.part.ImageNode.{ImageNode}

pub and_parts : (a b : Bool) → (a && b) ≡ true → (a ≡ true) × (b ≡ true)
and_parts true b e = (refl, e)
and_parts false b e = absurd (true≢false (sym e))

pub not_true : (b : Bool) → not b ≡ true → b ≡ false
not_true true e = absurd (true≢false (sym e))
not_true false e = refl

pub is_none : {A : Type 0} (o : Option A) → is_some o ≡ false → o ≡ None
is_none None e = refl
is_none (Some a) e = absurd (true≢false e)

pub none_is : {A : Type 0} (o : Option A) → o ≡ None → is_some o ≡ false
none_is o e = ap is_some e

-- ---- look-ups

module _ (dialect : Dialect) (lists : Lists) (rows : Rows) (path : Bytes) where
  same_some : (row : Option ImageNode) (node : Option Node) → AreAt dialect lists rows path row node
      → is_some node ≡ is_some row
  same_some None None h = refl
  same_some (Some r) (Some n) h = refl
  same_some None (Some n) h = absurd h
  same_some (Some r) None h = absurd h

  some_node : (row : Option ImageNode) (node : Option Node) → AreAt dialect lists rows path row node
      → is_some row ≡ true
      → (n : Node) × (node ≡ Some n)
  some_node (Some r) (Some n) h e = (n, refl)
  some_node (Some r) None h e = absurd h
  some_node None found h e = absurd (true≢false (sym e))

-- The parts so far; and no path without a row has a child among the rows.
pub record Fits (made : LoadedParts) (sessions : SessionEntries) (lists : Lists) (rows : Rows) : Type 0 where
  pub state : IsMadeOf made.dialect made.state sessions lists rows
  pub table : (key : ℤ) → finmap.get made.lists key ≡ find int_cmp key lists
  pub closed : (path : Bytes) → find path_cmp path rows ≡ None → (name : Bytes)
      → list_any (is_child path name) rows ≡ false

-- ---- a session

pub session_fits : (made : LoadedParts) (sessions : SessionEntries) (lists : Lists) (rows : Rows) (id timeout : ℤ)
    → Fits made sessions lists rows
    → find int_cmp id sessions ≡ None
    → Fits (record made { state = with_session made.state id timeout }) (sessions ++ (id, timeout) ∷ []) lists rows
session_fits made sessions lists rows id timeout f none = record {
  state = record {
    timeouts = λ q. finmap.get-insert int_cmp_total made.state.sessions id timeout q
        ∙ ap (cond (eq_by_cmp int_cmp q id) (Some timeout)) (f.state.timeouts q)
        ∙ sym (find-append int_cmp int_cmp_total sessions id timeout q none);
    nodes = f.state.nodes;
    owners = f.state.owners;
  };
  table = f.table;
  closed = f.closed;
}

-- ---- an ACL list

-- The list of a key stays when an entry with another key comes.
named_more : (lists : Lists) (key : ℤ) (list : List Acl) (asked : ℤ) (found : List Acl) → find int_cmp key lists ≡ None
    → list_named lists asked ≡ Some found → list_named (lists ++ (key, list) ∷ []) asked ≡ Some found
named_more lists key list asked found none e = by (int_eq asked (negsuc 0)) (eq_by_cmp int_cmp asked key) refl e
  where
    entry : (other : Bool) → eq_by_cmp int_cmp asked key ≡ other → find int_cmp asked lists ≡ Some found
        → cond other (Some list) (find int_cmp asked lists) ≡ Some found
    entry false t h = h
    entry true t h =
        let same : find int_cmp asked lists ≡ None = ap (λ (k : ℤ). find int_cmp k lists)
        (tells_apart exact_signed asked key t) ∙ none in
        absurd (true≢false (ap is_some (sym h ∙ same)))

    by : (is_open other : Bool) → eq_by_cmp int_cmp asked key ≡ other
        → cond is_open (Some open_acl) (find int_cmp asked lists) ≡ Some found
        → cond is_open (Some open_acl) (find int_cmp asked (lists ++ (key, list) ∷ [])) ≡ Some found
    by true other t h = h
    by false other t h = find-append int_cmp int_cmp_total lists key list asked none
        ∙ ap (λ b. cond b (Some list) (find int_cmp asked lists)) t ∙ entry other t h

still_at : (lists : Lists) (key : ℤ) (list : List Acl) → find int_cmp key lists ≡ None → (rows : Rows) (path : Bytes)
    (row : Option ImageNode) (node : Option Node) → AreAt Zk34 lists rows path row node
    → AreAt Zk34 (lists ++ (key, list) ∷ []) rows path row node
still_at lists key list none rows path None None h = tt
still_at lists key list none rows path (Some r) (Some n) h = record {
  bytes = h.bytes;
  stat = h.stat;
  mark = h.mark;
  acl = named_more lists key list r.acl n.acl none h.acl;
  children = h.children;
}
still_at lists key list none rows path None (Some n) h = absurd h
still_at lists key list none rows path (Some r) None h = absurd h

-- In a later dialect there is no node yet.
still_in : (dialect : Dialect) (lists : Lists) (key : ℤ) (list : List Acl) → find int_cmp key lists ≡ None
    → (rows : Rows) → IsInTime dialect rows → (path : Bytes) (node : Option Node)
    → AreAt dialect lists rows path (find path_cmp path rows) node
    → AreAt dialect (lists ++ (key, list) ∷ []) rows path (find path_cmp path rows) node
still_in Zk34 lists key list none rows time path found h =
    still_at lists key list none rows path (find path_cmp path rows) found h
still_in Zk38 lists key list none [] time path None h = tt
still_in Zk38 lists key list none [] time path (Some n) h = absurd h
still_in Zk38 lists key list none (r ∷ rows) time path found h = absurd time

pub list_fits : (made : LoadedParts) (sessions : SessionEntries) (lists : Lists) (rows : Rows) (key : ℤ)
    (list : List Acl)
    → Fits made sessions lists rows → find int_cmp key lists ≡ None → IsInTime made.dialect rows
    → Fits (record made { lists = finmap.insert made.lists key list }) sessions (lists ++ (key, list) ∷ []) rows
list_fits made sessions lists rows key list f none time = record {
  state = record {
    timeouts = f.state.timeouts;
    nodes = λ path. still_in made.dialect lists key list none rows time path (finmap.get made.state.nodes path)
        (f.state.nodes path);
    owners = f.state.owners;
  };
  table = λ q. finmap.get-insert int_cmp_total made.lists key list q
      ∙ ap (cond (eq_by_cmp int_cmp q key) (Some list)) (f.table q)
      ∙ sym (find-append int_cmp int_cmp_total lists key list q none);
  closed = f.closed;
}

-- ---- pairs

pair_tie : (session owner : ℤ) (q path : Bytes) → eq_by_cmp pair_cmp (session, q) (owner, path)
    ≡ (eq_by_cmp int_cmp session owner && eq_by_cmp path_cmp q path)
pair_tie session owner q path = tied_then (int_cmp session owner) (path_cmp q path)

-- The pairs at another path are those from before.
other_path : (pairs : OwnerPairs) (owner session : ℤ) (path q : Bytes) → eq_by_cmp path_cmp q path ≡ false
    → set.contains (with_pair pairs owner path) (session, q) ≡ set.contains pairs (session, q)
other_path pairs owner session path q apart = by (int_eq owner (pos 0))
  where
    drop_and : (b : Bool) → (b && false) ≡ false
    drop_and true = refl
    drop_and false = refl

    by : (b : Bool) → set.contains (if b then pairs else set.insert pairs (owner, path)) (session, q)
        ≡ set.contains pairs (session, q)
    by true = refl
    by false =
        set.contains-insert pair_total pairs (owner, path) (session, q)
        ∙ ap (λ b. b || set.contains pairs (session, q)) (pair_tie session owner q path
        ∙ ap (λ b. eq_by_cmp int_cmp session owner && b) apart ∙ drop_and (eq_by_cmp int_cmp session owner))

-- At a path that had no pair there is the owner's, if it has one.
own_path : (pairs : OwnerPairs) (owner session : ℤ) (path : Bytes) → set.contains pairs (session, path) ≡ false
    → set.contains (with_pair pairs owner path) (session, path) ≡ (not (int_eq session (pos 0)) && int_eq owner session)
own_path pairs owner session path none = by (int_eq owner (pos 0)) refl
  where
    nobody : (a b : Bool) → (b ≡ true → a ≡ true) → false ≡ (not a && b)
    nobody true b h = refl
    nobody false false h = refl
    nobody false true h = absurd (true≢false (sym (h refl)))

    somebody : (a b : Bool) → (a ≡ true → b ≡ true → ⊥) → b ≡ (not a && b)
    somebody true true h = absurd (h refl refl)
    somebody true false h = refl
    somebody false b h = refl

    zero_session : owner ≡ pos 0 → int_eq owner session ≡ true → int_eq session (pos 0) ≡ true
    zero_session is e = (Decides-int_eq session (pos 0)).1 (sym ((Decides-int_eq owner session).0 e) ∙ is)

    by : (b : Bool) → int_eq owner (pos 0) ≡ b
        → set.contains (if b then pairs else set.insert pairs (owner, path)) (session, path)
        ≡ (not (int_eq session (pos 0)) && int_eq owner session)
    by true e = none ∙ nobody (int_eq session (pos 0)) (int_eq owner session)
        (zero_session ((Decides-int_eq owner (pos 0)).0 e))
    by false e =
        set.contains-insert pair_total pairs (owner, path) (session, path)
        ∙ ap (λ b. b || set.contains pairs (session, path)) (pair_tie session owner path path
        ∙ (λ i. sym (same_session owner session) i && is_eq (tied_itself path_total path i)))
        ∙ (λ i. (int_eq owner session && true) || none i)
        ∙ plain (int_eq owner session)
        ∙ somebody (int_eq session (pos 0)) (int_eq owner session) (λ zero own.
        true≢false (sym ((Decides-int_eq owner (pos 0)).1 ((Decides-int_eq owner session).0 own
        ∙ (Decides-int_eq session (pos 0)).0 zero)) ∙ e))
      where
        plain : (b : Bool) → ((b && true) || false) ≡ b
        plain true = refl
        plain false = refl

-- ---- a node

unfoldable pub no_rows : Rows → Bool
no_rows [] = true
no_rows (r ∷ rows) = false

found_first : (r : Bytes × ImageNode) (rows : Rows) → find path_cmp r.0 (r ∷ rows) ≡ Some r.1
found_first r rows = ap (λ t. cond (is_eq t) (Some r.1) (find path_cmp r.0 rows)) (tied_itself path_total r.0)

module _ (made : LoadedParts) (sessions : SessionEntries) (lists : Lists) where
  abbrev nodes : Nodes
  nodes = made.state.nodes

  no_nodes : Fits made sessions lists [] → nodes ≡ finmap.empty
  no_nodes f = finmap.same_map path_total exact_bytes _ _ (λ q.
      is_none (finmap.get nodes q) (same_some made.dialect lists [] q None (finmap.get nodes q) (f.state.nodes q))
      ∙ sym (finmap.get-empty path_cmp q))

  len_is : (rows : Rows) → Fits made sessions lists rows → eqb (finmap.len nodes) 0 ≡ no_rows rows
  unfolding no_rows
  len_is [] f = ap (λ (m : Nodes). eqb (finmap.len m) 0) (no_nodes f)
      ∙ ap (λ (n : ℕ). eqb n 0) (finmap.len-empty path_cmp Node)
  len_is (r ∷ rows) f = by (eqb (finmap.len nodes) 0) refl
    where
      here : is_some (finmap.get nodes r.0) ≡ true
      here = same_some made.dialect lists (r ∷ rows) r.0 _ _ (f.state.nodes r.0) ∙ ap is_some (found_first r rows)

      by : (b : Bool) → eqb (finmap.len nodes) 0 ≡ b → b ≡ false
      by true e =
          let empty = finmap.empty_of_len nodes (eqb-true _ _ e) in
          absurd (true≢false (sym here ∙ ap (λ (m : Nodes). is_some (finmap.get m r.0)) empty
          ∙ ap is_some (finmap.get-empty path_cmp r.0)))
      by false e = refl

  abbrev pub place_test : Bool → Rows → Bytes → Bool
  place_test root rows path = if root then no_rows rows else not (is_some (find path_cmp path rows))
      && is_some (find path_cmp (parent_of path) rows)

  pub has_place_is : (rows : Rows) (path : Bytes) → Fits made sessions lists rows
      → has_place nodes path ≡ place_test (is_root path) rows path
  has_place_is rows path f = λ i. if is_root path then len_is rows f i else not (there path i)
      && there (parent_of path) i
    where
      there : (p : Bytes) → is_some (finmap.get nodes p) ≡ is_some (find path_cmp p rows)
      there p = same_some made.dialect lists rows p _ _ (f.state.nodes p)

  -- No node comes before a list, where it may not.
  pub in_time_of : (rows : Rows) → Fits made sessions lists rows → comes_late made.dialect nodes ≡ false
      → IsInTime made.dialect rows
  unfolding no_rows
  in_time_of rows f = by made.dialect rows (eqb (finmap.len nodes) 0) (len_is rows f)
    where
      by : (dialect : Dialect) (rows : Rows) (none : Bool) → none ≡ no_rows rows → is_late dialect none ≡ false
          → IsInTime dialect rows
      by Zk34 rows none is e = tt
      by Zk38 [] none is e = tt
      by Zk38 (r ∷ rows) none is e = absurd (true≢false (ap not (sym is) ∙ e))

  pub of_in_time : (rows : Rows) → Fits made sessions lists rows → IsInTime made.dialect rows
      → comes_late made.dialect nodes ≡ false
  unfolding no_rows
  of_in_time rows f = by made.dialect rows (eqb (finmap.len nodes) 0) (len_is rows f)
    where
      by : (dialect : Dialect) (rows : Rows) (none : Bool) → none ≡ no_rows rows → IsInTime dialect rows
          → is_late dialect none ≡ false
      by Zk34 rows none is time = refl
      by Zk38 [] none is time = ap not is
      by Zk38 (r ∷ rows) none is time = absurd time

  pub has_place_of : (b : Bool) (rows : Rows) (path : Bytes) → place_test b rows path ≡ true → HasPlace b rows path
  unfolding no_rows
  has_place_of true [] path e = refl
  has_place_of true (r ∷ rows) path e = absurd (true≢false (sym e))
  has_place_of false rows path e =
      let p = and_parts (not (is_some (find path_cmp path rows))) (is_some (find path_cmp (parent_of path) rows)) e in
      (is_none _ (not_true _ p.0), p.1)

  pub of_has_place : (b : Bool) (rows : Rows) (path : Bytes) → HasPlace b rows path → place_test b rows path ≡ true
  unfolding no_rows
  of_has_place true rows path h = ap no_rows h
  of_has_place false rows path h = λ i. not (is_some (h.0 i)) && h.1 i

-- The names below a path, with one more row.
below_more : (rows : Rows) (path : Bytes) (row : ImageNode) (q name : Bytes)
    → list_any (is_child q name) (rows ++ (path, row) ∷ []) ≡ (list_any (is_child q name) rows
    || (is_child q name (path, row) || false))
below_more rows path row q name = list_any-append (is_child q name) rows ((path, row) ∷ [])

or_false : (b : Bool) → (b || (false || false)) ≡ b
or_false true = refl
or_false false = refl

or_turned : (a b : Bool) → (a || b) ≡ (b || (a || false))
or_turned true true = refl
or_turned true false = refl
or_turned false true = refl
or_turned false false = refl

module _ (made : LoadedParts) (sessions : SessionEntries) (lists : Lists) (rows : Rows) (path : Bytes) (row : ImageNode)
    (acl : List Acl)
    (named : or_missing made.dialect (list_named lists row.acl) ≡ Some acl) (f : Fits made sessions lists rows) where
  abbrev more : Rows
  more = rows ++ (path, row) ∷ []

  abbrev fresh : Node
  fresh = node_with made.dialect row acl

  abbrev state : State
  state = made.state

  abbrev pub after : LoadedParts
  after = record made { state = with_node state path fresh }

  -- The pair at the path before.
  own_pair : finmap.get state.nodes path ≡ None → (session : ℤ)
      → set.contains (with_node state path fresh).pairs (session, path) ≡ is_owner session (Some fresh)
  own_pair none session =
      own_path state.pairs (owning_session made.dialect row.stat.ephemeral_owner) session path
      (f.state.owners session path ∙ ap (is_owner session) none)

  -- ---- the root

  module _ (root : is_root path ≡ true) (first : rows ≡ []) where
    root_child : (q name : Bytes) → is_child q name (path, row) ≡ false
    root_child q name = ap
        (λ b. not b && (eq_by_cmp path_cmp q (parent_of path) && eq_by_cmp path_cmp name (name_of path))) root

    none_yet : (q : Bytes) → finmap.get state.nodes q ≡ None
    none_yet q = is_none _ (same_some made.dialect lists rows q _ _ (f.state.nodes q)
        ∙ ap (λ (r : Rows). is_some (find path_cmp q r)) first)

    root_get : (q : Bytes) → finmap.get after.state.nodes q ≡ cond (eq_by_cmp path_cmp q path) (Some fresh) None
    root_get q =
        finmap.get-insert path_total (update_node state.nodes (parent_of path) (with_name (name_of path))) path fresh q
        ∙ ap (cond (eq_by_cmp path_cmp q path) (Some fresh))
        (ap (λ o. finmap.get (update_found state.nodes (parent_of path) (with_name (name_of path)) o) q)
        (none_yet (parent_of path)) ∙ none_yet q)

    root_find : (q : Bytes) → find path_cmp q more ≡ cond (eq_by_cmp path_cmp q path) (Some row) None
    root_find q = ap (λ (r : Rows). find path_cmp q (r ++ (path, row) ∷ [])) first

    root_below : (q name : Bytes) → list_any (is_child q name) more ≡ false
    root_below q name = below_more rows path row q name ∙ (λ i. list_any (is_child q name) (first i)
        || (root_child q name i || false))

    root_node : (q : Bytes) (b : Bool) → AreAt made.dialect lists more q (cond b (Some row) None) (cond b (Some fresh) None)
    root_node q true = record {
      bytes = refl;
      stat = refl;
      mark = refl;
      acl = named;
      children = λ name. set.contains-empty path_cmp name ∙ sym (root_below q name);
    }
    root_node q false = tt

    root_owner : (session : ℤ) (q : Bytes) (here : Bool) → eq_by_cmp path_cmp q path ≡ here
        → set.contains (with_node state path fresh).pairs (session, q) ≡ is_owner session (cond here (Some fresh) None)
    root_owner session q true h =
        ap (λ (p : Bytes). set.contains (with_node state path fresh).pairs (session, p))
        (tells_apart exact_bytes q path h)
        ∙ own_pair (none_yet path) session
    root_owner session q false h =
        other_path state.pairs (owning_session made.dialect row.stat.ephemeral_owner) session path q h
        ∙ f.state.owners session q ∙ ap (is_owner session) (none_yet q)

    root_fits : Fits after sessions lists more
    root_fits = record {
      state = record {
        timeouts = f.state.timeouts;
        nodes = λ q. subst (λ r. AreAt made.dialect lists more q r (finmap.get after.state.nodes q)) (sym (root_find q))
            (subst (AreAt made.dialect lists more q _) (sym (root_get q)) (root_node q (eq_by_cmp path_cmp q path)));
        owners = λ session q. root_owner session q (eq_by_cmp path_cmp q path) refl
            ∙ sym (ap (is_owner session) (root_get q));
      };
      table = f.table;
      closed = λ q none name. root_below q name;
    }

  -- ---- another node

  module _ (other : is_root path ≡ false) (new : find path_cmp path rows ≡ None)
      (parent : is_some (find path_cmp (parent_of path) rows) ≡ true) where
    above : (n : Node) × (finmap.get state.nodes (parent_of path) ≡ Some n)
    above = some_node made.dialect lists rows (parent_of path) _ _ (f.state.nodes (parent_of path)) parent

    none_there : finmap.get state.nodes path ≡ None
    none_there = is_none _ (same_some made.dialect lists rows path _ _ (f.state.nodes path) ∙ ap is_some new)

    abbrev raised : Node
    raised = with_name (name_of path) above.0

    child_get : (q : Bytes) → finmap.get after.state.nodes q
        ≡ cond (eq_by_cmp path_cmp q path) (Some fresh) (cond (eq_by_cmp path_cmp q (parent_of path)) (Some raised)
        (finmap.get state.nodes q))
    child_get q =
        finmap.get-insert path_total (update_node state.nodes (parent_of path) (with_name (name_of path))) path fresh q
        ∙ ap (cond (eq_by_cmp path_cmp q path) (Some fresh))
        (ap (λ o. finmap.get (update_found state.nodes (parent_of path) (with_name (name_of path)) o) q) above.1
        ∙ finmap.get-insert path_total state.nodes (parent_of path) raised q)

    child_find : (q : Bytes) → find path_cmp q more ≡ cond (eq_by_cmp path_cmp q path) (Some row) (find path_cmp q rows)
    child_find q = find-append path_cmp path_total rows path row q new

    child_below : (q name : Bytes) → list_any (is_child q name) more
        ≡ (list_any (is_child q name) rows
        || ((eq_by_cmp path_cmp q (parent_of path) && eq_by_cmp path_cmp name (name_of path)) || false))
    child_below q name =
        below_more rows path row q name
        ∙ ap (λ b. list_any (is_child q name) rows
        || ((not b && (eq_by_cmp path_cmp q (parent_of path) && eq_by_cmp path_cmp name (name_of path)))
        || false)) other

    -- A path without a row isn't the parent.
    apart : (q : Bytes) → find path_cmp q rows ≡ None → eq_by_cmp path_cmp q (parent_of path) ≡ false
    apart q none = by (eq_by_cmp path_cmp q (parent_of path)) refl
      where
        by : (b : Bool) → eq_by_cmp path_cmp q (parent_of path) ≡ b → b ≡ false
        by true e = absurd (true≢false (sym parent ∙ ap (λ (p : Bytes). is_some (find path_cmp p rows))
            (sym (tells_apart exact_bytes q (parent_of path) e)) ∙ ap is_some none))
        by false e = refl

    none_below : (q : Bytes) → find path_cmp q rows ≡ None → (name : Bytes) → list_any (is_child q name) more ≡ false
    none_below q none name = child_below q name ∙ (λ i. f.closed q none name i
        || ((apart q none i && eq_by_cmp path_cmp name (name_of path)) || false))

    parent_node : (q : Bytes) (found : Option ImageNode) → eq_by_cmp path_cmp q (parent_of path) ≡ true
        → AreAt made.dialect lists rows q found (Some above.0) → AreAt made.dialect lists more q found (Some raised)
    parent_node q None e h = absurd h
    parent_node q (Some r) e h = record {
      bytes = h.bytes;
      stat = h.stat;
      mark = h.mark;
      acl = h.acl;
      children = λ name. set.contains-insert path_total above.0.children (name_of path) name
          ∙ ap (λ t. eq_by_cmp path_cmp name (name_of path) || t) (h.children name)
          ∙ or_turned (eq_by_cmp path_cmp name (name_of path)) (list_any (is_child q name) rows)
          ∙ sym (child_below q name ∙ ap (λ t. list_any (is_child q name) rows
          || ((t && eq_by_cmp path_cmp name (name_of path)) || false)) e);
    }

    same_node : (q : Bytes) (found : Option ImageNode) (node : Option Node)
        → eq_by_cmp path_cmp q (parent_of path) ≡ false
        → AreAt made.dialect lists rows q found node → AreAt made.dialect lists more q found node
    same_node q None None e h = tt
    same_node q (Some r) (Some n) e h = record {
      bytes = h.bytes;
      stat = h.stat;
      mark = h.mark;
      acl = h.acl;
      children = λ name. h.children name ∙ sym (child_below q name
          ∙ ap (λ t. list_any (is_child q name) rows || ((t && eq_by_cmp path_cmp name (name_of path)) || false)) e
          ∙ or_false (list_any (is_child q name) rows));
    }
    same_node q None (Some n) e h = absurd h
    same_node q (Some r) None e h = absurd h

    child_node : (q : Bytes) (here up : Bool) → eq_by_cmp path_cmp q path ≡ here
        → eq_by_cmp path_cmp q (parent_of path) ≡ up
        → AreAt made.dialect lists more q (cond here (Some row) (find path_cmp q rows))
        (cond here (Some fresh) (cond up (Some raised) (finmap.get state.nodes q)))
    child_node q true up h u =
        let none : find path_cmp q rows ≡ None = ap (λ (p : Bytes). find path_cmp p rows)
        (tells_apart exact_bytes q path h) ∙ new in
        record {
          bytes = refl;
          stat = refl;
          mark = refl;
          acl = named;
          children = λ name. set.contains-empty path_cmp name
              ∙ sym (none_below q none name);
        }
    child_node q false true h u =
        let is : finmap.get state.nodes q ≡ Some above.0 = ap (finmap.get state.nodes)
        (tells_apart exact_bytes q (parent_of path) u) ∙ above.1 in
        parent_node q (find path_cmp q rows) u (subst (AreAt made.dialect lists rows q (find path_cmp q rows)) is (f.state.nodes q))
    child_node q false false h u = same_node q (find path_cmp q rows) (finmap.get state.nodes q) u (f.state.nodes q)

    child_owner : (session : ℤ) (q : Bytes) (here up : Bool) → eq_by_cmp path_cmp q path ≡ here
        → eq_by_cmp path_cmp q (parent_of path) ≡ up
        → set.contains (with_node state path fresh).pairs (session, q)
        ≡ is_owner session (cond here (Some fresh) (cond up (Some raised) (finmap.get state.nodes q)))
    child_owner session q true up h u =
        ap (λ (p : Bytes). set.contains (with_node state path fresh).pairs (session, p))
        (tells_apart exact_bytes q path h)
        ∙ own_pair none_there session
    child_owner session q false true h u =
        other_path state.pairs (owning_session made.dialect row.stat.ephemeral_owner) session path q h ∙ f.state.owners session q
        ∙ ap (λ (p : Bytes). is_owner session (finmap.get state.nodes p)) (tells_apart exact_bytes q (parent_of path) u)
        ∙ ap (is_owner session) above.1
    child_owner session q false false h u =
        other_path state.pairs (owning_session made.dialect row.stat.ephemeral_owner) session path q h ∙ f.state.owners session q

    still_none : (q : Bytes) → find path_cmp q more ≡ None → find path_cmp q rows ≡ None
    still_none q e = by (eq_by_cmp path_cmp q path) (sym (child_find q) ∙ e)
      where
        by : (b : Bool) → cond b (Some row) (find path_cmp q rows) ≡ None → find path_cmp q rows ≡ None
        by true e = absurd cc
        by false e = e

    child_fits : Fits after sessions lists more
    child_fits = record {
      state = record {
        timeouts = f.state.timeouts;
        nodes = λ q. subst (λ r. AreAt made.dialect lists more q r (finmap.get after.state.nodes q)) (sym (child_find q))
            (subst (AreAt made.dialect lists more q _) (sym (child_get q))
            (child_node q (eq_by_cmp path_cmp q path) (eq_by_cmp path_cmp q (parent_of path)) refl refl));
        owners = λ session q. child_owner session q (eq_by_cmp path_cmp q path)
            (eq_by_cmp path_cmp q (parent_of path)) refl refl
            ∙ sym (ap (is_owner session) (child_get q));
      };
      table = f.table;
      closed = λ q none name. none_below q (still_none q none) name;
    }

  pub node_fits : (b : Bool) → is_root path ≡ b → HasPlace b rows path → Fits after sessions lists more
  node_fits true e h = root_fits e h
  node_fits false e h = child_fits e h.0 h.1
