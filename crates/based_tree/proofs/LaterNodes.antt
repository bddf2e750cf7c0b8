-- The nodes that are newer than a zxid, and the operations that leave no other node where there was none.
use Rattle.std.proofs.Common.{◌≡◌, ℤ, pos, List, [], ◌∷◌, Bool, true, false, not, cond, ◌||◌, ◌==◌, int_lt, length, Option, Some, None, is_some, refl, sym, ap, ◌∙◌, if◌then◌else◌}
use Rattle.std.specs.Ordering.{eq_by_cmp, int_eq}
use Rattle.std.specs.FinMap as finmap
use Rattle.std.specs.FinSet as set
use Rattle.std.proofs.lemmas.Map.Lookups.{exact_bytes}
use Rattle.std.proofs.lemmas.Map.Views.{tells_apart}
use mathlib.Core.Bool.{true≢false}
use Rattle.ephemerals.specs.Orders.{Bytes, path_cmp}
use Rattle.ephemerals.proofs.Totals.{path_total}
use Rattle.settings.specs.declared.dialect.Dialect.{Dialect}
use Rattle.settings.specs.declared.dialect.Dialect.TheVariants.{Zk34, Zk38}
use Rattle.jute.specs.declared.owned.Acl.{Acl}
use Rattle.paths_and_acls.specs.Paths.{parent_of, name_of}
use Rattle.txn_codec.specs.declared.txn.TxnHeader.{TxnHeader}
use Rattle.txn_codec.specs.declared.txn.Create.{Create}
use Rattle.txn_codec.specs.declared.txn.SetData.{SetData}
use Rattle.txn_codec.specs.declared.txn.Operation.{Operation}
use Rattle.txn_codec.specs.declared.txn.Operation.TheVariants as op
use Rattle.txn_codec.specs.declared.txn.Owner.{Owner}
use Rattle.txn_codec.specs.declared.txn.Owner.TheVariants.{Nobody, Client, Container, Ttl}
use Rattle.node_map.specs.declared.node.Node.{Node}
use Rattle.node_map.specs.Children.{stat_with_child, stat_after_create}
use Rattle.node_map.specs.Updates.{next_cversion, owner_of, counts_by, new_node, with_data, with_missing_acl, update_found}
use Rattle.node_map.proofs.MovedNodes.{get-kept}
use Rattle.data_tree.specs.State.{State, Nodes}
use Rattle.data_tree.specs.Meaning.{after_changes, effect_of, create_under, create_taken, create_new, with_children, mended_list, gained_pair, set_data_at}
use Rattle.data_tree.specs.Meaning.Change.{Put, Own}
use Rattle.data_tree.specs.Footprint.{IsSameCell}
use Rattle.based_tree.specs.Inner.{is_newer, unless_newer, is_one_newer, without_newer, is_ephemeral_owner, is_quiet_operation}

-- ---- a node that isn't newer

pub unless-not : (z : ℤ) (o : Option Node) → is_one_newer z o ≡ false → unless_newer z o ≡ o
unless-not z None e = refl
unless-not z (Some n) e = ap (λ b. if b then None else Some n) e

pub unless-newer : (z : ℤ) (n : Node) → is_newer z n ≡ true → unless_newer z (Some n) ≡ None
unless-newer z n e = ap (λ b. if b then None else Some n) e

pub newer-if : (z : ℤ) (n : Node) → unless_newer z (Some n) ≡ None → is_newer z n ≡ true
newer-if z n e = by (is_newer z n) e
  where
    by : (b : Bool) → (if b then None else Some n) ≡ None → b ≡ true
    by true e = refl
    by false e = absurd (true≢false (ap is_some e))

-- What is at a path without the newer nodes.
pub get-older : (z : ℤ) (s : State) (q : Bytes)
    → finmap.get (without_newer z s).nodes q ≡ unless_newer z (finmap.get s.nodes q)
get-older z s q =
    get-kept s.nodes (λ (path : Bytes). is_some (unless_newer z (finmap.get s.nodes path))) q
    ∙ by (finmap.get s.nodes q)
  where
    by : (o : Option Node) → cond (is_some (unless_newer z o)) o None ≡ unless_newer z o
    by None = refl
    by (Some n) = newer (is_newer z n)
      where
        newer : (b : Bool)
            → cond (is_some (if b then None else Some n)) (Some n) None ≡ (if b then None else Some n)
        newer true = refl
        newer false = refl

pub older-same : (z : ℤ) (s t : State) (q : Bytes) → IsSameCell s t q
    → IsSameCell (without_newer z s) (without_newer z t) q
older-same z s t q e = record {
  node = get-older z s q ∙ ap (unless_newer z) e.node ∙ sym (get-older z t q);
  owners = e.owners;
}

-- ---- where the base has no node

abbrev IsAbsent : ℤ → Nodes → Bytes → Type 0
IsAbsent z nodes q = unless_newer z (finmap.get nodes q) ≡ None

-- A node is put that is newer, at least where there was no older one.
put-if : (z : ℤ) (nodes : Nodes) (p : Bytes) (node : Node) (q : Bytes)
    → (IsAbsent z nodes p → is_newer z node ≡ true) → IsAbsent z nodes q → IsAbsent z (finmap.insert nodes p node) q
put-if z nodes p node q newer absent =
    ap (unless_newer z) (finmap.get-insert path_total nodes p node q) ∙ by (eq_by_cmp path_cmp q p) refl
  where
    by : (b : Bool) → eq_by_cmp path_cmp q p ≡ b → unless_newer z (cond b (Some node) (finmap.get nodes q)) ≡ None
    by true t =
        unless-newer z node
        (newer (ap (λ (x : Bytes). unless_newer z (finmap.get nodes x)) (sym (tells_apart exact_bytes q p t)) ∙ absent))
    by false t = absent

or_first : (a b c : Bool) → a ≡ true → (a || (b || c)) ≡ true
or_first true b c e = refl
or_first false b c e = absurd (true≢false (sym e))

or_second : (a b c : Bool) → b ≡ true → (a || (b || c)) ≡ true
or_second true b c e = refl
or_second false true c e = refl
or_second false false c e = absurd (true≢false (sym e))

or_third : (a b c : Bool) → c ≡ true → (a || (b || c)) ≡ true
or_third true b c e = refl
or_third false true c e = refl
or_third false false c e = e

-- ---- operations

mended_newer : (z : ℤ) (acl : List Acl) (n : Node) → is_newer z n ≡ true → is_newer z (with_missing_acl acl n) ≡ true
mended_newer z acl n e = by (length n.acl == 0)
  where
    by : (b : Bool) → is_newer z (if b then record n { acl = acl } else n) ≡ true
    by true = e
    by false = e

mended_stays : (z : ℤ) (rules : Dialect) (c : Create) (s : State) (q : Bytes) → IsAbsent z s.nodes q
    → IsAbsent z (after_changes s (mended_list rules c)).nodes q
mended_stays z Zk34 c s q absent = absent
mended_stays z Zk38 c s q absent = by _ (finmap.get s.nodes c.path) refl
  where
    by : (acl : List Acl) (o : Option Node) → finmap.get s.nodes c.path ≡ o
        → IsAbsent z (update_found s.nodes c.path (with_missing_acl acl) o) q
    by acl None is = absent
    by acl (Some n) is =
        put-if z s.nodes c.path (with_missing_acl acl n) q
        (λ gone. mended_newer z acl n (newer-if z n (sym (ap (unless_newer z) is) ∙ gone))) absent

taken_stays : (z : ℤ) (h : TxnHeader) (c : Create) (parent : Node) (s : State) (q : Bytes)
    → int_lt z h.zxid ≡ true → IsAbsent z s.nodes q → IsAbsent z (after_changes s (create_taken h c parent).changes).nodes q
taken_stays z h c parent s q later absent =
    by (int_lt parent.stat.cversion (next_cversion parent.stat.cversion c.parent_cversion))
  where
    raised : Node
    raised = with_children parent parent.children (next_cversion parent.stat.cversion c.parent_cversion) h.zxid

    by : (b : Bool)
        → IsAbsent z (after_changes s (if b then Put (parent_of c.path) raised ∷ mended_list h.rules c
        else mended_list h.rules c)).nodes q
    by true =
        mended_stays z h.rules c (record s { nodes = finmap.insert s.nodes (parent_of c.path) raised }) q
        (put-if z s.nodes (parent_of c.path) raised q
        (λ gone. or_third (int_lt z raised.stat.czxid) (int_lt z raised.stat.mzxid) (int_lt z h.zxid) later) absent)
    by false = mended_stays z h.rules c s q absent

with_child_newer : (z : ℤ) (h : TxnHeader) (c : Create) (names : set.FinSet path_cmp) (parent : Node)
    → int_lt z h.zxid ≡ true → is_newer z parent ≡ true
    → is_newer z (record parent { children = names; stat = stat_with_child h c parent.stat }) ≡ true
with_child_newer z h c names parent later newer =
    by (counts_by h.rules parent.stat.cversion (next_cversion parent.stat.cversion c.parent_cversion))
  where
    by : (b : Bool)
        → is_newer z (record parent {
          children = names;
          stat = if b then stat_after_create h c parent.stat else parent.stat;
        }) ≡ true
    by true = or_third (int_lt z parent.stat.czxid) (int_lt z parent.stat.mzxid) (int_lt z h.zxid) later
    by false = newer

gained_nodes : (owner : ℤ) (path : Bytes) (s : State) → (after_changes s (gained_pair owner path)).nodes ≡ s.nodes
gained_nodes owner path s = by (int_eq owner (pos 0))
  where
    by : (b : Bool) → (after_changes s (if b then [] else Own owner path ∷ [])).nodes ≡ s.nodes
    by true = refl
    by false = refl

new_stays : (z : ℤ) (h : TxnHeader) (c : Create) (parent : Node) (s : State) (q : Bytes)
    → finmap.get s.nodes (parent_of c.path) ≡ Some parent → int_lt z h.zxid ≡ true → IsAbsent z s.nodes q
    → IsAbsent z (after_changes s (create_new h c parent).changes).nodes q
new_stays z h c parent s q is later absent =
    let after : Node = record parent {
      children = set.insert parent.children (name_of c.path);
      stat = stat_with_child h c parent.stat;
    } in
    let first = finmap.insert s.nodes (parent_of c.path) after in
    let both = finmap.insert first c.path (new_node h c) in
    ap (λ (nodes : Nodes). unless_newer z (finmap.get nodes q))
    (gained_nodes (owner_of h c.owner) c.path (record s { nodes = both }))
    ∙ put-if z first c.path (new_node h c) q
    (λ gone. or_first (int_lt z h.zxid) (int_lt z h.zxid) (int_lt z h.zxid) later)
    (put-if z s.nodes (parent_of c.path) after q
    (λ gone. with_child_newer z h c (set.insert parent.children (name_of c.path)) parent later
    (newer-if z parent (sym (ap (unless_newer z) is) ∙ gone)))
    absent)

create_stays : (z : ℤ) (h : TxnHeader) (c : Create) (s : State) (q : Bytes) → int_lt z h.zxid ≡ true
    → IsAbsent z s.nodes q → (o : Option Node) → finmap.get s.nodes (parent_of c.path) ≡ o
    → IsAbsent z (after_changes s (create_under h c o).changes).nodes q
create_stays z h c s q later absent None is = absent
create_stays z h c s q later absent (Some parent) is = by (set.contains parent.children (name_of c.path))
  where
    by : (b : Bool)
        → IsAbsent z (after_changes s (if b then create_taken h c parent else create_new h c parent).changes).nodes q
    by true = taken_stays z h c parent s q later absent
    by false = new_stays z h c parent s q is later absent

set_data_stays : (z : ℤ) (h : TxnHeader) (b : SetData) (s : State) (q : Bytes) → int_lt z h.zxid ≡ true
    → IsAbsent z s.nodes q → (o : Option Node) → IsAbsent z (after_changes s (set_data_at h b o).changes).nodes q
set_data_stays z h b s q later absent None = absent
set_data_stays z h b s q later absent (Some node) =
    put-if z s.nodes b.path (with_data h b node) q
    (λ gone. or_second (int_lt z node.stat.czxid) (int_lt z h.zxid) (int_lt z node.stat.pzxid) later) absent

-- Where the base has no node, it has none after a later operation of this kind.
pub stays : (z : ℤ) (h : TxnHeader) (o : Operation) (s : State) (q : Bytes) → is_quiet_operation o ≡ true
    → int_lt z h.zxid ≡ true → unless_newer z (finmap.get s.nodes q) ≡ None
    → unless_newer z (finmap.get (after_changes s (effect_of h o s.nodes).changes).nodes q) ≡ None
stays z h (op.Create c) s q quiet later absent =
    create_stays z h c s q later absent (finmap.get s.nodes (parent_of c.path)) refl
stays z h (op.SetData b) s q quiet later absent =
    set_data_stays z h b s q later absent (finmap.get s.nodes b.path)
stays z h (op.Delete d) s q quiet later absent = absurd (true≢false (sym quiet))
stays z h (op.Check b) s q quiet later absent = absent
stays z h (op.Error e) s q quiet later absent = absent

-- ---- the sessions' paths

mended_pairs : (rules : Dialect) (c : Create) (s : State) → (after_changes s (mended_list rules c)).pairs ≡ s.pairs
mended_pairs Zk34 c s = refl
mended_pairs Zk38 c s = refl

gained_none : (h : TxnHeader) (owner : Owner) (path : Bytes) (s : State) → not (is_ephemeral_owner owner) ≡ true
    → (after_changes s (gained_pair (owner_of h owner) path)).pairs ≡ s.pairs
gained_none h Client path s quiet = absurd (true≢false (sym quiet))
gained_none h Nobody path s quiet = refl
gained_none h Container path s quiet = refl
gained_none h (Ttl milliseconds) path s quiet = refl

taken_pairs : (h : TxnHeader) (c : Create) (parent : Node) (s : State)
    → (after_changes s (create_taken h c parent).changes).pairs ≡ s.pairs
taken_pairs h c parent s =
    by (int_lt parent.stat.cversion (next_cversion parent.stat.cversion c.parent_cversion))
  where
    raised : Node
    raised = with_children parent parent.children (next_cversion parent.stat.cversion c.parent_cversion) h.zxid

    by : (b : Bool)
        → (after_changes s (if b then Put (parent_of c.path) raised ∷ mended_list h.rules c
        else mended_list h.rules c)).pairs ≡ s.pairs
    by true = mended_pairs h.rules c (record s { nodes = finmap.insert s.nodes (parent_of c.path) raised })
    by false = mended_pairs h.rules c s

create_pairs : (h : TxnHeader) (c : Create) (s : State) → not (is_ephemeral_owner c.owner) ≡ true → (o : Option Node)
    → (after_changes s (create_under h c o).changes).pairs ≡ s.pairs
create_pairs h c s quiet None = refl
create_pairs h c s quiet (Some parent) = by (set.contains parent.children (name_of c.path))
  where
    by : (b : Bool)
        → (after_changes s (if b then create_taken h c parent else create_new h c parent).changes).pairs ≡ s.pairs
    by true = taken_pairs h c parent s
    by false = gained_none h c.owner c.path _ quiet

set_data_pairs : (h : TxnHeader) (b : SetData) (s : State) (o : Option Node)
    → (after_changes s (set_data_at h b o).changes).pairs ≡ s.pairs
set_data_pairs h b s None = refl
set_data_pairs h b s (Some node) = refl

-- It changes no session's paths.
pub pairs-stay : (h : TxnHeader) (o : Operation) (s : State) → is_quiet_operation o ≡ true
    → (after_changes s (effect_of h o s.nodes).changes).pairs ≡ s.pairs
pairs-stay h (op.Create c) s quiet = create_pairs h c s quiet (finmap.get s.nodes (parent_of c.path))
pairs-stay h (op.SetData b) s quiet = set_data_pairs h b s (finmap.get s.nodes b.path)
pairs-stay h (op.Delete d) s quiet = absurd (true≢false (sym quiet))
pairs-stay h (op.Check b) s quiet = refl
pairs-stay h (op.Error e) s quiet = refl
