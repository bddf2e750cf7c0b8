-- Transactions and inserted nodes keep paths and names valid.
use Rattle.std.proofs.Common.{◌≡◌, Bool, true, false, ◌||◌, ◌&&◌, ◌==◌, not, List, [], ◌∷◌, Option, Some, None, refl, sym, ap, ◌∙◌, if◌then◌else◌, int_lt, length, ℤ, pos, codes}
use Rattle.std.proofs.lemmas.Bool.{eqb-true}
use Rattle.std.specs.Ordering.{int_eq}
use Rattle.std.specs.List.{AllByRecursion}
use Rattle.std.specs.FinMap as finmap
use Rattle.std.specs.FinSet as set
use Rattle.ephemerals.specs.Orders.{Bytes, path_cmp, sorted_names}
use Rattle.settings.specs.declared.dialect.Dialect.{Dialect}
use Rattle.settings.specs.declared.dialect.Dialect.TheVariants.{Zk34, Zk38}
use Rattle.jute.specs.declared.owned.Acl.{Acl}
use Rattle.paths_and_acls.specs.Paths.{is_path, is_child_path, is_root, parent_of, name_of}
use Rattle.txn_codec.specs.Parents.{HasParent, HaveParents}
use Rattle.txn_codec.specs.declared.txn.TxnHeader.{TxnHeader}
use Rattle.txn_codec.specs.declared.txn.Create.{Create}
use Rattle.txn_codec.specs.declared.txn.SetData.{SetData}
use Rattle.txn_codec.specs.declared.txn.SetAcl.{SetAcl}
use Rattle.txn_codec.specs.declared.txn.Operation.{Operation}
use Rattle.txn_codec.specs.declared.txn.Operation.TheVariants as op
use Rattle.txn_codec.specs.declared.txn.Body.{Body}
use Rattle.txn_codec.specs.declared.txn.Body.TheVariants as body
use Rattle.node_map.specs.Updates.{next_cversion, owner_of, preset_node, with_name, with_missing_acl, update_found, update_node}
use Rattle.node_map.specs.Agreement.{has_node, AreChildNames}
use Rattle.node_map.specs.declared.node.Node.{Node}
use Rattle.node_map.proofs.Links.{each_of_all}
use Rattle.node_map.proofs.Naming.{name_is, IsNamed, EachIsNamed, each_with, each_without, names_with, names_without, no_names}
use Rattle.data_tree.specs.State.{State, Nodes}
use Rattle.txn_codec.specs.Row.{has_error}
use Rattle.data_tree.specs.Meaning.{Change, after_change, after_changes, effect_of, create_under, create_taken, create_new, with_children, mended_list, gained_pair, delete_missing, delete_at, lost_pair, set_data_at, set_acl_at, of_parts, of_multi, of_failed, delete_operations, ended_paths, state_without_session, effect_of_body, fresh_state}
use Rattle.data_tree.specs.Meaning.Change.{Put, Remove, Own, Disown, Mend}
use Rattle.data_tree.specs.Making.{with_node, with_node_in_place}

or-true : (b : Bool) → (b || true) ≡ true
or-true true = refl
or-true false = refl

child_is_path : (path : Bytes) → is_child_path path ≡ true → is_path path ≡ true
child_is_path path is = ap (λ (v : Bool). is_root path || v) is ∙ or-true (is_root path)

-- ---- changes

abbrev IsFine : Change → Type 0
IsFine (Put path node) = IsNamed path node
IsFine (Remove path) = Unit {0}
IsFine (Own session path) = Unit {0}
IsFine (Disown session path) = Unit {0}
IsFine (Mend path acl) = Unit {0}

abbrev AreFine : List Change → Type 0
AreFine changes = AllByRecursion IsFine changes

with_list : (path : Bytes) (acl : List Acl) (node : Node) → IsNamed path node
    → IsNamed path (with_missing_acl acl node)
with_list path acl node named = by (length node.acl == 0)
  where
    by : (b : Bool) → IsNamed path (if b then record node { acl = acl } else node)
    by true = record { right = named.right; names = named.names }
    by false = named

mended_keeps : (nodes : Nodes) (path : Bytes) (acl : List Acl) → EachIsNamed nodes
    → EachIsNamed (update_node nodes path (with_missing_acl acl))
mended_keeps nodes path acl each = by (finmap.get nodes path) refl
  where
    by : (o : Option Node) → finmap.get nodes path ≡ o → EachIsNamed (update_found nodes path (with_missing_acl acl) o)
    by None is = each
    by (Some node) is =
        each_with nodes path (with_missing_acl acl node) each (with_list path acl node (each path node is))

after_one : (s : State) (change : Change) → IsFine change → EachIsNamed s.nodes
    → EachIsNamed (after_change s change).nodes
after_one s (Put path node) fine each = each_with s.nodes path node each fine
after_one s (Remove path) fine each = each_without s.nodes path each
after_one s (Own session path) fine each = each
after_one s (Disown session path) fine each = each
after_one s (Mend path acl) fine each = mended_keeps s.nodes path acl each

after_all : (s : State) (changes : List Change) → AreFine changes → EachIsNamed s.nodes
    → EachIsNamed (after_changes s changes).nodes
after_all s [] fine each = each
after_all s (c ∷ cs) fine each = after_all (after_change s c) cs fine.1 (after_one s c fine.0 each)

-- ---- operations

-- A created path has a parent.
abbrev Makes : Operation → Type 0
Makes (op.Create c) = is_child_path c.path ≡ true
Makes (op.Delete d) = Unit {0}
Makes (op.SetData b) = Unit {0}
Makes (op.Check b) = Unit {0}
Makes (op.Error e) = Unit {0}

gained_fine : (owner : ℤ) (path : Bytes) → AreFine (gained_pair owner path)
gained_fine owner path = by (int_eq owner (pos 0))
  where
    by : (b : Bool) → AreFine (if b then [] else Own owner path ∷ [])
    by true = tt
    by false = (tt, tt)

lost_fine : (owner : ℤ) (path : Bytes) → AreFine (lost_pair owner path)
lost_fine owner path = by (int_eq owner (pos 0))
  where
    by : (b : Bool) → AreFine (if b then [] else Disown owner path ∷ [])
    by true = tt
    by false = (tt, tt)

mended_fine : (rules : Dialect) (c : Create) → AreFine (mended_list rules c)
mended_fine Zk34 c = tt
mended_fine Zk38 c = (tt, tt)

taken_fine : (h : TxnHeader) (c : Create) (parent : Node) → IsNamed (parent_of c.path) parent
    → AreFine (create_taken h c parent).changes
taken_fine h c parent named =
    by (int_lt parent.stat.cversion (next_cversion parent.stat.cversion c.parent_cversion))
  where
    by : (b : Bool)
        → AreFine (if b then Put (parent_of c.path)
        (with_children parent parent.children (next_cversion parent.stat.cversion c.parent_cversion) h.zxid)
        ∷ mended_list h.rules c
        else mended_list h.rules c)
    by true = (record { right = named.right; names = named.names }, mended_fine h.rules c)
    by false = mended_fine h.rules c

new_fine : (h : TxnHeader) (c : Create) (parent : Node) → is_child_path c.path ≡ true
    → IsNamed (parent_of c.path) parent → AreFine (create_new h c parent).changes
new_fine h c parent makes named = (
  record {
    right = named.right;
    names = names_with parent.children (name_of c.path) named.names (name_is c.path makes);
  },
  (record { right = child_is_path c.path makes; names = no_names }, gained_fine (owner_of h c.owner) c.path),
)

create_fine : (h : TxnHeader) (c : Create) (nodes : Nodes) → is_child_path c.path ≡ true → EachIsNamed nodes
    → (o : Option Node) → finmap.get nodes (parent_of c.path) ≡ o → AreFine (create_under h c o).changes
create_fine h c nodes makes each None is = tt
create_fine h c nodes makes each (Some parent) is = by (set.contains parent.children (name_of c.path))
  where
    by : (b : Bool) → AreFine (if b then create_taken h c parent else create_new h c parent).changes
    by true = taken_fine h c parent (each (parent_of c.path) parent is)
    by false = new_fine h c parent makes (each (parent_of c.path) parent is)

missing_fine : (rules : Dialect) (h : TxnHeader) (path : Bytes) (nodes : Nodes) → EachIsNamed nodes → (p : Option Node)
    → finmap.get nodes (parent_of path) ≡ p → AreFine (delete_missing rules h path p).changes
missing_fine Zk34 h path nodes each p is = tt
missing_fine Zk38 h path nodes each None is = tt
missing_fine Zk38 h path nodes each (Some parent) is = (
  record {
    right = (each (parent_of path) parent is).right;
    names = (each (parent_of path) parent is).names;
  },
  tt,
)

delete_fine : (h : TxnHeader) (path : Bytes) (nodes : Nodes) → EachIsNamed nodes → (o p : Option Node)
    → finmap.get nodes (parent_of path) ≡ p → AreFine (delete_at h path o p).changes
delete_fine h path nodes each None p is = missing_fine h.rules h path nodes each p is
delete_fine h path nodes each (Some node) None is = (tt, tt)
delete_fine h path nodes each (Some node) (Some parent) is = (
  tt,
  (
    record {
      right = (each (parent_of path) parent is).right;
      names = names_without parent.children (name_of path) (each (parent_of path) parent is).names;
    },
    lost_fine node.stat.ephemeral_owner path,
  ),
)

set_data_fine : (h : TxnHeader) (b : SetData) (nodes : Nodes) → EachIsNamed nodes → (o : Option Node)
    → finmap.get nodes b.path ≡ o → AreFine (set_data_at h b o).changes
set_data_fine h b nodes each None is = tt
set_data_fine h b nodes each (Some node) is =
    (record { right = (each b.path node is).right; names = (each b.path node is).names }, tt)

set_acl_fine : (b : SetAcl) (nodes : Nodes) → EachIsNamed nodes → (o : Option Node) → finmap.get nodes b.path ≡ o
    → AreFine (set_acl_at b o).changes
set_acl_fine b nodes each None is = tt
set_acl_fine b nodes each (Some node) is =
    (record { right = (each b.path node is).right; names = (each b.path node is).names }, tt)

effect_fine : (h : TxnHeader) (o : Operation) (nodes : Nodes) → Makes o → EachIsNamed nodes
    → AreFine (effect_of h o nodes).changes
effect_fine h (op.Create c) nodes makes each =
    create_fine h c nodes makes each (finmap.get nodes (parent_of c.path)) refl
effect_fine h (op.Delete d) nodes makes each =
    delete_fine h d.path (finmap.remove nodes d.path) (each_without nodes d.path each) (finmap.get nodes d.path)
    (finmap.get (finmap.remove nodes d.path) (parent_of d.path)) refl
effect_fine h (op.SetData b) nodes makes each = set_data_fine h b nodes each (finmap.get nodes b.path) refl
effect_fine h (op.Check b) nodes makes each = tt
effect_fine h (op.Error e) nodes makes each = tt

-- ---- transactions

parts_keep : (h : TxnHeader) (os : List Operation) → AllByRecursion Makes os → (s : State) → EachIsNamed s.nodes
    → EachIsNamed (of_parts h os s).state.nodes
parts_keep h [] makes s each = each
parts_keep h (o ∷ os) makes s each =
    parts_keep h os makes.1 (after_changes s (effect_of h o s.nodes).changes)
    (after_all s (effect_of h o s.nodes).changes (effect_fine h o s.nodes makes.0 each) each)

delete_makes : (paths : List Bytes) → AllByRecursion Makes (delete_operations paths)
delete_makes [] = tt
delete_makes (p ∷ ps) = (tt, delete_makes ps)

makes_of : (o : Operation) → HasParent o → Makes o
makes_of (op.Create c) has = has
makes_of (op.Delete d) has = tt
makes_of (op.SetData b) has = tt
makes_of (op.Check b) has = tt
makes_of (op.Error e) has = tt

each_makes : (os : List Operation) → AllByRecursion HasParent os → AllByRecursion Makes os
each_makes [] all = tt
each_makes (o ∷ os) all = (makes_of o all.0, each_makes os all.1)

multi_keeps : (h : TxnHeader) (os : List Operation) → AllByRecursion Makes os → (s : State) → EachIsNamed s.nodes
    → EachIsNamed (of_multi h os s).state.nodes
multi_keeps h os makes s each = by (has_error os)
  where
    by : (b : Bool) → EachIsNamed (if b then of_failed os s else of_parts h os s).state.nodes
    by true = each
    by false = parts_keep h os makes s each

pub body_keeps : (h : TxnHeader) (b : Body) (s : State) → HaveParents b → EachIsNamed s.nodes
    → EachIsNamed (effect_of_body h b s).state.nodes
body_keeps h (body.Single o) s has each =
    after_all s (effect_of h o s.nodes).changes (effect_fine h o s.nodes (makes_of o has) each) each
body_keeps h (body.SetAcl b) s has each =
    after_all s (set_acl_at b (finmap.get s.nodes b.path)).changes
    (set_acl_fine b s.nodes each (finmap.get s.nodes b.path) refl) each
body_keeps h (body.Multi os) s has each = multi_keeps h os (each_makes os (each_of_all HasParent os has)) s each
body_keeps h (body.CreateSession timeout) s has each = each
body_keeps h (body.CloseSession listed) s has each =
    parts_keep h (delete_operations (sorted_names (ended_paths h.client_id listed s)))
    (delete_makes (sorted_names (ended_paths h.client_id listed s))) (state_without_session h.client_id s) each

-- ---- nodes that are inserted

listed_keeps : (nodes : Nodes) (path : Bytes) → is_child_path path ≡ true → EachIsNamed nodes
    → (o : Option Node) → finmap.get nodes (parent_of path) ≡ o
    → EachIsNamed (update_found nodes (parent_of path) (with_name (name_of path)) o)
listed_keeps nodes path child each None is = each
listed_keeps nodes path child each (Some parent) is =
    each_with nodes (parent_of path) (with_name (name_of path) parent) each
    (record {
      right = (each (parent_of path) parent is).right;
      names = names_with parent.children (name_of path) (each (parent_of path) parent is).names (name_is path child);
    })

unlisted_keeps : (nodes : Nodes) (path : Bytes) (f : Node → Node) → finmap.len nodes ≡ 0 → EachIsNamed nodes
    → (o : Option Node) → finmap.get nodes (parent_of path) ≡ o → EachIsNamed (update_found nodes (parent_of path) f o)
unlisted_keeps nodes path f none each None is = each
unlisted_keeps nodes path f none each (Some parent) is =
    let nothing : finmap.get nodes (parent_of path) ≡ None =
    ap (λ (m : Nodes). finmap.get m (parent_of path)) (finmap.empty_of_len nodes none)
    ∙ finmap.get-empty path_cmp (parent_of path) in
    cc

pub node_keeps : (s : State) (path : Bytes) (node : Node) → is_path path ≡ true → AreChildNames node.children
    → EachIsNamed s.nodes → EachIsNamed (with_node_in_place s path node).nodes
node_keeps s path node right names each = by (is_root path) refl right
  where
    placed : EachIsNamed (update_node s.nodes (parent_of path) (with_name (name_of path)))
        → (b : Bool) → EachIsNamed (if b then with_node s path node else s).nodes
    placed listed true = each_with _ path node listed (record { right = right; names = names })
    placed listed false = each

    root : (b : Bool) → b ≡ (finmap.len s.nodes == 0) → EachIsNamed (if b then with_node s path node else s).nodes
    root true here =
        placed (unlisted_keeps s.nodes path (with_name (name_of path)) (eqb-true _ _ (sym here)) each
        (finmap.get s.nodes (parent_of path)) refl) true
    root false here = each

    by : (r : Bool) → is_root path ≡ r → (r || is_child_path path) ≡ true
        → EachIsNamed (if (if r then finmap.len s.nodes == 0
        else (not (has_node s.nodes path) && has_node s.nodes (parent_of path)))
        then with_node s path node else s).nodes
    by true is fine = root (finmap.len s.nodes == 0) refl
    by false is child =
        placed (listed_keeps s.nodes path child each (finmap.get s.nodes (parent_of path)) refl)
        (not (has_node s.nodes path) && has_node s.nodes (parent_of path))

-- ---- the fresh tree

nowhere_named : EachIsNamed finmap.empty
nowhere_named path node is =
    let nothing : finmap.get (finmap.empty {X = Node} {R = path_cmp}) path ≡ None = finmap.get-empty path_cmp path in
    cc

pub fresh_named : EachIsNamed fresh_state.nodes
fresh_named =
    each_with _ (codes "/zookeeper/quota") (preset_node set.empty)
    (each_with _ (codes "/zookeeper") (preset_node (set.insert set.empty (codes "quota")))
    (each_with finmap.empty (codes "/") (preset_node (set.insert set.empty (codes "zookeeper"))) nowhere_named
    (record { right = refl; names = names_with set.empty (codes "zookeeper") no_names refl }))
    (record { right = refl; names = names_with set.empty (codes "quota") no_names refl }))
    (record { right = refl; names = no_names })
