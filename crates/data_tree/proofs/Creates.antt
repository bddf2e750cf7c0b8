-- A create of a name that is taken, and one that is refused.
use Rattle.std.proofs.Common.{◌≡◌, pos, List, [], ◌∷◌, Bool, true, false, Option, Some, None, refl, ap, ◌∙◌, if◌then◌else◌, int_lt}
use Rattle.std.specs.FinMap as finmap
use Rattle.std.specs.FinSet as set
use Rattle.ephemerals.specs.Orders.{Bytes}
use Rattle.settings.specs.declared.dialect.Dialect.{Dialect}
use Rattle.settings.specs.declared.dialect.Dialect.TheVariants.{Zk34, Zk38}
use Rattle.paths_and_acls.specs.Acls.{acl_or_open}
use Rattle.paths_and_acls.specs.Paths.{parent_of, name_of}
use Rattle.txn_codec.specs.declared.txn.TxnHeader.{TxnHeader}
use Rattle.txn_codec.specs.declared.txn.Create.{Create}
use Rattle.txn_codec.specs.declared.txn.Operation.TheVariants as op
use Rattle.jute.specs.declared.codes.TheConstants.{NODE_EXISTS}
use Rattle.node_map.specs.Updates.{next_cversion, update_node, update_found}
use Rattle.node_map.specs.Children.{with_added_child, with_raised_stat, stat_after_create, added_child, without_added_child}
use Rattle.node_map.specs.declared.node.Node.{Node}
use Rattle.data_tree.specs.State.{State, Nodes}
use Rattle.data_tree.specs.Meaning.{Change, after_changes, mended_list, create_new, create_taken, create_under, of_effect, of_operation, with_children}
use Rattle.data_tree.specs.Meaning.Change.{Put}
use Rattle.data_tree.specs.Inner.Doing.{IsEffectDone}
use Rattle.data_tree.specs.Inner.Mending.{with_mended}
use Rattle.std.specs.Ordering.{int_eq}
use Rattle.data_tree.specs.declared.outcome.Trigger.{Trigger}
use Rattle.data_tree.specs.declared.outcome.Trigger.TheVariants.{Created, ChildrenChanged}
use Rattle.jute.specs.declared.stat.StatPersisted.{StatPersisted}
use Rattle.node_map.specs.declared.added_child.AddedChild.TheVariants.{Taken, Added}
use Rattle.data_tree.proofs.Lists.{nothing_more}
use Rattle.node_map.proofs.NodeUpdates.{insert_same, added_child_taken, undone}

-- What mends a node, as a change.
mended_is : (rules : Dialect) (c : Create) (s : State)
    → with_mended rules c.path (acl_or_open c.acl) s ≡ after_changes s (mended_list rules c)
mended_is Zk34 c s = refl
mended_is Zk38 c s = refl

-- A parent whose stat can only rise, and other changes after that.
with_raised_stat-is : (s : State) (h : TxnHeader) (c : Create) (path : Bytes) (parent : Node) (rest : List Change)
    → finmap.get s.nodes path ≡ Some parent
    → after_changes (let t : State =
    record {
      nodes = finmap.insert s.nodes path (with_raised_stat h c parent);
      pairs = s.pairs;
      sessions =
          s.sessions;
    } in t) rest
    ≡ after_changes s
    (if int_lt parent.stat.cversion (next_cversion parent.stat.cversion c.parent_cversion)
    then Put path (with_children parent parent.children (next_cversion parent.stat.cversion c.parent_cversion) h.zxid)
    ∷ rest else rest)
with_raised_stat-is s h c path parent rest is =
    by (int_lt parent.stat.cversion (next_cversion parent.stat.cversion c.parent_cversion))
  where
    by : (b : Bool)
        → after_changes (let t : State =
        record {
          nodes =
              finmap.insert s.nodes path
              (record parent { stat = if b then stat_after_create h c parent.stat else parent.stat });
          pairs = s.pairs;
          sessions = s.sessions;
        } in t) rest
        ≡ after_changes s
        (if b then Put path
        (with_children parent parent.children (next_cversion parent.stat.cversion c.parent_cversion) h.zxid) ∷ rest
        else rest)
    by true = refl
    by false =
        ap (λ (n : Nodes). after_changes (let t : State =
        record { nodes = n; pairs = s.pairs; sessions = s.sessions } in t) rest) (insert_same s.nodes path parent is)

pub taken-done : (s : State) (h : TxnHeader) (c : Create) (n : Nodes) (before after : List Trigger)
    → Taken ≡ added_child (finmap.get s.nodes (parent_of c.path)) (name_of c.path)
    → n ≡ update_node s.nodes (parent_of c.path) (with_added_child h c (name_of c.path)) → after ≡ before
    → IsEffectDone (of_operation h (op.Create c) s) NODE_EXISTS
    (with_mended h.rules c.path (acl_or_open c.acl)
    (let t : State = record { nodes = n; pairs = s.pairs; sessions = s.sessions } in t)) before after
taken-done s h c n before after taken is same = by (finmap.get s.nodes (parent_of c.path)) refl taken is
  where
    with_name : (parent : Node) (b : Bool) → finmap.get s.nodes (parent_of c.path) ≡ Some parent
        → set.contains parent.children (name_of c.path) ≡ b → Taken ≡ (if b then Taken else Added parent.stat)
        → n ≡ finmap.insert s.nodes (parent_of c.path) (with_added_child h c (name_of c.path) parent)
        → IsEffectDone (of_effect (if b then create_taken h c parent else create_new h c parent) s) NODE_EXISTS
        (with_mended h.rules c.path (acl_or_open c.acl)
        (let t : State = record { nodes = n; pairs = s.pairs; sessions = s.sessions } in t)) before after
    with_name parent true found e t is = record {
      state =
          mended_is h.rules c (let t : State = record { nodes = n; pairs = s.pairs; sessions = s.sessions } in t)
          ∙ ap (λ (m : Nodes). after_changes (let t : State =
          record { nodes = m; pairs = s.pairs; sessions = s.sessions } in t) (mended_list h.rules c))
          (is ∙ ap (finmap.insert s.nodes (parent_of c.path)) (added_child_taken h c (name_of c.path) parent e))
          ∙ with_raised_stat-is s h c (parent_of c.path) parent (mended_list h.rules c) found;
      err = refl;
      fired = same ∙ nothing_more before [] refl;
    }
    with_name parent false found e t is = record { state = cc; err = cc; fired = cc }

    by : (o : Option Node) → finmap.get s.nodes (parent_of c.path) ≡ o → Taken ≡ added_child o (name_of c.path)
        → n ≡ update_found s.nodes (parent_of c.path) (with_added_child h c (name_of c.path)) o
        → IsEffectDone (of_effect (create_under h c o) s) NODE_EXISTS
        (with_mended h.rules c.path (acl_or_open c.acl)
        (let t : State = record { nodes = n; pairs = s.pairs; sessions = s.sessions } in t)) before after
    by None e t is = record { state = cc; err = cc; fired = cc }
    by (Some parent) e t is = with_name parent (set.contains parent.children (name_of c.path)) e refl t is

-- A name that was added is removed again.
pub undone_child : (m : Nodes) (path name : Bytes) (h : TxnHeader) (c : Create) (stat : StatPersisted)
    → Added stat ≡ added_child (finmap.get m path) name
    → update_node (update_node m path (with_added_child h c name)) path (without_added_child name stat) ≡ m
undone_child m path name h c stat adopted = by (finmap.get m path) refl adopted
  where
    with_name : (parent : Node) (b : Bool) → finmap.get m path ≡ Some parent → set.contains parent.children name ≡ b
        → Added stat ≡ (if b then Taken else Added parent.stat)
        → update_node (update_node m path (with_added_child h c name)) path (without_added_child name stat) ≡ m
    with_name parent true found e a = cc
    with_name parent false found e a =
        let same : stat ≡ parent.stat = cc in
        ap (λ (t : StatPersisted). update_node (update_node m path (with_added_child h c name)) path
        (without_added_child name t)) same
        ∙ undone m path name h c parent found e

    by : (o : Option Node) → finmap.get m path ≡ o → Added stat ≡ added_child o name
        → update_node (update_node m path (with_added_child h c name)) path (without_added_child name stat) ≡ m
    by None e a = cc
    by (Some parent) e a = with_name parent (set.contains parent.children name) e refl a

-- A create fires at its path and at the parent, unless it fails.
pub create_fires : (h : TxnHeader) (c : Create) (o : Option Node)
    → (create_under h c o).triggers
    ≡ (if int_eq (create_under h c o).err (pos 0) then Created c.path ∷ ChildrenChanged (parent_of c.path) ∷ []
    else [])
create_fires h c None = refl
create_fires h c (Some parent) = by (set.contains parent.children (name_of c.path))
  where
    by : (b : Bool)
        → (if b then create_taken h c parent else create_new h c parent).triggers
        ≡ (if int_eq (if b then create_taken h c parent else create_new h c parent).err (pos 0) then
        Created c.path ∷ ChildrenChanged (parent_of c.path) ∷ [] else [])
    by true = refl
    by false = refl
