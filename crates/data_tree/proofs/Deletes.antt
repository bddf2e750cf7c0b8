-- The state that a delete leaves.
use Rattle.std.proofs.Common.{◌≡◌, pos, if◌then◌else◌, List, [], ◌∷◌, ◌++◌, Bool, true, false, cond, Option, Some, None, is_some, refl, sym, ap, ◌∙◌}
use mathlib.Core.Bool.{true≢false}
use Rattle.std.specs.Ordering.{eq_by_cmp, int_eq}
use Rattle.std.proofs.lemmas.Map.Lookups.{exact_bytes}
use Rattle.std.proofs.lemmas.Map.Views.{tells_apart}
use Rattle.std.specs.FinMap as finmap
use Rattle.ephemerals.specs.Orders.{Bytes, OwnerPairs, path_cmp}
use Rattle.ephemerals.specs.Pairs.{without_pair}
use Rattle.settings.specs.declared.dialect.Dialect.{Dialect}
use Rattle.settings.specs.declared.dialect.Dialect.TheVariants.{Zk34, Zk38}
use Rattle.paths_and_acls.specs.Paths.{parent_of, name_of}
use Rattle.jute.specs.declared.codes.TheConstants.{NO_NODE}
use Rattle.txn_codec.specs.declared.txn.TxnHeader.{TxnHeader}
use Rattle.node_map.specs.Updates.{update_node, update_found}
use Rattle.node_map.specs.Children.{without_child, without_missing_child}
use Rattle.node_map.specs.declared.node.Node.{Node}
use Rattle.data_tree.specs.State.{State, Nodes}
use Rattle.data_tree.specs.Meaning.{Effect, after_changes, delete_missing, delete_at, delete_of, of_operation}
use Rattle.data_tree.specs.Inner.Doing.{IsEffectDone}
use Rattle.data_tree.specs.Inner.Mending.{with_missing}
use Rattle.data_tree.specs.declared.outcome.Trigger.{Trigger}
use Rattle.data_tree.specs.declared.outcome.Trigger.TheVariants.{Deleted, ChildrenChanged}
use Rattle.ephemerals.proofs.Totals.{path_total}
use Rattle.data_tree.proofs.Lists.{nothing_more}
use Rattle.data_tree.proofs.UndonePairs.{after_changes-lost_pair}

remove_absent : (m : Nodes) (path : Bytes) → finmap.get m path ≡ None → finmap.remove m path ≡ m
remove_absent m path none =
    finmap.same_map path_total exact_bytes _ _
    (λ q. finmap.get-remove path_total m path q ∙ by q (eq_by_cmp path_cmp q path) refl)
  where
    by : (q : Bytes) (b : Bool) → eq_by_cmp path_cmp q path ≡ b → cond b None (finmap.get m q) ≡ finmap.get m q
    by q true e = sym none ∙ ap (finmap.get m) (sym (tells_apart exact_bytes q path e))
    by q false e = refl

abbrev effect : State → TxnHeader → Bytes → Effect
effect s h path = delete_at h path (finmap.get s.nodes path) (finmap.get (finmap.remove s.nodes path) (parent_of path))

-- What a delete does that finds no node, as changes.
missing_is : (rules : Dialect) (h : TxnHeader) (path : Bytes) (s : State)
    → with_missing rules h path s
    ≡ after_changes s (delete_missing rules h path (finmap.get s.nodes (parent_of path))).changes
missing_is Zk34 h path s = refl
missing_is Zk38 h path s = by (finmap.get s.nodes (parent_of path))
  where
    by : (o : Option Node)
        → (let t : State = record s { nodes = update_found s.nodes (parent_of path) (without_missing_child h) o } in t)
        ≡ after_changes s (delete_missing Zk38 h path o).changes
    by None = refl
    by (Some parent) = refl

missing_err : (rules : Dialect) (h : TxnHeader) (path : Bytes) (o : Option Node)
    → NO_NODE ≡ (delete_missing rules h path o).err
missing_err Zk34 h path o = refl
missing_err Zk38 h path None = refl
missing_err Zk38 h path (Some parent) = refl

missing_fires : (rules : Dialect) (h : TxnHeader) (path : Bytes) (o : Option Node)
    → (let none : List Trigger = [] in none) ≡ (delete_missing rules h path o).triggers
missing_fires Zk34 h path o = refl
missing_fires Zk38 h path None = refl
missing_fires Zk38 h path (Some parent) = refl

-- There is no node.
missing-effect : (s : State) (h : TxnHeader) (path : Bytes) → None ≡ finmap.get s.nodes path
    → delete_missing h.rules h path (finmap.get s.nodes (parent_of path)) ≡ effect s h path
missing-effect s h path none =
    ap (λ (m : Nodes). delete_missing h.rules h path (finmap.get m (parent_of path)))
    (sym (remove_absent s.nodes path (sym none)))
    ∙ ap (λ o. delete_at h path o (finmap.get (finmap.remove s.nodes path) (parent_of path))) none

pub missing-done : (s : State) (h : TxnHeader) (path : Bytes) (n : Nodes) (before after : List Trigger)
    → None ≡ finmap.get s.nodes path → n ≡ finmap.remove s.nodes path → after ≡ before
    → IsEffectDone (of_operation h (delete_of path) s) NO_NODE
    (with_missing h.rules h path
    (let t : State = record { nodes = n; pairs = s.pairs; sessions = s.sessions } in t)) before after
missing-done s h path n before after none is same = record {
  state = ap (λ (m : Nodes). with_missing h.rules h path
      (let t : State = record { nodes = m; pairs = s.pairs; sessions = s.sessions } in t))
      (is ∙ remove_absent s.nodes path (sym none))
      ∙ missing_is h.rules h path s
      ∙ ap (λ e. after_changes s e.changes) (missing-effect s h path none);
  err = missing_err h.rules h path (finmap.get s.nodes (parent_of path))
      ∙ ap (λ e. e.err) (missing-effect s h path none);
  fired = same ∙ nothing_more before [] refl
      ∙ ap (λ ts. before ++ ts) (missing_fires h.rules h path (finmap.get s.nodes (parent_of path)))
      ∙ ap (λ e. before ++ e.triggers) (missing-effect s h path none);
}

no_parent : (o : Option Node) → false ≡ is_some o → o ≡ None
no_parent None e = refl
no_parent (Some x) e = absurd (true≢false (sym e))

-- There is no parent.
pub orphan-effect : (s : State) (h : TxnHeader) (path : Bytes) (node : Node) → Some node ≡ finmap.get s.nodes path
    → false ≡ is_some (finmap.get (finmap.remove s.nodes path) (parent_of path))
    → delete_at h path (Some node) None ≡ effect s h path
orphan-effect s h path node found none =
    (λ i. delete_at h path (found i)
    (sym (no_parent (finmap.get (finmap.remove s.nodes path) (parent_of path)) none) i))

-- A node with a parent.
pub deleted-is : (s : State) (h : TxnHeader) (path : Bytes) (node : Node) (n : Nodes) (p : OwnerPairs)
    → Some node ≡ finmap.get s.nodes path
    → true ≡ is_some (finmap.get (finmap.remove s.nodes path) (parent_of path))
    → n ≡ update_node (finmap.remove s.nodes path) (parent_of path) (without_child (name_of path) h)
    → p ≡ without_pair s.pairs node.stat.ephemeral_owner path
    → (let t : State = record { nodes = n; pairs = p; sessions = s.sessions } in t)
    ≡ after_changes s (effect s h path).changes
deleted-is s h path node n p found some nodes pairs =
    (λ i. record { nodes = nodes i; pairs = pairs i; sessions = s.sessions })
    ∙ by (finmap.get (finmap.remove s.nodes path) (parent_of path)) some
    ∙ ap (λ o. after_changes s (delete_at h path o (finmap.get (finmap.remove s.nodes path) (parent_of path))).changes)
    found
  where
    by : (o : Option Node) → true ≡ is_some o
        → (let t : State =
        record {
          nodes =
              update_found (finmap.remove s.nodes path) (parent_of path) (without_child (name_of path) h) o;
          pairs = without_pair s.pairs node.stat.ephemeral_owner path;
          sessions = s.sessions;
        } in t)
        ≡ after_changes s (delete_at h path (Some node) o).changes
    by None e = absurd (true≢false e)
    by (Some parent) e =
        sym (after_changes-lost_pair
        (let t : State =
        record {
          nodes =
              finmap.insert (finmap.remove s.nodes path) (parent_of path) (without_child (name_of path) h parent);
          pairs = s.pairs;
          sessions = s.sessions;
        } in t)
        node.stat.ephemeral_owner path)

-- A delete fires at its path and at the parent, unless it fails.
pub delete_fires : (h : TxnHeader) (path : Bytes) (node parent : Option Node)
    → (delete_at h path node parent).triggers
    ≡ (if int_eq (delete_at h path node parent).err (pos 0) then Deleted path ∷ ChildrenChanged (parent_of path) ∷ []
    else [])
delete_fires h path None parent = by h.rules parent
  where
    by : (rules : Dialect) (parent : Option Node)
        → (delete_missing rules h path parent).triggers
        ≡ (if int_eq (delete_missing rules h path parent).err (pos 0) then
        Deleted path ∷ ChildrenChanged (parent_of path) ∷ [] else [])
    by Zk34 parent = refl
    by Zk38 None = refl
    by Zk38 (Some parent) = refl
delete_fires h path (Some node) None = refl
delete_fires h path (Some node) (Some parent) = refl
