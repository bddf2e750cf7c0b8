-- The effect of a transaction on the state, and its outcome (ZooKeeper Programmer's Guide).
use Rattle.std.specs.Prelude.{ℤ, pos, List, [], ◌∷◌, ◌++◌, if◌then◌else◌, Option, Some, None, is_some, map, int_lt, false, codes}
use Rattle.std.specs.Option.{unwrap_or, option_map}
use Rattle.std.specs.Ordering.{int_eq}
use Rattle.std.specs.FinMap as finmap
use Rattle.std.specs.FinSet as set
use Rattle.ephemerals.specs.Orders.{Bytes, Names, sorted_names}
use Rattle.ephemerals.specs.Pairs.{paths_of_session, without_session}
use Rattle.jute.specs.declared.codes.TheConstants.{NO_NODE, NODE_EXISTS, RUNTIME_INCONSISTENCY}
use Rattle.jute.specs.declared.owned.Acl.{Acl}
use Rattle.jute.specs.declared.stat.Stat.{Stat}
use Rattle.settings.specs.declared.dialect.Dialect.{Dialect}
use Rattle.settings.specs.declared.dialect.Dialect.TheVariants.{Zk34, Zk38}
use Rattle.paths_and_acls.specs.Acls.{acl_or_open}
use Rattle.paths_and_acls.specs.Paths.{parent_of, name_of}
use Rattle.txn_codec.specs.Row.{error_of, has_error}
use Rattle.txn_codec.specs.declared.txn.TxnHeader.{TxnHeader}
use Rattle.txn_codec.specs.declared.txn.Create.{Create}
use Rattle.txn_codec.specs.declared.txn.SetData.{SetData}
use Rattle.txn_codec.specs.declared.txn.SetAcl.{SetAcl}
use Rattle.txn_codec.specs.declared.txn.Txn.{Txn}
use Rattle.txn_codec.specs.declared.txn.Operation.{Operation}
use Rattle.txn_codec.specs.declared.txn.Operation.TheVariants as op
use Rattle.txn_codec.specs.declared.txn.Body.{Body}
use Rattle.txn_codec.specs.declared.txn.Body.TheVariants as body
use Rattle.node_map.specs.declared.node.Node.{Node}
use Rattle.node_map.specs.Updates.{next_cversion, owner_of, new_node, with_data, with_acl, with_missing_acl, preset_node, update_node}
use Rattle.node_map.specs.Stats.{stat_of}
use Rattle.node_map.specs.Children.{stat_with_child, without_child, without_missing_child}
use Rattle.data_tree.specs.State.{State, Nodes}
use Rattle.data_tree.specs.declared.outcome.Outcome.{Outcome}
use Rattle.data_tree.specs.declared.outcome.PartResult.{PartResult}
use Rattle.data_tree.specs.declared.outcome.Trigger.{Trigger}
use Rattle.data_tree.specs.declared.outcome.Trigger.TheVariants.{Created, Deleted, DataChanged, ChildrenChanged}

-- A change of one cell.
pub data Change : Type 0 where
  -- The path has this node.
  Put : (path : Bytes) (node : Node) → Change
  -- The path has no node.
  Remove : (path : Bytes) → Change
  -- The session lists the path.
  Own : (session : ℤ) (path : Bytes) → Change
  -- The session doesn't list the path.
  Disown : (session : ℤ) (path : Bytes) → Change
  -- The node at the path, if it came without an access control list, gets this one.
  Mend : (path : Bytes) (acl : List Acl) → Change

abbrev pub after_change : State → Change → State
after_change s (Put path node) = record s { nodes = finmap.insert s.nodes path node }
after_change s (Remove path) = record s { nodes = finmap.remove s.nodes path }
after_change s (Own session path) = record s { pairs = set.insert s.pairs (session, path) }
after_change s (Disown session path) = record s { pairs = set.remove s.pairs (session, path) }
after_change s (Mend path acl) = record s { nodes = update_node s.nodes path (with_missing_acl acl) }

abbrev pub after_changes : State → List Change → State
after_changes s [] = s
after_changes s (c ∷ cs) = after_changes (after_change s c) cs

-- The effect of one operation: its error, its changes in order, and its triggers.
pub record Effect : Type 0 where
  pub err : ℤ
  pub changes : List Change
  pub triggers : List Trigger

abbrev pub no_change : ℤ → Effect
no_change error = record { err = error; changes = []; triggers = [] }

-- A parent with these children, this stored cversion and this pzxid.
abbrev pub with_children : Node → Names → ℤ → ℤ → Node
with_children parent children cversion zxid =
    record parent { children = children; stat = record parent.stat { cversion = cversion; pzxid = zxid } }

-- Session 0 owns nothing.
abbrev pub gained_pair : ℤ → Bytes → List Change
gained_pair owner path = if int_eq owner (pos 0) then [] else Own owner path ∷ []

abbrev pub lost_pair : ℤ → Bytes → List Change
lost_pair owner path = if int_eq owner (pos 0) then [] else Disown owner path ∷ []

-- An image that was written while the leader went on may lack the list of a node. By the rules of later dialects the
-- create that comes again brings it.
abbrev pub mended_list : Dialect → Create → List Change
mended_list Zk34 create = []
mended_list Zk38 create = Mend create.path (acl_or_open create.acl) ∷ []

-- A create of a name that the parent has already can only raise the parent's stat.
abbrev pub create_taken : TxnHeader → Create → Node → Effect
create_taken header create parent =
    let next = next_cversion parent.stat.cversion create.parent_cversion in
    record {
      err = NODE_EXISTS;
      changes =
          if int_lt parent.stat.cversion next
          then Put (parent_of create.path) (with_children parent parent.children next header.zxid)
          ∷ mended_list header.rules create
          else mended_list header.rules create;
      triggers = [];
    }

abbrev pub create_new : TxnHeader → Create → Node → Effect
create_new header create parent =
    record {
      err = pos 0;
      changes =
          Put (parent_of create.path)
          (record parent {
            children = set.insert parent.children (name_of create.path);
            stat = stat_with_child header create parent.stat;
          })
          ∷ Put create.path (new_node header create)
          ∷ gained_pair (owner_of header create.owner) create.path;
      triggers = Created create.path ∷ ChildrenChanged (parent_of create.path) ∷ [];
    }

abbrev pub create_under : TxnHeader → Create → Option Node → Effect
create_under header create None = no_change NO_NODE
create_under header create (Some parent) =
    if set.contains parent.children (name_of create.path) then create_taken header create parent
    else create_new header create parent

-- There is no such node. By the rules of later dialects its parent, if there is one, changes all the same: an image may
-- have been written between the delete and the change of the parent.
abbrev pub delete_missing : Dialect → TxnHeader → Bytes → Option Node → Effect
delete_missing Zk34 header path parent = no_change NO_NODE
delete_missing Zk38 header path None = no_change NO_NODE
delete_missing Zk38 header path (Some parent) =
    record {
      err = NO_NODE;
      changes = Put (parent_of path) (without_missing_child header parent) ∷ [];
      triggers = [];
    }

-- The node is removed, and its name in the parent.
abbrev pub delete_at : TxnHeader → Bytes → Option Node → Option Node → Effect
delete_at header path None parent = delete_missing header.rules header path parent
delete_at header path (Some node) None = record { err = NO_NODE; changes = Remove path ∷ []; triggers = [] }
delete_at header path (Some node) (Some parent) = record {
  err = pos 0;
  changes =
      Remove path
      ∷ Put (parent_of path)
      (without_child (name_of path) header parent)
      ∷ lost_pair node.stat.ephemeral_owner path;
  triggers = Deleted path ∷ ChildrenChanged (parent_of path) ∷ [];
}

abbrev pub set_data_at : TxnHeader → SetData → Option Node → Effect
set_data_at header body None = no_change NO_NODE
set_data_at header body (Some node) =
    record {
      err = pos 0;
      changes = Put body.path (with_data header body node) ∷ [];
      triggers = DataChanged body.path ∷ [];
    }

-- An operation reads only the nodes at its path and at the parent.
abbrev pub effect_of : TxnHeader → Operation → Nodes → Effect
effect_of header (op.Create body) nodes = create_under header body (finmap.get nodes (parent_of body.path))
effect_of header (op.Delete body) nodes =
    delete_at header body.path (finmap.get nodes body.path)
    (finmap.get (finmap.remove nodes body.path) (parent_of body.path))
effect_of header (op.SetData body) nodes = set_data_at header body (finmap.get nodes body.path)
effect_of header (op.Check body) nodes = no_change (pos 0)
effect_of header (op.Error error) nodes = no_change error

abbrev pub set_acl_at : SetAcl → Option Node → Effect
set_acl_at body None = no_change NO_NODE
set_acl_at body (Some node) = record { err = pos 0; changes = Put body.path (with_acl body node) ∷ []; triggers = [] }

-- The state after a transaction, its error, what comes of its parts, and its triggers.
pub record TxnEffect : Type 0 where
  pub state : State
  pub err : ℤ
  pub parts : List PartResult
  pub triggers : List Trigger

abbrev pub of_effect : Effect → State → TxnEffect
of_effect effect s =
    record { state = after_changes s effect.changes; err = effect.err; parts = []; triggers = effect.triggers }

abbrev pub of_operation : TxnHeader → Operation → State → TxnEffect
of_operation header operation s = of_effect (effect_of header operation s.nodes) s

abbrev pub of_set_acl : SetAcl → State → TxnEffect
of_set_acl body s = of_effect (set_acl_at body (finmap.get s.nodes body.path)) s

-- The first error that isn't 0, or 0 if there is none.
abbrev pub first_error : List PartResult → ℤ
first_error [] = pos 0
first_error (r ∷ rs) = if int_eq r.err (pos 0) then first_error rs else r.err

abbrev pub without_stat : ℤ → PartResult
without_stat error = record { err = error; stat = None }

-- An error part has its own error, any other part -2.
abbrev pub result_in_failed : Operation → PartResult
result_in_failed o = without_stat (unwrap_or (error_of o) RUNTIME_INCONSISTENCY)

-- What comes of the parts of a multi that has an error part: the error is 0 before the first one.
abbrev pub results_of_failed : List Operation → List PartResult
results_of_failed [] = []
results_of_failed (o ∷ os) =
    if is_some (error_of o) then map result_in_failed (o ∷ os) else without_stat (pos 0) ∷ results_of_failed os

-- The outcome of a multi that has an error part.
abbrev pub failed_outcome : List Operation → Outcome
failed_outcome parts =
    let results = results_of_failed parts in
    record { results = record { err = first_error results; parts = results }; triggers = [] }

-- Nothing is applied.
abbrev pub of_failed : List Operation → State → TxnEffect
of_failed parts s =
    let answer = failed_outcome parts in
    record { state = s; err = answer.results.err; parts = answer.results.parts; triggers = answer.triggers }

-- The Stat that the reply to a part shows, in the state right after it: that of a setData's node, and that of a new
-- node whose create asks for it.
abbrev pub stat_after : Operation → State → Option Stat
stat_after (op.Create c) s = if c.asks_stat then option_map stat_of (finmap.get s.nodes c.path) else None
stat_after (op.Delete d) s = None
stat_after (op.SetData d) s = option_map stat_of (finmap.get s.nodes d.path)
stat_after (op.Check c) s = None
stat_after (op.Error error) s = None

-- The parts in order. A part that fails doesn't stop those after it.
abbrev pub of_parts : TxnHeader → List Operation → State → TxnEffect
of_parts header [] s = record { state = s; err = pos 0; parts = []; triggers = [] }
of_parts header (o ∷ os) s =
    let first = of_operation header o s in
    let rest = of_parts header os first.state in
    let result : PartResult = record { err = first.err; stat = stat_after o first.state } in
    record {
      state = rest.state;
      err = first_error (result ∷ rest.parts);
      parts = result ∷ rest.parts;
      triggers = first.triggers ++ rest.triggers;
    }

abbrev pub of_multi : TxnHeader → List Operation → State → TxnEffect
of_multi header parts s = if has_error parts then of_failed parts s else of_parts header parts s

-- The session's timeout is set.
abbrev pub of_create_session : TxnHeader → ℤ → State → TxnEffect
of_create_session header timeout s =
    record {
      state = record s { sessions = finmap.insert s.sessions header.client_id timeout };
      err = pos 0;
      parts = [];
      triggers = [];
    }

-- A delete of this node.
abbrev pub delete_of : Bytes → Operation
delete_of path = op.Delete (record { path = path; of_container = false })

abbrev pub delete_operations : List Bytes → List Operation
delete_operations paths = map delete_of paths

-- The state without the session and its pairs.
abbrev pub state_without_session : ℤ → State → State
state_without_session session s =
    record { nodes = s.nodes; pairs = without_session session s.pairs; sessions = finmap.remove s.sessions session }

-- Names, and these too.
abbrev pub with_names : Names → List Bytes → Names
with_names names [] = names
with_names names (path ∷ paths) = with_names (set.insert names path) paths

-- The paths of the session's ephemeral nodes, and those that are listed.
abbrev pub ended_paths : ℤ → List Bytes → State → Names
ended_paths session listed s = with_names (paths_of_session session s.pairs) listed

-- These nodes are deleted in ascending order of their paths' bytes. Errors are ignored.
abbrev pub of_close_session : TxnHeader → List Bytes → State → TxnEffect
of_close_session header listed s =
    let deleted =
    of_parts header (delete_operations (sorted_names (ended_paths header.client_id listed s)))
    (state_without_session header.client_id s) in
    record { state = deleted.state; err = pos 0; parts = []; triggers = deleted.triggers }

abbrev pub effect_of_body : TxnHeader → Body → State → TxnEffect
effect_of_body header (body.Single operation) s = of_operation header operation s
effect_of_body header (body.SetAcl body) s = of_set_acl body s
effect_of_body header (body.Multi parts) s = of_multi header parts s
effect_of_body header (body.CreateSession timeout) s = of_create_session header timeout s
effect_of_body header (body.CloseSession listed) s = of_close_session header listed s

abbrev pub effect_of_txn : State → Txn → TxnEffect
effect_of_txn s txn = effect_of_body txn.header txn.body s

abbrev pub answer_of : TxnEffect → Outcome
answer_of m = record { results = record { err = m.err; parts = m.parts }; triggers = m.triggers }

-- The transactions one after the other.
abbrev pub state_after : State → List Txn → State
state_after s [] = s
state_after s (t ∷ ts) = state_after (effect_of_txn s t).state ts

-- The outcomes of the transactions.
abbrev pub outcomes_of_txns : State → List Txn → List Outcome
outcomes_of_txns s [] = []
outcomes_of_txns s (t ∷ ts) = answer_of (effect_of_txn s t) ∷ outcomes_of_txns (effect_of_txn s t).state ts

-- The tree that every log starts from: /, /zookeeper and /zookeeper/quota.
abbrev pub fresh_state : State
fresh_state = record {
  nodes =
      finmap.insert
      (finmap.insert
      (finmap.insert finmap.empty (codes "/") (preset_node (set.insert set.empty (codes "zookeeper"))))
      (codes "/zookeeper") (preset_node (set.insert set.empty (codes "quota"))))
      (codes "/zookeeper/quota") (preset_node set.empty);
  pairs = set.empty;
  sessions = finmap.empty;
}
