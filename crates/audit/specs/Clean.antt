-- A log is clean if it is applied by the rules of ZooKeeper 3.4, nothing fails, "/" is neither created nor deleted, each
-- deleted node has no children, and each create counts its parent's stored cversion up by one.
use Rattle.std.specs.Prelude.{ℤ, pos, negsuc, ◌+ℤ◌, ◌&&◌, ◌||◌, ◌==◌, Bool, true, false, List, [], ◌∷◌, Option, Some, None, is_none}
use Rattle.std.specs.Int.{int_wrap, w32}
use Rattle.std.specs.List.{list_all}
use Rattle.std.specs.Ordering.{int_eq}
use Rattle.std.specs.FinMap as finmap
use Rattle.std.specs.FinSet as set
use Rattle.ephemerals.specs.Orders.{Bytes, sorted_names}
use Rattle.ephemerals.specs.Pairs.{paths_of_session}
use Rattle.settings.specs.declared.dialect.Dialect.{Dialect}
use Rattle.settings.specs.declared.dialect.Dialect.TheVariants.{Zk34, Zk38}
use Rattle.paths_and_acls.specs.Paths.{is_child_path, parent_of}
use Rattle.txn_codec.specs.declared.txn.TxnHeader.{TxnHeader}
use Rattle.txn_codec.specs.declared.txn.Txn.{Txn}
use Rattle.txn_codec.specs.declared.txn.Operation.{Operation}
use Rattle.txn_codec.specs.declared.txn.Operation.TheVariants as op
use Rattle.txn_codec.specs.declared.txn.Body.{Body}
use Rattle.txn_codec.specs.declared.txn.Body.TheVariants as body
use Rattle.node_map.specs.declared.node.Node.{Node}
use Rattle.data_tree.specs.State.{State, Nodes}
use Rattle.txn_codec.specs.Row.{error_of}
use Rattle.data_tree.specs.Meaning.{of_operation, of_set_acl, effect_of_txn}

abbrev pub is_childless : Option Node → Bool
is_childless None = true
is_childless (Some node) = set.len node.children == 0

abbrev pub are_childless : Nodes → List Bytes → Bool
are_childless nodes paths = list_all (λ (path : Bytes). is_childless (finmap.get nodes path)) paths

-- A create asks for -1, which counts up by one, or for the next number itself; Java's 32-bit numbers wrap.
abbrev pub counts_up : ℤ → Option Node → Bool
counts_up wanted None = true
counts_up wanted (Some parent) =
    int_eq wanted (negsuc 0) || int_eq wanted (int_wrap w32 (parent.stat.cversion +ℤ pos 1))

abbrev pub is_orderly : Operation → Nodes → Bool
is_orderly (op.Create create) nodes =
    is_child_path create.path && counts_up create.parent_cversion (finmap.get nodes (parent_of create.path))
is_orderly (op.Delete body) nodes = is_child_path body.path && is_childless (finmap.get nodes body.path)
is_orderly (op.SetData body) nodes = true
is_orderly (op.Check body) nodes = true
is_orderly (op.Error error) nodes = true

abbrev pub is_clean_operation : TxnHeader → Operation → State → Bool
is_clean_operation header o s = is_orderly o s.nodes && int_eq (of_operation header o s).err (pos 0)

-- No part is an error part, and each is clean after the parts before it.
abbrev pub are_clean_parts : TxnHeader → List Operation → State → Bool
are_clean_parts header [] s = true
are_clean_parts header (o ∷ os) s =
    is_none (error_of o) && (is_clean_operation header o s && are_clean_parts header os (of_operation header o s).state)

-- No ephemeral node of the session that ends has a child. They are deleted in ascending order of their bytes, so a node
-- is deleted before those below it, and none has lost its children by then.
abbrev pub closes_clean : ℤ → State → Bool
closes_clean session s = are_childless s.nodes (sorted_names (paths_of_session session s.pairs))

abbrev pub lists_none : List Bytes → Bool
lists_none [] = true
lists_none (path ∷ paths) = false

abbrev pub is_clean_body : TxnHeader → Body → State → Bool
is_clean_body header (body.Single o) s = is_clean_operation header o s
is_clean_body header (body.SetAcl set_acl) s = int_eq (of_set_acl set_acl s).err (pos 0)
is_clean_body header (body.Multi parts) s = are_clean_parts header parts s
is_clean_body header (body.CreateSession timeout) s = true
is_clean_body header (body.CloseSession listed) s = lists_none listed && closes_clean header.client_id s

-- By the rules of later dialects a parent's numbers may stay as they are.
abbrev pub counts_all : Dialect → Bool
counts_all Zk34 = true
counts_all Zk38 = false

abbrev pub is_clean : State → Txn → Bool
is_clean s t = counts_all t.header.rules && is_clean_body t.header t.body s

-- Each transaction is clean after those before it.
abbrev pub are_clean : State → List Txn → Bool
are_clean s [] = true
are_clean s (t ∷ ts) = is_clean s t && are_clean (effect_of_txn s t).state ts
