-- What the reply to a write of a client shows, once its transaction was applied.
use Rattle.std.specs.Prelude.{ℤ, pos, List, ℕ, [], Option, Some, None, false, if◌then◌else◌}
use Rattle.std.specs.Ordering.{int_eq}
use Rattle.std.specs.FinMap as finmap
use Rattle.settings.specs.declared.dialect.Dialect.TheVariants.{Zk34}
use Rattle.jute.specs.declared.codes.TheConstants.{NO_NODE}
use Rattle.client_records.specs.declared.codes.TheConstants.{OK}
use Rattle.client_records.specs.declared.kind.ReadKind.TheVariants.{Exists, GetData}
use Rattle.txn_codec.specs.declared.txn.Body.{Body}
use Rattle.txn_codec.specs.declared.txn.Body.TheVariants as bodies
use Rattle.data_tree.specs.declared.outcome.TxnResults.{TxnResults}
use Rattle.txn_codec.specs.Row.{shown_path_of_body}
use Rattle.node_map.specs.declared.node.Node.{Node}
use Rattle.data_tree.specs.State.{State}
use Rattle.read_processor.specs.declared.shown.Look.{Look}
use Rattle.read_processor.specs.Look.{look_at_state, look_of_path, look_of_created, look_of_node, shown_look, without_body}
use Rattle.forwarding.specs.declared.request.WriteKind.{WriteKind}
use Rattle.forwarding.specs.declared.request.WriteKind.TheVariants as writes
use Rattle.write_replies.specs.Results.{multi_results}

-- The Stat of a node as it is now, as an exists shows it.
abbrev pub stat_look : State → List ℕ → Look
stat_look s path = look_at_state s [] (record { kind = Exists; path = Some path; watch = false; rules = Zk34 })

-- What shows a node, if there is one.
abbrev pub look_if_there : (Node → Look) → Option Node → Look
look_if_there shows None = without_body NO_NODE
look_if_there shows (Some node) = shows node

-- The path of a new node, and the Stat that clients see: a session alone is shown as its owner.
abbrev pub created_look : State → List ℕ → Look
created_look s path = look_if_there (look_of_created path) (finmap.get s.nodes path)

-- The data and the Stat of a node as it is now, as a getData shows them to who may read it.
abbrev pub data_look : State → List ℕ → Look
data_look s path = look_if_there (look_of_node GetData) (finmap.get s.nodes path)

-- A create is answered with its path, and one of later clients with the Stat too; a setData and a setACL with the Stat
-- of the node; and a reconfig with what its node has now.
abbrev pub look_of_write : State → WriteKind → Option (List ℕ) → Look
look_of_write s kind None = without_body OK
look_of_write s writes.Create (Some path) = look_of_path path
look_of_write s writes.Create2 (Some path) = created_look s path
look_of_write s writes.CreateContainer (Some path) = created_look s path
look_of_write s writes.CreateTtl (Some path) = created_look s path
look_of_write s writes.SetData (Some path) = stat_look s path
look_of_write s writes.SetAcl (Some path) = stat_look s path
look_of_write s writes.Reconfig (Some path) = data_look s path
look_of_write s writes.Delete (Some path) = without_body OK
look_of_write s writes.DeleteContainer (Some path) = without_body OK
look_of_write s writes.Multi (Some path) = without_body OK
look_of_write s writes.CloseSession (Some path) = without_body OK

-- A write that failed is answered with its error alone.
abbrev pub look_of_single : State → WriteKind → Body → ℤ → Look
look_of_single s kind body err =
    if int_eq err (pos 0) then look_of_write s kind (shown_path_of_body body) else without_body err

-- A multi has no error itself, but its parts have.
abbrev pub write_look : State → WriteKind → Body → TxnResults → Look
write_look s kind (bodies.Multi parts) results = shown_look (multi_results parts results.parts)
write_look s kind (bodies.Single operation) results = look_of_single s kind (bodies.Single operation) results.err
write_look s kind (bodies.SetAcl set_acl) results = look_of_single s kind (bodies.SetAcl set_acl) results.err
write_look s kind (bodies.CreateSession timeout) results =
    look_of_single s kind (bodies.CreateSession timeout) results.err
write_look s kind (bodies.CloseSession listed) results = look_of_single s kind (bodies.CloseSession listed) results.err
