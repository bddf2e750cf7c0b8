-- The answer to a read of a state by a client with these ids (ZooKeeper Programmer's Guide).
use Rattle.std.specs.Prelude.{ℕ, ℤ, pos, List, [], ◌∷◌, map, Option, Some, None, Bool, not, ◌&&◌, ◌==◌, if◌then◌else◌, nat_eq}
use Rattle.std.specs.List.{list_any, starts_with}
use Rattle.std.specs.FinMap as finmap
use Rattle.jute.specs.declared.owned.Acl.{Acl}
use Rattle.jute.specs.declared.owned.Id.{Id}
use Rattle.jute.specs.declared.codes.TheConstants.{BAD_ARGUMENTS, NO_NODE, NO_AUTH}
use Rattle.client_records.specs.declared.kind.ReadKind.{ReadKind}
use Rattle.client_records.specs.Responses.{path_response, create2_response}
use Rattle.node_map.specs.Stats.{stat_of}
use Rattle.node_map.specs.declared.node.Node.{Node}
use Rattle.data_tree.specs.State.{State}
use Rattle.read_processor.specs.Kinds.{read_row, guards_acl, acl_body, reply_body}
use Rattle.permissions.specs.Permissions.{may_read, may_see_acl, may_administrate}
use Rattle.permissions.specs.Digests.{masked_acl}
use Rattle.read_processor.specs.Limits.{fitting_body}
use Rattle.read_processor.specs.declared.shown.Look.{Look}
use Rattle.read_processor.specs.declared.request.Request.{Request}

-- A path that may be read begins with a slash and has no NUL.
abbrev pub is_request_path : List ℕ → Bool
is_request_path path = starts_with nat_eq path (47 ∷ []) && not (list_any (λ b. b == 0) path)

-- An error code, or 0, without a body.
abbrev pub without_body : ℤ → Look
without_body error = record { error = error; body = Some [] }

abbrev pub shown_look : List ℕ → Look
shown_look body = record { error = pos 0; body = fitting_body body }

-- The path that answers a create or a sync (CreateResponse and SyncResponse of zookeeper.jute).
abbrev pub look_of_path : List ℕ → Look
look_of_path path = shown_look (path_response.written (record { path = Some path }))

-- The path and the Stat of a new node, which answer a create2 (Create2Response of zookeeper.jute).
abbrev pub look_of_created : List ℕ → Node → Look
look_of_created path node = shown_look (create2_response.written (record { path = Some path; stat = stat_of node }))

-- What a read of this kind shows of a node, whoever asks.
abbrev pub look_of_node : ReadKind → Node → Look
look_of_node kind node = shown_look (reply_body kind node)

-- ---- getACL of later clients

-- Who may not administrate the node sees the users of digests alone.
abbrev pub shown_acl : List Id → List Acl → List Acl
shown_acl ids acl = if may_administrate ids acl then acl else map masked_acl acl

abbrev pub look_at_acl : List Id → Node → Look
look_at_acl ids node =
    if may_see_acl ids node.acl then shown_look (acl_body (shown_acl ids node.acl) node) else without_body NO_AUTH

-- ---- each read

abbrev pub look_at_node : List Id → Request → Option Node → Look
look_at_node ids request None = without_body NO_NODE
look_at_node ids request (Some node) =
    if guards_acl request.kind request.rules then look_at_acl ids node
    else if (read_row request.kind).needs_read && not (may_read request.rules ids node.acl)
    then without_body NO_AUTH
    else look_of_node request.kind node

abbrev pub look_at_path : State → List Id → Request → Option (List ℕ) → Look
look_at_path s ids request None = without_body BAD_ARGUMENTS
look_at_path s ids request (Some path) =
    if is_request_path path then look_at_node ids request (finmap.get s.nodes path) else without_body BAD_ARGUMENTS

abbrev pub look_at_state : State → List Id → Request → Look
look_at_state s ids request = look_at_path s ids request request.path
