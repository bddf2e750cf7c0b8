-- The reads that later clients alone ask for.
use Rattle.std.specs.Prelude.{ℕ, ℤ, List, [], ◌∷◌, length, drop, map, Option, Some, None, Bool, not, ◌&&◌, nat_eq, count_by, if◌then◌else◌}
use Rattle.std.specs.List.{filter, starts_with}
use Rattle.std.specs.Option.{unwrap_or}
use Rattle.std.specs.FinMap as finmap
use Rattle.jute.specs.declared.owned.Id.{Id}
use Rattle.jute.specs.declared.codes.TheConstants.{BAD_ARGUMENTS, NO_NODE, NO_AUTH}
use Rattle.client_records.specs.Fields.{names_format}
use Rattle.client_records.specs.Responses.{all_children_number_response, who_am_i_response, sasl_response}
use Rattle.ephemerals.specs.Orders.{sorted_names}
use Rattle.ephemerals.specs.Pairs.{paths_of_session}
use Rattle.paths_and_acls.specs.Paths.{is_root}
use Rattle.node_map.specs.Stats.{java_int}
use Rattle.node_map.specs.declared.node.Node.{Node}
use Rattle.data_tree.specs.State.{State}
use Rattle.permissions.specs.Digests.{client_info_of}
use Rattle.read_processor.specs.Look.{is_request_path, without_body, shown_look}
use Rattle.permissions.specs.Permissions.{may_read}
use Rattle.read_processor.specs.declared.shown.Look.{Look}
use Rattle.settings.specs.declared.dialect.Dialect.TheVariants.{Zk38}

-- ---- getEphemerals

-- The ephemeral nodes of the session whose paths begin with the bytes of the prefix, in ascending order of the paths'
-- bytes. A null prefix is at the front of all, as an empty one is.
abbrev pub ephemerals_of : State → ℤ → Option (List ℕ) → List (List ℕ)
ephemerals_of s session prefix =
    filter (λ path. starts_with nat_eq path (unwrap_or prefix [])) (sorted_names (paths_of_session session s.pairs))

-- GetEphemeralsResponse of zookeeper.jute.
abbrev pub look_at_ephemerals : State → ℤ → Option (List ℕ) → Look
look_at_ephemerals s session prefix = shown_look (names_format.written (ephemerals_of s session prefix))

-- ---- getAllChildrenNumber

-- A path is below the root if it is another one, and below any other path if it begins with that path and a slash.
abbrev pub is_below : List ℕ → List ℕ → Bool
is_below path other =
    if is_root path then not (is_root other)
    else starts_with nat_eq other path && starts_with nat_eq (drop (length path) other) (47 ∷ [])

-- How many nodes are below the path, at any depth.
abbrev pub nodes_below : State → List ℕ → ℕ
nodes_below s path = count_by (is_below path) (finmap.keys s.nodes)

abbrev pub look_below_node : State → List Id → List ℕ → Option Node → Look
look_below_node s ids path None = without_body NO_NODE
look_below_node s ids path (Some node) =
    if may_read Zk38 ids node.acl
    then shown_look (all_children_number_response.written (record { total_number = java_int (nodes_below s path) }))
    else without_body NO_AUTH

-- The number needs the permission to read the node.
abbrev pub look_below : State → List Id → Option (List ℕ) → Look
look_below s ids None = without_body BAD_ARGUMENTS
look_below s ids (Some path) =
    if is_request_path path then look_below_node s ids path (finmap.get s.nodes path) else without_body BAD_ARGUMENTS

-- ---- whoAmI and sasl

-- The ids of a connection, in the order in which they were shown.
abbrev pub look_at_ids : List Id → Look
look_at_ids ids = shown_look (who_am_i_response.written (record { client_info = map client_info_of ids }))

-- A sasl is answered with a null token: there is no mechanism to negotiate.
abbrev pub look_of_sasl : Look
look_of_sasl = shown_look (sasl_response.written (record { token = None }))
