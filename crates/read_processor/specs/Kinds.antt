-- The kinds of reads: what each needs, which watch it leaves, and the body that shows a node.
use Rattle.std.specs.Prelude.{ℕ, List, Option, Some, None, Bool, true, false}
use Rattle.jute.specs.declared.owned.Acl.{Acl}
use Rattle.settings.specs.Dialects.{is_later}
use Rattle.settings.specs.declared.dialect.Dialect.{Dialect}
use Rattle.client_records.specs.declared.kind.ReadKind.{ReadKind}
use Rattle.client_records.specs.declared.kind.ReadKind.TheVariants.{Exists, GetData, GetAcl, GetChildren, GetChildren2}
use Rattle.client_records.specs.Responses.{exists_response, get_data_response, get_acl_response, get_children_response, get_children2_response}
use Rattle.ephemerals.specs.Orders.{sorted_names}
use Rattle.node_map.specs.Stats.{stat_of}
use Rattle.node_map.specs.declared.node.Node.{Node}
use Rattle.read_processor.specs.declared.kinds.ReadRow.{ReadRow}
use Rattle.read_processor.specs.declared.kinds.WatchTable.{WatchTable}
use Rattle.read_processor.specs.declared.kinds.WatchTable.TheVariants.{Data, Child}

-- An exists and a getACL need no permission; later clients need one for a getACL (specs/Look). An exists may leave a watch on a missing node, a getACL leaves none, and
-- the others leave one on a node that they have read.
abbrev pub read_row : ReadKind → ReadRow
read_row Exists = record { needs_read = false; watch = Some Data; watches_missing = true }
read_row GetData = record { needs_read = true; watch = Some Data; watches_missing = false }
read_row GetAcl = record { needs_read = false; watch = None; watches_missing = false }
read_row GetChildren = record { needs_read = true; watch = Some Child; watches_missing = false }
read_row GetChildren2 = record { needs_read = true; watch = Some Child; watches_missing = false }

abbrev pub has_table : Option WatchTable → Bool
has_table None = false
has_table (Some table) = true

-- A request of such a read says whether it asks for a watch.
abbrev pub may_watch : ReadKind → Bool
may_watch kind = has_table (read_row kind).watch

-- A getACL of a later client needs a permission, and shows less to who may not administrate the node.
abbrev pub guards_acl : ReadKind → Dialect → Bool
guards_acl Exists rules = false
guards_acl GetData rules = false
guards_acl GetAcl rules = is_later rules
guards_acl GetChildren rules = false
guards_acl GetChildren2 rules = false

-- ---- the bodies that show a node

abbrev pub exists_body : Node → List ℕ
exists_body node = exists_response.written (record { stat = stat_of node })

abbrev pub get_data_body : Node → List ℕ
get_data_body node = get_data_response.written (record { bytes = node.bytes; stat = stat_of node })

-- A node with these entries shown as its list.
abbrev pub acl_body : List Acl → Node → List ℕ
acl_body entries node = get_acl_response.written (record { acl = entries; stat = stat_of node })

abbrev pub get_acl_body : Node → List ℕ
get_acl_body node = acl_body node.acl node

-- The children are listed in ascending order of their names' bytes.
abbrev pub get_children_body : Node → List ℕ
get_children_body node = get_children_response.written (record { children = sorted_names node.children })

abbrev pub get_children2_body : Node → List ℕ
get_children2_body node =
    get_children2_response.written (record { children = sorted_names node.children; stat = stat_of node })

abbrev pub reply_body : ReadKind → Node → List ℕ
reply_body Exists node = exists_body node
reply_body GetData node = get_data_body node
reply_body GetAcl node = get_acl_body node
reply_body GetChildren node = get_children_body node
reply_body GetChildren2 node = get_children2_body node
