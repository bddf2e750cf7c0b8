-- The state that the parts of an image make, one by one. A part is refused if it doesn't fit the parts before it.
use Rattle.std.specs.Prelude.{refl, ℤ, negsuc, Bool, ◌||◌, List, Option, Some, None, is_some, Result, Ok, Err, if◌then◌else◌}
use Rattle.std.specs.Coded.{Coded, code_by, coded×, coded_bool}
use Rattle.std.specs.FinMap as finmap
use Rattle.std.specs.FinSet as set
use Rattle.std.specs.Ordering.{int_eq}
use Rattle.settings.specs.declared.dialect.Dialect.{Dialect}
use Rattle.settings.specs.declared.dialect.Dialect.TheVariants.{Zk34}
use Rattle.values.specs.declared.fault.Fault.{Fault}
use Rattle.values.specs.declared.fault.Fault.TheVariants.{BadImage}
use Rattle.jute.specs.Codes.{open_acl}
use Rattle.jute.specs.Format.{◌>>=◌}
use Rattle.jute.specs.Loading.{LoadRules}
use Rattle.jute.specs.declared.owned.Acl.{Acl}
use Rattle.data_tree.specs.Making.{empty_state, with_session, with_node, has_place}
use Rattle.paths_and_acls.specs.Acls.{acl_or_open}
use Rattle.data_tree.specs.State.{State, state_code}
use Rattle.snapshot_codec.specs.Dialects.{loaded_stat, mark_in, or_missing, comes_late}
use Rattle.node_map.specs.declared.node.Node.{Node}
use Rattle.snapshot_codec.specs.AclLists.{AclLists, lists_code}
use Rattle.snapshot_codec.specs.Parts.{Value, Count, Path, Close, Part, part_stream, is_end}
use Rattle.snapshot_codec.specs.declared.part.ImageNode.{ImageNode}
use Rattle.snapshot_codec.specs.declared.part.ImagePart.{ImagePart}
use Rattle.snapshot_codec.specs.declared.part.ImagePart.TheVariants as part
use Rattle.snapshot_codec.specs.declared.part.PartPhase.{PartPhase}

-- A state, the ACL lists that nodes may refer to, and the dialect of the image.
pub record LoadedParts : Type 0 where
  pub dialect : Dialect
  pub state : State
  pub lists : AclLists

abbrev pub no_parts_in : Dialect → LoadedParts
no_parts_in dialect = record { dialect = dialect; state = empty_state; lists = finmap.empty }

-- Those of an image of ZooKeeper 3.4.
abbrev pub no_loaded_parts : LoadedParts
no_loaded_parts = no_parts_in Zk34

-- The key -1 is the open list's.
abbrev pub list_at_key : AclLists → ℤ → Option (List Acl)
list_at_key lists key = if int_eq key (negsuc 0) then Some open_acl else finmap.get lists key

abbrev pub node_with : Dialect → ImageNode → List Acl → Node
node_with dialect node acl = record {
  bytes = node.bytes;
  acl = acl;
  stat = loaded_stat dialect node.stat;
  mark = mark_in dialect node.stat.ephemeral_owner;
  children = set.empty;
}

abbrev pub with_listed_node : LoadedParts → ImageNode → Option (List Acl) → Result LoadedParts Fault
with_listed_node made node None = Err BadImage
with_listed_node made node (Some acl) =
    if has_place made.state.nodes node.path
    then Ok (record made { state = with_node made.state node.path (node_with made.dialect node acl) }) else Err BadImage

-- An id, a key and a path have to be new; the key and the parent of a node have to be there. In later dialects the key
-- of a node needn't be, and no list comes after a node.
abbrev pub with_part : LoadedParts → ImagePart → Result LoadedParts Fault
with_part made (part.Session s) =
    if is_some (finmap.get made.state.sessions s.id) then Err BadImage
    else Ok (record made { state = with_session made.state s.id s.timeout })
with_part made (part.Acl a) =
    if comes_late made.dialect made.state.nodes || is_some (finmap.get made.lists a.key) then Err BadImage
    else Ok (record made { lists = finmap.insert made.lists a.key (acl_or_open a.list) })
with_part made (part.Node n) = with_listed_node made n (or_missing made.dialect (list_at_key made.lists n.acl))
with_part made part.End = Ok made

abbrev pub with_value : LoadedParts → Value → Result LoadedParts Fault
with_value made (Count n) = Ok made
with_value made (Path path) = Ok made
with_value made Close = Ok made
with_value made (Part p) = with_part made p

-- An image of a leader of a dialect, as a value that is read in parts.
abbrev pub image_load : Dialect → LoadRules PartPhase Value LoadedParts
image_load dialect = record { stream = part_stream dialect; takes = with_value; is_last = is_end }

-- ---- a loader: what was made, and whether the last part was the end

pub record Loading : Type 0 where
  pub made : LoadedParts
  pub ended : Bool

abbrev pub with_loaded : Loading → ImagePart → Result Loading Fault
with_loaded l p = with_part l.made p >>= λ made. Ok (record { made = made; ended = is_end (Part p) })

abbrev pub loading_code : Coded Dialect → Coded Node → Coded Acl → Coded Loading
loading_code dialect node acl =
    code_by (Dialect × (State × (AclLists × Bool)))
    (coded× dialect (coded× (state_code node) (coded× (lists_code acl) coded_bool)))
    (λ l. (l.made.dialect, (l.made.state, (l.made.lists, l.ended))))
    (λ p. record { made = record { dialect = p.0; state = p.1.0; lists = p.1.1.0 }; ended = p.1.1.1 }) (λ _. refl)
