-- The relation between a state and the bytes of its image.
use Rattle.std.specs.Prelude.{◌≡◌, ℕ, ℤ, negsuc, Bool, true, false, not, ◌&&◌, List, [], ◌∷◌, ◌++◌, Option, Some, None, is_some, Result, Ok, ◌⊎◌, if◌then◌else◌}
use Rattle.std.specs.FinMap as finmap
use Rattle.std.specs.FinMap.{find}
use Rattle.std.specs.FinSet as set
use Rattle.std.specs.List.{list_any, flat_map}
use Rattle.std.specs.Ordering.{eq_by_cmp, int_cmp, int_eq}
use Rattle.settings.specs.declared.dialect.Dialect.{Dialect}
use Rattle.settings.specs.declared.dialect.Dialect.TheVariants.{Zk34, Zk38}
use Rattle.values.specs.declared.fault.Fault.{Fault}
use Rattle.values.specs.declared.fault.Fault.TheVariants.{BadImage}
use Rattle.ephemerals.specs.Orders.{Bytes, path_cmp}
use Rattle.jute.specs.Codes.{open_acl}
use Rattle.jute.specs.Format.{Format, ◌>>=◌, SpellsFront}
use Rattle.jute.specs.Loading.{load_from, EndsOnce, NoneIsLast}
use Rattle.jute.specs.Relation.{SpellsItems}
use Rattle.jute.specs.declared.owned.Acl.{Acl}
use Rattle.paths_and_acls.specs.Paths.{is_root, parent_of, name_of}
use Rattle.paths_and_acls.specs.Acls.{acl_or_open}
use Rattle.node_map.specs.Agreement.{AreOwned}
use Rattle.node_map.specs.declared.node.Node.{Node}
use Rattle.data_tree.specs.State.{State}
use Rattle.snapshot_codec.specs.Dialects.{loaded_stat, mark_in, or_missing}
use Rattle.snapshot_codec.specs.Made.{no_parts_in, image_load}
use Rattle.snapshot_codec.specs.Parts.{Value, Part, part_stream, part_format}
pub use Rattle.snapshot_codec.specs.Written.{Lists}
use Rattle.snapshot_codec.specs.Written.{image_bytes, FitsImageIn}
use Rattle.snapshot_codec.specs.declared.part.ImageNode.{ImageNode}
use Rattle.snapshot_codec.specs.declared.part.ImagePart.{ImagePart}
use Rattle.snapshot_codec.specs.declared.part.ImagePart.TheVariants as part
use Rattle.snapshot_codec.specs.declared.part.PartPhase.{PartPhase}
use Rattle.snapshot_codec.specs.declared.part.PartPhase.TheVariants.{SessionCount}

-- ---- sessions, ACL lists and nodes among the parts

abbrev pub SessionEntries : Type 0
SessionEntries = List (ℤ × ℤ)

abbrev pub Rows : Type 0
Rows = List (Bytes × ImageNode)

abbrev pub parts_in : Value → List ImagePart
parts_in (Part p) = p ∷ []
parts_in v = []

abbrev pub sessions_in : ImagePart → SessionEntries
sessions_in (part.Session s) = (s.id, s.timeout) ∷ []
sessions_in p = []

-- Null means the open list.
abbrev pub lists_in : ImagePart → Lists
lists_in (part.Acl a) = (a.key, acl_or_open a.list) ∷ []
lists_in p = []

abbrev pub rows_in : ImagePart → Rows
rows_in (part.Node n) = (n.path, n) ∷ []
rows_in p = []

-- The first entry that has the key. The key -1 is the open list's, and no entry's.
abbrev pub list_named : Lists → ℤ → Option (List Acl)
list_named lists key = if int_eq key (negsuc 0) then Some open_acl else find int_cmp key lists

-- ---- their order

-- The root is the first node. Any other path is new, and its parent comes before it.
abbrev pub HasPlace : Bool → Rows → Bytes → Type 0
HasPlace true rows path = rows ≡ []
HasPlace false rows path = (find path_cmp path rows ≡ None) × (is_some (find path_cmp (parent_of path) rows) ≡ true)

-- In later dialects no list comes after a node.
abbrev pub IsInTime : Dialect → Rows → Type 0
IsInTime Zk34 rows = Unit {0}
IsInTime Zk38 [] = Unit {0}
IsInTime Zk38 (row ∷ rows) = ⊥

-- A part fits those before it.
abbrev pub IsAllowedWith : Dialect → SessionEntries → Lists → Rows → ImagePart → Type 0
IsAllowedWith dialect sessions lists rows (part.Session s) = find int_cmp s.id sessions ≡ None
IsAllowedWith dialect sessions lists rows (part.Acl a) = (find int_cmp a.key lists ≡ None) × IsInTime dialect rows
IsAllowedWith dialect sessions lists rows (part.Node n) =
    HasPlace (is_root n.path) rows n.path × (is_some (or_missing dialect (list_named lists n.acl)) ≡ true)
IsAllowedWith dialect sessions lists rows part.End = Unit {0}

abbrev pub IsAllowedAfter : Dialect → List ImagePart → ImagePart → Type 0
IsAllowedAfter dialect front p =
    IsAllowedWith dialect (flat_map sessions_in front) (flat_map lists_in front) (flat_map rows_in front) p

-- Each part fits those before it, in `front` and in its own list.
abbrev pub AreAllowedAfter : Dialect → List ImagePart → List ImagePart → Type 0
AreAllowedAfter dialect front [] = Unit {0}
AreAllowedAfter dialect front (p ∷ ps) =
    IsAllowedAfter dialect front p × AreAllowedAfter dialect (front ++ p ∷ []) ps

-- ---- the state that they make

-- Whether a path is that of the child with the name.
abbrev pub is_child : Bytes → Bytes → Bytes × ImageNode → Bool
is_child path name row =
    not (is_root row.0) && (eq_by_cmp path_cmp path (parent_of row.0) && eq_by_cmp path_cmp name (name_of row.0))

-- The node has the fields of its row, the list with its key, and the names of the paths below it.
pub record IsNodeOf (dialect : Dialect) (lists : Lists) (rows : Rows) (path : Bytes) (row : ImageNode) (node : Node) : Type 0 where
  pub bytes : node.bytes ≡ row.bytes
  pub stat : node.stat ≡ loaded_stat dialect row.stat
  pub mark : node.mark ≡ mark_in dialect row.stat.ephemeral_owner
  pub acl : or_missing dialect (list_named lists row.acl) ≡ Some node.acl
  pub children : (name : Bytes) → set.contains node.children name ≡ list_any (is_child path name) rows

-- There is a node exactly if there is a row for the path.
abbrev pub AreAt : Dialect → Lists → Rows → Bytes → Option ImageNode → Option Node → Type 0
AreAt dialect lists rows path None None = Unit {0}
AreAt dialect lists rows path (Some row) (Some node) = IsNodeOf dialect lists rows path row node
AreAt dialect lists rows path row found = ⊥

pub record IsMadeOf (dialect : Dialect) (s : State) (sessions : SessionEntries) (lists : Lists) (rows : Rows) : Type 0 where
  pub timeouts : (id : ℤ) → finmap.get s.sessions id ≡ find int_cmp id sessions
  pub nodes : (path : Bytes) → AreAt dialect lists rows path (find path_cmp path rows) (finmap.get s.nodes path)
  -- Each node with an owner gives the pair of the owner and the path.
  pub owners : AreOwned s.nodes s.pairs

abbrev pub IsMadeOfParts : Dialect → State → List ImagePart → Type 0
IsMadeOfParts dialect s ps = IsMadeOf dialect s (flat_map sessions_in ps) (flat_map lists_in ps) (flat_map rows_in ps)

-- ---- the image

-- The bytes spell values from the first count to the end. Their parts fit one another, and make the state.
pub record SpellsImageIn (dialect : Dialect) (s : State) (text : List ℕ) : Type 0 where
  pub found : List Value
  pub end : PartPhase
  pub stand : SpellsItems (part_stream dialect) found SessionCount text end []
  pub ends : EndsOnce (image_load dialect) found
  pub order : AreAllowedAfter dialect [] (flat_map parts_in found)
  pub made : IsMadeOfParts dialect s (flat_map parts_in found)

-- A part that doesn't fit those before it.
abbrev pub IsRefusedAfter : Dialect → List ImagePart → Value → Type 0
IsRefusedAfter dialect front (Part p) = ¬ IsAllowedAfter dialect front p
IsRefusedAfter dialect front v = ⊥

-- The values at the front are valid, and don't include the end. Then the next field isn't spelled, or the next part is
-- complete and doesn't fit those before it.
pub record AgainstImage (dialect : Dialect) (e : Fault) (bytes : List ℕ) : Type 0 where
  pub found : List Value
  pub end : PartPhase
  pub rest : List ℕ
  pub stand : SpellsItems (part_stream dialect) found SessionCount bytes end rest
  pub none_last : NoneIsLast (image_load dialect) found
  pub order : AreAllowedAfter dialect [] (flat_map parts_in found)
  pub next : (part_format dialect end).against e rest
      ⊎ ((e ≡ BadImage) × SpellsFront (part_format dialect end) (λ v behind. IsRefusedAfter dialect (flat_map parts_in found) v) rest)

-- The loading of its parts.
unfoldable pub image_read_in : Dialect → List ℕ → Result (State × List ℕ) Fault
image_read_in dialect bytes =
    load_from (image_load dialect) SessionCount (no_parts_in dialect) bytes >>= λ x. Ok (x.0.state, x.1)

abbrev pub image_in : Dialect → Format State
image_in dialect = record {
  Spells = SpellsImageIn dialect;
  written = image_bytes;
  Fits = FitsImageIn dialect;
  Writable = FitsImageIn dialect;
  read = image_read_in dialect;
  against = AgainstImage dialect;
}

-- ---- the image of ZooKeeper 3.4

abbrev pub SpellsImage : State → List ℕ → Type 0
SpellsImage = SpellsImageIn Zk34

abbrev pub image_read : List ℕ → Result (State × List ℕ) Fault
image_read = image_read_in Zk34

abbrev pub image_format : Format State
image_format = image_in Zk34
