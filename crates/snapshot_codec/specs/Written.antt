-- The image that is written for a state: its sessions in ascending order of their ids; the ACL lists of its nodes
-- except the open one, each under a key; the nodes in the order of a walk; and the end.
use Rattle.std.specs.Prelude.{ℕ, suc, ℤ, pos, negsuc, Bool, ◌&&◌, ◌||◌, ◌==◌, List, [], ◌∷◌, ◌++◌, map, length, Option, Some, None, is_some, if◌then◌else◌}
use Rattle.std.specs.Cmp.Lexicographic.{pointwise, slice_cmp}
use Rattle.std.specs.FinMap as finmap
use Rattle.std.specs.List.{AllByRecursion}
use Rattle.std.specs.Option.{unwrap_or}
use Rattle.std.specs.Ordering.{int_eq, nat_cmp, on}
use Rattle.std.specs.Str.{bytes_eq}
use Rattle.std.specs.declared.cmp.Ordering.{Ordering}
use Rattle.settings.specs.declared.dialect.Dialect.{Dialect}
use Rattle.settings.specs.declared.dialect.Dialect.TheVariants.{Zk34}
use Rattle.ephemerals.specs.Orders.{Bytes}
use Rattle.jute.specs.Codes.{open_acl}
use Rattle.jute.specs.Format.{int, long, count_format, count_limit, text_format, pair_of}
use Rattle.jute.specs.declared.owned.Acl.{Acl}
use Rattle.node_map.specs.declared.node.Node.{Node}
use Rattle.data_tree.specs.State.{State, Nodes}
use Rattle.data_tree.specs.Whole.{IsWhole}
use Rattle.snapshot_codec.specs.Dialects.{stored_stat, KeepsOwner}
use Rattle.snapshot_codec.specs.Parts.{Value, Count, Path, Close, Part, node_body, list_format, part_format, part_after}
use Rattle.snapshot_codec.specs.declared.part.ImageNode.{ImageNode}
use Rattle.snapshot_codec.specs.declared.part.ImagePart.{ImagePart}
use Rattle.snapshot_codec.specs.declared.part.ImagePart.TheVariants as part
use Rattle.snapshot_codec.specs.declared.part.PartPhase.{PartPhase}
use Rattle.snapshot_codec.specs.declared.part.PartPhase.TheVariants.{SessionCount}

-- ---- the walk

-- Ascending bytes, with the slash before every other byte.
abbrev pub byte_rank : ℕ → ℕ
byte_rank b = if b == 47 then 0 else suc b

abbrev pub walk_cmp : Bytes → Bytes → Ordering
walk_cmp = slice_cmp (on byte_rank nat_cmp)

-- The nodes in depth-first order: a parent comes before everything below it, and everything below one child before the
-- next child. Children are in ascending order of their bytes.
abbrev pub walk_of : Nodes → List (Bytes × Node)
walk_of nodes = finmap.entries (finmap.from_entries {R = walk_cmp} (finmap.entries nodes))

-- ---- ACL lists and their keys

abbrev pub is_same_acl : Acl → Acl → Bool
is_same_acl a b = int_eq a.perms b.perms && (bytes_eq a.id.scheme b.id.scheme && bytes_eq a.id.id b.id.id)

abbrev pub is_same_list : List Acl → List Acl → Bool
is_same_list = pointwise is_same_acl

-- The lists with their keys.
abbrev pub Lists : Type 0
Lists = List (ℤ × List Acl)

-- The first key of the list.
abbrev pub key_in : Lists → List Acl → Option ℤ
key_in [] list = None
key_in (e ∷ es) list = if is_same_list e.1 list then Some e.0 else key_in es list

-- A list that has no key yet gets the next one; the open list gets none.
abbrev pub with_list : Lists → List Acl → Lists
with_list lists list =
    if is_same_list list open_acl || is_some (key_in lists list) then lists
    else lists ++ (pos (suc (length lists)), list) ∷ []

-- The keys count from 1 in the order in which the lists are first used.
abbrev pub lists_from : Lists → List (Bytes × Node) → Lists
lists_from lists [] = lists
lists_from lists (e ∷ es) = lists_from (with_list lists e.1.acl) es

abbrev pub lists_of : Nodes → Lists
lists_of nodes = lists_from [] (walk_of nodes)

-- The key -1 is the open list's.
abbrev pub key_of : Lists → List Acl → ℤ
key_of lists list = if is_same_list list open_acl then negsuc 0 else unwrap_or (key_in lists list) (negsuc 0)

-- ---- the parts

abbrev pub session_part : ℤ × ℤ → ImagePart
session_part s = part.Session (record { id = s.0; timeout = s.1 })

abbrev pub list_part : ℤ × List Acl → ImagePart
list_part l = part.Acl (record { key = l.0; list = Some l.1 })

abbrev pub image_node_of : Lists → Bytes × Node → ImageNode
image_node_of lists e =
    record { path = e.0; bytes = e.1.bytes; acl = key_of lists e.1.acl; stat = stored_stat e.1 }

abbrev pub node_values : Lists → List (Bytes × Node) → List Value
node_values lists [] = Close ∷ Part part.End ∷ []
node_values lists (e ∷ es) = Path e.0 ∷ Part (part.Node (image_node_of lists e)) ∷ node_values lists es

abbrev pub counted_values : {A : Type 0} → (A → ImagePart) → List A → List Value
counted_values f xs = Count (length xs) ∷ map (λ x. Part (f x)) xs

abbrev pub values_of : State → List Value
values_of s =
    counted_values session_part (finmap.entries s.sessions)
    ++ (counted_values list_part (lists_of s.nodes) ++ node_values (lists_of s.nodes) (walk_of s.nodes))

-- ---- the bytes

-- Each value in the format of its phase. The bytes that are written are the same in each dialect.
abbrev pub bytes_from : PartPhase → List Value → List ℕ
bytes_from phase [] = []
bytes_from phase (v ∷ vs) = (part_format Zk34 phase).written v ++ bytes_from (part_after phase v) vs

abbrev pub image_bytes : State → List ℕ
image_bytes s = bytes_from SessionCount (values_of s)

-- ---- the limits

-- No count, session, list, path or node exceeds a limit of its format. The owner of each node is one of the dialect.
pub record IsWithinLimits (dialect : Dialect) (ids : List (ℤ × ℤ)) (keyed : Lists) (walked : List (Bytes × Node)) : Type 0 where
  pub session_count : (count_format count_limit).Fits (Some (length ids))
  pub sessions : AllByRecursion (pair_of long int).Fits ids
  pub list_count : (count_format count_limit).Fits (Some (length keyed))
  pub lists : AllByRecursion (λ (l : ℤ × List Acl). (pair_of long (list_format dialect)).Fits (l.0, Some l.1)) keyed
  pub paths : AllByRecursion (λ (e : Bytes × Node). text_format.Fits (Some e.0)) walked
  pub nodes : AllByRecursion (λ (e : Bytes × Node).
      node_body.Fits (e.1.bytes, (key_of keyed e.1.acl, stored_stat e.1)) × KeepsOwner dialect e.1) walked

-- The tree is whole, and exceeds no limit.
abbrev pub FitsImageIn : Dialect → State → Type 0
FitsImageIn dialect s = IsWhole s × IsWithinLimits dialect (finmap.entries s.sessions) (lists_of s.nodes) (walk_of s.nodes)

-- The same for an image of ZooKeeper 3.4.
abbrev pub FitsImage : State → Type 0
FitsImage = FitsImageIn Zk34
