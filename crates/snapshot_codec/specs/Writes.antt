-- The contracts of the functions that write an image.
use Rattle.std.specs.Prelude.{◌≡◌, ◌≢◌, ℕ, ℤ, List, [], ◌++◌, map, length, Some, Result, Ok, Err, if◌then◌else◌}
use Rattle.std.specs.Borrow.{Bor}
use Rattle.std.specs.BTreeMap as tree
use Rattle.std.specs.BTreeMap.{btree_map_len}
use Rattle.std.specs.Cmp.Lexicographic.{slice_cmp}
use Rattle.std.specs.List.{flat_map, AllByRecursion}
use Rattle.std.specs.Ordering.{nat_cmp}
use Rattle.std.specs.declared.vec.Vec.{Vec}
use Rattle.settings.specs.declared.dialect.Dialect.{Dialect}
use Rattle.ephemerals.specs.Orders.{Bytes}
use Rattle.jute.specs.Codes.{open_acl}
use Rattle.jute.specs.Format.{int, long, count_format, count_limit, text_format, vector_of, pair_of}
use Rattle.jute.specs.Owned.{acl_format}
use Rattle.jute.specs.declared.owned.Acl.{Acl}
use Rattle.paths_and_acls.specs.Paths.{is_root}
use Rattle.node_map.specs.declared.node.Node.{Node}
use Rattle.snapshot_codec.specs.Dialects.{stored_stat, KeepsOwner}
use Rattle.snapshot_codec.specs.Parts.{node_body, list_format}
use Rattle.snapshot_codec.specs.Written.{Lists, key_in, with_list, key_of}
use Rattle.snapshot_codec.specs.declared.depth_first.WalkPath.{WalkPath}
use Rattle.snapshot_codec.specs.declared.key_table.KeyTable.{KeyTable}
use Rattle.snapshot_codec.specs.declared.write_error.WriteError.{WriteError}
use Rattle.snapshot_codec.specs.declared.write_error.WriteError.TheVariants.{NotWhole, NoMemory}

-- ---- appending

-- The bytes were appended, and they fit; or they don't fit.
abbrev pub WritesBytes : Result (Unit {0}) WriteError → List ℕ → List ℕ → List ℕ → Type 0 → Type 0
WritesBytes (Ok u) bytes old new Fits = (new ≡ old ++ bytes) × Fits
WritesBytes (Err NotWhole) bytes old new Fits = ¬ Fits
WritesBytes (Err NoMemory) bytes old new Fits = Unit {0}

-- ---- sessions

abbrev pub FitSessions : List (ℤ × ℤ) → Type 0
FitSessions ids = (count_format count_limit).Fits (Some (length ids)) × AllByRecursion (pair_of long int).Fits ids

abbrev pub sessions_bytes : List (ℤ × ℤ) → List ℕ
sessions_bytes ids = (count_format count_limit).written (Some (length ids)) ++ flat_map (pair_of long int).written ids

-- ---- lists

abbrev pub FitsList : Dialect → List Acl → Type 0
FitsList dialect list = (list_format dialect).Fits (Some list)

abbrev pub list_bytes : List Acl → List ℕ
list_bytes list = (vector_of acl_format).written (Some list)

abbrev pub GivesList : {Z : Type 0} → Dialect → Result (Vec ℕ Z) WriteError → List Acl → Type 0
GivesList dialect (Ok bytes) list = (bytes.items ≡ list_bytes list) × FitsList dialect list
GivesList dialect (Err NotWhole) list = ¬ FitsList dialect list
GivesList dialect (Err NoMemory) list = Unit {0}

abbrev pub FitLists : Dialect → Lists → Type 0
FitLists dialect lists =
    (count_format count_limit).Fits (Some (length lists))
    × AllByRecursion (λ (l : ℤ × List Acl). (pair_of long (list_format dialect)).Fits (l.0, Some l.1)) lists

abbrev pub keyed_bytes : ℤ × List Acl → List ℕ
keyed_bytes l = (pair_of long (vector_of acl_format)).written (l.0, Some l.1)

abbrev pub table_bytes : Lists → List ℕ
table_bytes lists = (count_format count_limit).written (Some (length lists)) ++ flat_map keyed_bytes lists

-- The table has these lists, and finds each by its bytes.
pub record IsTable (dialect : Dialect) (table : KeyTable) (lists : Lists) : Type 0 where
  pub found : (list : List Acl) → FitsList dialect list
      → tree.get_by (λ k. slice_cmp nat_cmp (list_bytes list) k.items) table.keys ≡ key_in lists list
  pub many : btree_map_len table.keys ≡ length lists
  pub written : table.written.items ≡ flat_map keyed_bytes lists
  pub fit : FitLists dialect lists

-- One more list was added, if it had no key yet.
abbrev pub AddsList : Dialect → Result (Unit {0}) WriteError → Lists → List Acl → KeyTable → Type 0
AddsList dialect (Ok u) lists list new = IsTable dialect new (with_list lists list)
AddsList dialect (Err NotWhole) lists list new = ¬ FitLists dialect (with_list lists list)
AddsList dialect (Err NoMemory) lists list new = Unit {0}

abbrev pub MakesTable : Dialect → Result KeyTable WriteError → Lists → Type 0
MakesTable dialect (Ok table) lists = IsTable dialect table lists
MakesTable dialect (Err NotWhole) lists = ¬ FitLists dialect lists
MakesTable dialect (Err NoMemory) lists = Unit {0}

-- The key, which is a long; or the list doesn't fit.
abbrev pub NamesKey : Dialect → Result ℤ WriteError → Lists → List Acl → Type 0
NamesKey dialect (Ok key) lists list = key ≡ key_of lists list
NamesKey dialect (Err NotWhole) lists list = (list ≢ open_acl) × ¬ FitsList dialect list
NamesKey dialect (Err NoMemory) lists list = Unit {0}

-- ---- nodes

-- The nodes of the rows.
abbrev pub shown_rows : List (WalkPath × Bor Node) → List (Bytes × Node)
shown_rows rows = map (λ e. (e.0.text.now, e.1.now)) rows

abbrev pub FitsNode : Dialect → Bytes → Node → ℤ → Type 0
FitsNode dialect path node key =
    text_format.Fits (Some path) × (node_body.Fits (node.bytes, (key, stored_stat node)) × KeepsOwner dialect node)

-- The root's path is written as the empty path.
abbrev pub node_bytes : Bytes → Node → ℤ → List ℕ
node_bytes path node key =
    text_format.written (Some (if is_root path then [] else path))
    ++ node_body.written (node.bytes, (key, stored_stat node))

abbrev pub FitNodes : Dialect → Lists → List (Bytes × Node) → Type 0
FitNodes dialect lists es = AllByRecursion (λ (e : Bytes × Node). FitsNode dialect e.0 e.1 (key_of lists e.1.acl)) es

abbrev pub nodes_bytes : Lists → List (Bytes × Node) → List ℕ
nodes_bytes lists es = flat_map (λ (e : Bytes × Node). node_bytes e.0 e.1 (key_of lists e.1.acl)) es
