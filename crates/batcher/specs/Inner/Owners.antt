-- Paths by number, and the groups that own them.
use Rattle.std.specs.Prelude.{◌≡◌, ℕ, List, Option, Some, None, map, length, slice_index_or}
use Rattle.std.specs.List.{AllByRecursion}
use Rattle.ephemerals.specs.Orders.{Bytes}
use Rattle.names.specs.Names.{number_among}
use Rattle.batcher.specs.declared.owners.Owners.{Owners}
use Rattle.batcher.specs.declared.owners.NewPath.{NewPath}

-- The group beside the number, if there is one.
abbrev pub group_beside : List (Option ℕ) → Option ℕ → Option ℕ
group_beside groups None = None
group_beside groups (Some number) = slice_index_or groups number None

-- The group that owns a path.
abbrev pub get_by_path : Owners → Bytes → Option ℕ
get_by_path owners path = group_beside owners.groups.items (number_among owners.names path)

-- There is a place beside each number.
abbrev pub AreBeside : Owners → Type 0
AreBeside owners = length owners.groups.items ≡ length owners.names

-- No number and no owner of a path has changed; only paths without a number may have got one.
pub record HaveNumbered (old new : Owners) : Type 0 where
  pub beside : AreBeside new
  pub numbers : (path : Bytes) (number : ℕ) → number_among old.names path ≡ Some number
      → number_among new.names path ≡ Some number
  pub owners : (path : Bytes) → get_by_path new path ≡ get_by_path old path

abbrev pub paths_of : List NewPath → List Bytes
paths_of paths = map (λ new. new.path) paths

-- Each has the number that its path has among the names.
abbrev pub AreNumbered : List Bytes → List NewPath → Type 0
AreNumbered names paths = AllByRecursion (λ (new : NewPath). number_among names new.path ≡ Some new.number) paths
