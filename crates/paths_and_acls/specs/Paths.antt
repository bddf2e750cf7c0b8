-- Paths of nodes (ZooKeeper Programmer's Guide, "The ZooKeeper Data Model").
use Rattle.std.specs.Prelude.{ℕ, Bool, true, false, not, ◌&&◌, ◌||◌, ◌==◌, List, [], ◌∷◌, ◌++◌, Result, Ok, Err, if◌then◌else◌}
use Rattle.std.specs.List.{list_all, slice_split}
use Rattle.values.specs.declared.fault.Fault.{Fault}
use Rattle.values.specs.declared.fault.Fault.TheVariants.{BadPath}

abbrev pub is_name : List ℕ → Bool
is_name [] = false
is_name (b ∷ name) = true

-- No byte is NUL, and the names between the slashes aren't empty.
abbrev pub are_names : List ℕ → Bool
are_names text = list_all (λ b. not (b == 0)) text && list_all is_name (slice_split (λ b. b == 47) text)

-- A slash, and names.
abbrev pub is_child_path : List ℕ → Bool
is_child_path [] = false
is_child_path (b ∷ names) = b == 47 && are_names names

-- The text "/".
abbrev pub is_root : List ℕ → Bool
is_root [] = false
is_root (b ∷ []) = b == 47
is_root (b ∷ c ∷ bytes) = false

abbrev pub is_path : List ℕ → Bool
is_path bytes = is_root bytes || is_child_path bytes

-- The text as a path.
abbrev pub checked_path : List ℕ → Result (List ℕ) Fault
checked_path p = if is_path p then Ok p else Err BadPath

-- The text as the path of a node that has a parent.
abbrev pub checked_child_path : List ℕ → Result (List ℕ) Fault
checked_child_path p = if is_child_path p then Ok p else Err BadPath

abbrev pub has_slash : List ℕ → Bool
has_slash [] = false
has_slash (b ∷ bytes) = b == 47 || has_slash bytes

-- The bytes before the last slash; none if there is no slash.
abbrev pub before_last_slash : List ℕ → List ℕ
before_last_slash [] = []
before_last_slash (b ∷ bytes) = if has_slash bytes then b ∷ before_last_slash bytes else []

-- The bytes after the last slash; all if there is no slash.
abbrev pub after_last_slash : List ℕ → List ℕ
after_last_slash [] = []
after_last_slash (b ∷ bytes) = if b == 47 || has_slash bytes then after_last_slash bytes else b ∷ bytes

-- The empty text means "/".
abbrev pub or_root : List ℕ → List ℕ
or_root [] = 47 ∷ []
or_root (b ∷ bytes) = b ∷ bytes

-- The bytes before the last slash; the parent of "/a" and of "/" is "/".
abbrev pub parent_of : List ℕ → List ℕ
parent_of path = or_root (before_last_slash path)

-- The bytes after the last slash; the name of "/" is empty.
abbrev pub name_of : List ℕ → List ℕ
name_of path = after_last_slash path

-- The path of the child with this name; the child "a" of "/" is "/a".
abbrev pub child_of : List ℕ → List ℕ → List ℕ
child_of path name = if is_root path then path ++ name else path ++ 47 ∷ name
