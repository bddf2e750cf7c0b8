-- What is stored in a value itself, if it is short, or in a block of memory.
use Rattle.std.specs.Prelude.{ℕ, ◌≤◌, List, take, string_bytes, IsUtf8}
use Rattle.values.specs.declared.value.Stored.{Stored}
use Rattle.values.specs.declared.value.Stored.TheVariants.{Short, Long}
use Rattle.values.specs.declared.value.StoredText.{StoredText}
use Rattle.values.specs.declared.value.StoredText.TheVariants as text

abbrev pub stored_bytes : Stored → List ℕ
stored_bytes (Short len bytes) = take len bytes
stored_bytes (Long bytes) = bytes.items

-- No more lie in the value than it has room for.
abbrev pub IsStored : Stored → Type 0
IsStored (Short len bytes) = len ≤ 30
IsStored (Long bytes) = Unit {0}

abbrev pub stored_text : StoredText → List ℕ
stored_text (text.Short len bytes) = take len bytes
stored_text (text.Long long) = string_bytes long

abbrev pub IsStoredText : StoredText → Type 0
IsStoredText (text.Short len bytes) = (len ≤ 30) × IsUtf8 (take len bytes)
IsStoredText (text.Long long) = Unit {0}
