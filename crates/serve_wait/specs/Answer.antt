-- Which answer counts, and how long is waited for it.
use Rattle.std.specs.Prelude.{ℕ, ◌-◌, ◌/◌, List, [], ◌∷◌, Option, Some, None, Bool, min, codes}
use Rattle.std.specs.Io.KnownBytes.{Consumes, IsAtEnd}
use Rattle.std.specs.Str.{bytes_eq}

-- Whether a server that answers `isro` so serves clients.
abbrev pub is_serving_answer : List ℕ → Bool
is_serving_answer answer = bytes_eq answer (codes "rw")

-- What a read of one byte says of the bytes that a reader has left before and after it, where these are known.
abbrev pub IsNextByte : Option (List ℕ) → Option (List ℕ) → Option ℕ → Type 0
IsNextByte old new None = IsAtEnd old
IsNextByte old new (Some byte) = Consumes old new (byte ∷ [])

-- What is left of some milliseconds after so many nanoseconds.
abbrev pub milliseconds_left : ℕ → ℕ → ℕ
milliseconds_left limit passed = limit - passed / 1000000

-- To connect and to answer, a server has a second each, or what is left.
abbrev pub try_limit : ℕ → ℕ
try_limit left = min left 1000

-- Between two tries there are 200 milliseconds, or what is left.
abbrev pub pause_limit : ℕ → ℕ
pause_limit left = min left 200
