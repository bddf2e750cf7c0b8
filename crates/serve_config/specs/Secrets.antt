-- What a file of a secret has.
use Rattle.std.specs.Prelude.{ℕ, ◌-◌, ◌==◌, List, [], ◌∷◌, Option, None, length, take, nat_eq, if◌then◌else◌}
use Rattle.std.specs.List.{ends_with}
use Rattle.settings.specs.Settings.{secret_of}

-- The bytes in front of one newline at the end.
abbrev pub without_newline : List ℕ → List ℕ
without_newline content = if ends_with nat_eq content (10 ∷ []) then take (length content - 1) content else content

-- These bytes are the secret, unless there are none, or too many.
abbrev pub filed_secret : List ℕ → Option (List ℕ)
filed_secret content = if length (without_newline content) == 0 then None else secret_of (without_newline content)
