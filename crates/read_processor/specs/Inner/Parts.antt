-- Bytes after a body, while a frame holds them.
use Rattle.std.specs.Prelude.{ℕ, List, ◌++◌, Option}
use Rattle.std.specs.Option.{option_and_then}
use Rattle.read_processor.specs.Limits.{fitting_body}

-- The body followed by these bytes, if there are any and a frame holds them.
abbrev pub body_followed_by : List ℕ → Option (List ℕ) → Option (List ℕ)
body_followed_by body more = option_and_then (λ x. fitting_body (body ++ x)) more
