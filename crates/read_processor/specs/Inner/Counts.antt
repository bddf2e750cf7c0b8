-- Lengths in bytes, counted up to what a frame holds.
use Rattle.std.specs.Prelude.{ℕ, ◌≡◌, ◌≤◌, ◌<◌, Option, Some, None}
use Rattle.read_processor.specs.Limits.{body_limit}

-- The count of these bytes; none if they are more than a frame holds.
abbrev pub CountsBytes : Option ℕ → ℕ → Type 0
CountsBytes None bytes = body_limit < bytes
CountsBytes (Some count) bytes = (count ≡ bytes) × (bytes ≤ body_limit)
