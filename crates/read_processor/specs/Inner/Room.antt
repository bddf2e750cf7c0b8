-- Bytes with room before them.
use Rattle.std.specs.Prelude.{ℕ, List, length, ◌+◌, ◌≤◌}
use Rattle.read_processor.specs.Limits.{body_limit}

-- Room for a length and a header, and after it a body that a frame holds.
abbrev pub HasHeaderRoom : List ℕ → Type 0
HasHeaderRoom bytes = (20 ≤ length bytes) × (length bytes ≤ 20 + body_limit)
