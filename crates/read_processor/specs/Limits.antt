-- The length of a reply's body.
use Rattle.std.specs.Prelude.{ℕ, List, length, Option, Some, None, ◌^◌, ◌-◌, nat_le, if◌then◌else◌}

-- The longest body in bytes: what a frame holds after the 16 bytes of a reply's header.
abbrev pub body_limit : ℕ
body_limit = 2 ^ 31 - 1 - 16

-- None if the body is too long for a frame.
abbrev pub fitting_body : List ℕ → Option (List ℕ)
fitting_body text = if nat_le (length text) body_limit then Some text else None
