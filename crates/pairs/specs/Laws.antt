-- The law of what a hasher is fed of a text.
use Rattle.std.specs.Prelude.{◌≡◌, ◌<◌, ℕ, All}
use Rattle.pairs.specs.Pairs.{Bytes}
use Rattle.pairs.specs.Fed.{fed_text}

abbrev pub IsByte : ℕ → Type 0
IsByte n = n < 256

-- Texts of which a hasher is fed the same are the same text.
abbrev pub AreFedApart : Type 0
AreFedApart = (s t : Bytes) → All IsByte s → All IsByte t → fed_text s ≡ fed_text t → s ≡ t
