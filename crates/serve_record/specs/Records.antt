-- What a record has gained.
use Rattle.std.specs.Prelude.{◌≡◌, ◌⊎◌, ℕ, List, Option, Some, None, Bool, false}
use Rattle.std.specs.Io.KnownBytes.{Appends}

pub record Recorded (W : Type 0) : Type 0 where
  -- None if there is none, or it couldn't be written to.
  pub writer : Option W
  -- Nothing that was to be written is missing.
  pub is_whole : Bool

-- The writer gained such lines; or they couldn't be made or written, and the record has ended.
abbrev pub WriterGains : {W : Type 0} → (W → Option (List ℕ)) → (List ℕ → Type 0) → Recorded W → Recorded W
    → Option W → Type 0
WriterGains contents AreLines old new None = new ≡ old
WriterGains {W} contents AreLines old new (Some writer) =
    ((after : W) × (new ≡ record { writer = Some after; is_whole = old.is_whole })
    × (lines : List ℕ) × AreLines lines × Appends (contents writer) (contents after) lines)
    ⊎ (new ≡ record { writer = None; is_whole = false })

abbrev pub GainsLines : {W : Type 0} → (W → Option (List ℕ)) → (List ℕ → Type 0) → Recorded W → Recorded W → Type 0
GainsLines contents AreLines old new = WriterGains contents AreLines old new old.writer
