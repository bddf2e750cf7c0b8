-- What is told at most once in ten seconds.
use Rattle.std.specs.Prelude.{◌≡◌, ℕ, ◌+◌, ◌-◌, ◌<◌, ◌≤◌, Option, Some, None}
use Rattle.serve_log.specs.declared.pace.Refusals.{Refusals}

-- Nothing happened yet, or ten seconds have passed.
abbrev pub IsDue : Option ℕ → ℕ → Type 0
IsDue None now = Unit {0}
IsDue (Some last) now = 10000 ≤ now - last

-- What is told is all that is new, and then no more is to be told. Nothing is told before it is time, or where nothing is
-- new; and what isn't told stays to be told.
abbrev pub IsReport : Refusals → Option ℕ → Refusals → ℕ → ℕ → Type 0
IsReport old (Some fresh) new all now =
    (old.told + fresh ≡ all) × (0 < fresh) × IsDue old.pace.last now × (new.told ≡ all) × (new.pace.last ≡ Some now)
IsReport old None new all now = (new ≡ old) × (old.told < all → IsDue old.pace.last now → ⊥)
