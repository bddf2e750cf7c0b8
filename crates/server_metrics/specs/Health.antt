-- When a server is healthy.
use Rattle.std.specs.Prelude.{ℕ, ◌/◌, ◌&&◌, Bool, true, false, nat_lt, not, if◌then◌else◌}
use Rattle.server_metrics.specs.declared.health.Health.{Health}
use Rattle.server_metrics.specs.declared.health.Health.TheVariants.{Healthy, NotServing, Silent}

-- The silence is in microseconds and the limit in milliseconds; with limit 0 a leader may be silent for any time.
abbrev pub is_silent : ℕ → ℕ → Bool
is_silent silence limit = nat_lt 0 limit && nat_lt limit (silence / 1000)

-- It serves clients, and its leader was heard within the limit.
abbrev pub health_of : Bool → ℕ → ℕ → Health
health_of false silence limit = NotServing
health_of true silence limit = if is_silent silence limit then Silent (silence / 1000) else Healthy

-- Its engine made a turn in the last ten seconds. The time since then is in microseconds.
abbrev pub makes_turns : ℕ → Bool
makes_turns since_turn = not (nat_lt 10000000 since_turn)
