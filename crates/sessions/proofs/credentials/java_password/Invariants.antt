use Rattle.std.proofs.Common.{◌≡◌, ◌++◌, ◌-◌, ◌*◌, length, take}
use Rattle.sessions.specs.Credentials.{random_bytes}
use Rattle.sessions.proofs.credentials.java_password.Given as goal

abbrev pub invariant-loop-place : goal.invariant-loop-place
invariant-loop-place l =
    (length l.password ≡ 16)
    × (take (4 * l.place) l.password ++ random_bytes (4 - l.place) l.state ≡ random_bytes 4 l.initial.state)
