-- The timeouts of the sessions that connections have here.
use Rattle.std.specs.Prelude.{◌≡◌, ℤ, Option, Some, None, true}
use Rattle.std.specs.Int.Signed.{◌≤ℤ◌}
use Rattle.std.specs.FinMap as finmap
use Rattle.world.specs.World.{World}

-- A session that a connection has here has this timeout in the tree, in milliseconds.
pub record HasTimeout (w : World) (time_out : ℤ) : Type 0 where
  pub session : ℤ
  pub connected : finmap.contains_key w.clients.sessions.owners session ≡ true
  pub timeout : finmap.get w.replica.tree.sessions session ≡ Some time_out

-- The least number of which `P` holds; None if it holds of none.
abbrev pub IsLeast : (ℤ → Type 0) → Option ℤ → Type 0
IsLeast P None = (x : ℤ) → P x → ⊥
IsLeast P (Some least) = P least × ((x : ℤ) → P x → least ≤ℤ x)

abbrev pub IsLeastTimeout : World → Option ℤ → Type 0
IsLeastTimeout w least = IsLeast (HasTimeout w) least
