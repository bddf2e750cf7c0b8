-- Touching a session changes nothing but the sessions that were touched.
use Rattle.std.proofs.Common.{◌≡◌, ℕ, ℤ, Option, Some, None, refl}
use Rattle.std.specs.FinSet as set
use Rattle.sessions.specs.Sessions.{session_of_connection}
use Rattle.forwarding.specs.State.{TouchedSessions}
use Rattle.world.specs.World.{World}
use Rattle.world.specs.Sending.{with_pending}
use Rattle.client_service.specs.Serve.{touched_as, touch_client}

abbrev touched_with : TouchedSessions → Option ℤ → TouchedSessions
touched_with touched None = touched
touched_with touched (Some session) = set.insert touched session

abbrev world_touched : World → Option ℤ → World
world_touched w o = with_pending w (record w.clients.pending { touched = touched_with w.clients.pending.touched o })

-- The world with the session of the connection touched.
abbrev pub with_touched : ℕ → World → World
with_touched n w = world_touched w (session_of_connection w.clients.sessions n)

touched_is : (w : World) (o : Option ℤ) → touched_as w o ≡ world_touched w o
touched_is w None = refl
touched_is w (Some session) = refl

pub touch_is : (n : ℕ) (w : World) → touch_client n w ≡ with_touched n w
touch_is n w = touched_is w (session_of_connection w.clients.sessions n)
