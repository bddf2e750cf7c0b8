-- The ids of sessions that an observer gives out: none is asked for twice, whatever happens in between.
use Rattle.std.specs.Prelude.{◌≡◌, ◌⊎◌, ◌≤◌, ℕ, ℤ, List, Some, false}
use Rattle.settings.specs.Dialects.{reads_of}
use Rattle.forwarding.specs.declared.request.ConnectKind.TheVariants.{New}
use Rattle.forwarding.specs.declared.request.PendingConnect.{PendingConnect}
use Rattle.forwarding.specs.Queue.{waiting_connect}
use Rattle.forwarding.specs.Pending.{queue_of}
use Rattle.forwarding.specs.Laws.{Asks}
use Rattle.sessions.specs.Agreement.{IsGivenOut, IsNewId}
use Rattle.world.specs.World.{Clients}
use Rattle.observer_core.specs.declared.event.Event.{Event}
use Rattle.observer_core.specs.Machine.{Machine}
use Rattle.observer_core.specs.Play.{play}
use Rattle.observer_core.specs.Agreement.{ClientsAgree}

-- The connection's connect waits for a new session with this id.
abbrev pub WaitsForNew : ℕ → Clients → ℤ → Type 0
WaitsForNew n c session = Asks (queue_of c.pending n) session New

-- Each connect that waits asks for a new session.
abbrev pub AllAskForNew : Clients → Type 0
AllAskForNew c =
    (n : ℕ) (connect : PendingConnect) → waiting_connect (queue_of c.pending n) ≡ Some connect → connect.kind ≡ New

-- The server has given out the id of this session.
abbrev pub HasGivenOut : Clients → ℤ → Type 0
HasGivenOut c session = IsGivenOut c.sessions.terms.server_id c.sessions.counter session

-- The id isn't 0, was never given out before, and is given out now.
abbrev pub IsGivenBetween : Clients → Clients → ℤ → Type 0
IsGivenBetween before after session = IsNewId before.sessions session × HasGivenOut after session

pub record IdsAreGivenOnce : Type 0 where
  -- The server id, the timeouts, the secret and the super user's digest stay.
  pub terms : (m : Machine) (events : List Event)
      → (play m events).after.world.clients.sessions.terms ≡ m.world.clients.sessions.terms
  -- The counter never falls.
  pub counter : (m : Machine) (events : List Event)
      → m.world.clients.sessions.counter ≤ (play m events).after.world.clients.sessions.counter
  -- What was given out stays given out.
  pub stays : (m : Machine) (events : List Event) (session : ℤ) → HasGivenOut m.world.clients session
      → HasGivenOut (play m events).after.world.clients session
  -- A new session for which a connect waits was waited for before, by the same connection; or its id is a new one.
  pub asks : (m : Machine) (events : List Event) (session : ℤ) (n : ℕ) → ClientsAgree m.world.clients
      → WaitsForNew n (play m events).after.world.clients session
      → WaitsForNew n m.world.clients session
      ⊎ IsGivenBetween m.world.clients (play m events).after.world.clients session
  -- So no other connect ever asks for an id that was given out.
  pub once : (m : Machine) (events : List Event) (session : ℤ) (n : ℕ) → ClientsAgree m.world.clients
      → HasGivenOut m.world.clients session → WaitsForNew n (play m events).after.world.clients session
      → WaitsForNew n m.world.clients session
  -- Where sessions don't move between servers, each connect that waits asks for a new one.
  pub stays_new : (m : Machine) (events : List Event) → ClientsAgree m.world.clients
      → (reads_of m.world.settings.dialect).moved_sessions ≡ false → AllAskForNew m.world.clients
      → AllAskForNew (play m events).after.world.clients
