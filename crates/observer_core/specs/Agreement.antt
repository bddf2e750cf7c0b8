-- How sessions, watches, waiting requests and open connections refer to each other.
use Rattle.std.specs.Prelude.{◌≡◌, ℕ, ℤ, List, Some, None, true, false, IsTrue}
use Rattle.std.specs.FinMap as finmap
use Rattle.settings.specs.Settings.{is_server_id, is_first_counter}
use Rattle.settings.specs.Dialects.{reads_of}
use Rattle.sessions.specs.Sessions.{session_of_connection}
use Rattle.sessions.specs.Agreement.{SessionsAgree}
use Rattle.watch_manager.specs.Laws.{WatchersPass}
use Rattle.forwarding.specs.declared.request.PendingConnect.{PendingConnect}
use Rattle.forwarding.specs.Queue.{waiting_connect}
use Rattle.forwarding.specs.Pending.{is_idle, queue_of}
use Rattle.forwarding.specs.Agreement.{PendingAgrees}
use Rattle.forwarding.specs.Laws.{WaitsForLeader}
use Rattle.world.specs.declared.world.Settings.{Settings}
use Rattle.observer_core.specs.declared.event.Event.{Event}
use Rattle.world.specs.World.{Clients, World}
use Rattle.observer_core.specs.Machine.{Machine}
use Rattle.world.specs.Clients.{is_open}
use Rattle.client_service.specs.Serve.{is_live}
use Rattle.observer_core.specs.Play.{is_serving_clients, play, new_machine, primed_machine}

-- Sessions, watches and waiting requests name open connections.
pub record ClientsAgree (c : Clients) : Type 0 where
  -- Each connection's session has that connection, and no other.
  pub sessions : SessionsAgree c.sessions
  -- Every connection that has a session is open.
  pub joined : (n : ℕ) → finmap.contains_key c.sessions.connections n ≡ true → is_open n c ≡ true
  -- Every connection that watches something is open.
  pub watching : WatchersPass (λ n. is_open n c) c.watches
  -- The requests that wait, the list of syncs and the waiting connects fit together.
  pub pending : PendingAgrees c.pending
  -- Every connection of which a request waits is open.
  pub waiting : (n : ℕ) → is_idle c.pending n ≡ false → is_open n c ≡ true
  -- A connection whose connect waits has no session yet.
  pub connecting : (n : ℕ) (connect : PendingConnect) → waiting_connect (queue_of c.pending n) ≡ Some connect
      → finmap.get c.sessions.connections n ≡ None

-- No two connections have one session.
abbrev pub OneSessionEach : Type 0
OneSessionEach = (c : Clients) → ClientsAgree c → (m n : ℕ) (session : ℤ)
    → session_of_connection c.sessions m ≡ Some session → session_of_connection c.sessions n ≡ Some session → m ≡ n

-- The clients agree at the start, and no event ends that.
pub record ConnectionsAgree : Type 0 where
  pub starts : (settings : Settings) → IsTrue (is_server_id settings.server_id)
      → IsTrue (is_first_counter settings.first_counter) → ClientsAgree (new_machine settings).world.clients
  pub starts_primed : (settings : Settings) → IsTrue (is_server_id settings.server_id)
      → IsTrue (is_first_counter settings.first_counter) → ClientsAgree (primed_machine settings).world.clients
  pub plays : (m : Machine) (events : List Event) → ClientsAgree m.world.clients
      → ClientsAgree (play m events).after.world.clients
  pub apart : OneSessionEach

-- Where clients aren't served no connection has a session, and none has a request that waits.
pub record IsQuietUnlessServing (w : World) : Type 0 where
  pub none : is_serving_clients w ≡ false → (n : ℕ) → session_of_connection w.clients.sessions n ≡ None
  pub idle : is_serving_clients w ≡ false → (n : ℕ) → is_idle w.clients.pending n ≡ true

-- This holds at the start, and no event ends it.
pub record SessionsAreServed : Type 0 where
  pub starts : (settings : Settings) → IsQuietUnlessServing (new_machine settings).world
  pub starts_primed : (settings : Settings) → IsQuietUnlessServing (primed_machine settings).world
  pub plays : (m : Machine) (events : List Event) → ClientsAgree m.world.clients → IsQuietUnlessServing m.world
      → IsQuietUnlessServing (play m events).after.world

-- The session of each connection lives: the tree has it.
abbrev pub AllSessionsLive : World → Type 0
AllSessionsLive w = (n : ℕ) (session : ℤ) → session_of_connection w.clients.sessions n ≡ Some session
    → is_live session w ≡ true

-- So it is unless sessions move between servers: then the leader says which live, and the tree may have one of them only
-- later.
abbrev pub SessionsLive : World → Type 0
SessionsLive w = (reads_of w.replica.learner.dialect).moved_sessions ≡ false → AllSessionsLive w

-- This holds at the start, and no event ends it: a connection closes with its session.
pub record ConnectedSessionsLive : Type 0 where
  pub starts : (settings : Settings) → SessionsLive (new_machine settings).world
  pub starts_primed : (settings : Settings) → SessionsLive (primed_machine settings).world
  pub plays : (m : Machine) (events : List Event) → ClientsAgree m.world.clients → IsQuietUnlessServing m.world
      → SessionsLive m.world → SessionsLive (play m events).after.world

-- What waits of each connection is nothing, or begins with a request that only the leader can answer.
abbrev pub OnlyLeaderIsAwaited : World → Type 0
OnlyLeaderIsAwaited w = (n : ℕ) → WaitsForLeader (queue_of w.clients.pending n)

-- This holds at the start, and no event ends it.
pub record NothingWaitsInVain : Type 0 where
  pub starts : (settings : Settings) → OnlyLeaderIsAwaited (new_machine settings).world
  pub starts_primed : (settings : Settings) → OnlyLeaderIsAwaited (primed_machine settings).world
  pub plays : (m : Machine) (events : List Event) → ClientsAgree m.world.clients → OnlyLeaderIsAwaited m.world
      → OnlyLeaderIsAwaited (play m events).after.world
