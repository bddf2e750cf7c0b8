-- What holds of a machine at the start, and after every list of events.
use Rattle.std.specs.Prelude.{List, IsTrue}
use Rattle.settings.specs.Settings.{is_server_id, is_first_counter}
use Rattle.replica.specs.Laws.{FollowsItsLog}
use Rattle.world.specs.declared.world.Settings.{Settings}
use Rattle.observer_core.specs.declared.event.Event.{Event}
use Rattle.observer_core.specs.Machine.{Machine}
use Rattle.observer_core.specs.Play.{play, new_machine, primed_machine}
use Rattle.observer_core.specs.Agreement.{ClientsAgree, IsQuietUnlessServing, SessionsLive, OnlyLeaderIsAwaited}
use Rattle.observer_core.specs.Leaderless.{RestsWithoutLeader}

pub record MachineIsSound (m : Machine) : Type 0 where
  -- Sessions, watches and waiting requests name open connections, and no two connections have one session.
  pub agrees : ClientsAgree m.world.clients
  -- No connection has a session, or a request that waits, where clients aren't served.
  pub quiet : IsQuietUnlessServing m.world
  -- The session of each connection lives.
  pub live : SessionsLive m.world
  -- What waits of a connection begins with a request that only the leader can answer.
  pub awaits : OnlyLeaderIsAwaited m.world
  -- The tree is the base with the log applied.
  pub follows : FollowsItsLog m.world.replica
  -- Without a leader the machine rests.
  pub rests : RestsWithoutLeader m

pub record MachinesAreSound : Type 0 where
  pub starts : (settings : Settings) → IsTrue (is_server_id settings.server_id)
      → IsTrue (is_first_counter settings.first_counter) → MachineIsSound (new_machine settings)
  pub starts_primed : (settings : Settings) → IsTrue (is_server_id settings.server_id)
      → IsTrue (is_first_counter settings.first_counter) → MachineIsSound (primed_machine settings)
  pub plays : (m : Machine) (events : List Event) → MachineIsSound m → MachineIsSound (play m events).after
