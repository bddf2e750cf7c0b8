-- An observer without a leader: it serves nobody, and sends nothing for a leader until one comes.
use Rattle.std.specs.Prelude.{◌≡◌, ℕ, List, [], ◌∷◌, None, Bool, true, false}
use Rattle.std.specs.List.{AllByRecursion, list_any}
use Rattle.learner_sync.specs.Answers.{observer_info}
use Rattle.learner_sync.specs.declared.phase.Phase.TheVariants.{Down}
use Rattle.sessions.specs.Sessions.{session_of_connection}
use Rattle.forwarding.specs.Pending.{is_idle}
use Rattle.world.specs.declared.output.Output.{Output}
use Rattle.world.specs.declared.output.Output.TheVariants.{ToLeader, CloseLeader}
use Rattle.world.specs.declared.world.Settings.{Settings}
use Rattle.world.specs.World.{World}
use Rattle.world.specs.Sending.{to_leader}
use Rattle.observer_core.specs.declared.event.Event.{Event}
use Rattle.observer_core.specs.declared.event.Event.TheVariants.{LeaderUp, LeaderEnd}
use Rattle.observer_core.specs.Machine.{Machine}
use Rattle.observer_core.specs.Play.{play_event, play, new_machine, primed_machine}
use Rattle.observer_core.specs.Agreement.{ClientsAgree}

-- The output goes to the leader, or closes its connection.
abbrev pub is_for_leader : Output → Bool
is_for_leader (ToLeader bytes) = true
is_for_leader (CloseLeader e) = true
is_for_leader output = false

abbrev pub is_leader_close : Output → Bool
is_leader_close (CloseLeader e) = true
is_leader_close output = false

-- None of the outputs is for a leader.
abbrev pub NothingForLeader : List Output → Type 0
NothingForLeader outputs = AllByRecursion (λ output. is_for_leader output ≡ false) outputs

abbrev pub is_leader_up : Event → Bool
is_leader_up LeaderUp = true
is_leader_up event = false

-- No leader connects.
abbrev pub NoLeaderComes : List Event → Type 0
NoLeaderComes events = AllByRecursion (λ event. is_leader_up event ≡ false) events

-- No leader is followed, so that clients aren't served; no connection has a session, and no request waits.
pub record IsResting (w : World) : Type 0 where
  pub down : w.replica.learner.phase ≡ Down
  pub none : (n : ℕ) → session_of_connection w.clients.sessions n ≡ None
  pub idle : (n : ℕ) → is_idle w.clients.pending n ≡ true

-- If the machine has no leader, it rests.
abbrev pub RestsWithoutLeader : Machine → Type 0
RestsWithoutLeader m = m.leader ≡ None → IsResting m.world

pub record SilentWithoutLeader : Type 0 where
  -- A machine without a leader rests: at the start, and after every list of events, whichever of them ended its leader.
  pub starts : (settings : Settings) → RestsWithoutLeader (new_machine settings)
  pub starts_primed : (settings : Settings) → RestsWithoutLeader (primed_machine settings)
  pub plays : (m : Machine) (events : List Event) → ClientsAgree m.world.clients → RestsWithoutLeader m
      → RestsWithoutLeader (play m events).after
  -- There is no leader after the end of its connection, nor after an event that closes the leader.
  pub ends : (m : Machine) → (play_event m LeaderEnd).after.leader ≡ None
  pub closes : (m : Machine) (event : Event) → list_any is_leader_close (play_event m event).outputs ≡ true
      → (play_event m event).after.leader ≡ None
  -- While it rests and no leader comes, there is none, and nothing goes out for one.
  pub stays : (m : Machine) (events : List Event) → m.leader ≡ None → IsResting m.world → NoLeaderComes events
      → (play m events).after.leader ≡ None
  pub silent : (m : Machine) (events : List Event) → m.leader ≡ None → IsResting m.world → NoLeaderComes events
      → NothingForLeader (play m events).outputs
  -- A leader that comes is sent the introduction, and nothing else goes out.
  pub introduces : (m : Machine) → m.leader ≡ None → IsResting m.world
      → (play_event m LeaderUp).outputs
      ≡ to_leader (observer_info m.world.replica.learner m.world.settings.server_id) ∷ []
