-- `play`: the outputs of a machine for a list of events, and the machine after them.
use Rattle.std.specs.Prelude.{◌+◌, ℤ, List, Option, Some, None, Bool, false}
use Rattle.replica.specs.Replica.{Replica, new_replica, primed_replica}
use Rattle.replica.specs.Taking.{is_serving, checkpoint_replica}
use Rattle.sessions.specs.Credentials.{session_id_of}
use Rattle.sessions.specs.Sessions.{give_session}
use Rattle.world.specs.declared.world.Settings.{Settings}
use Rattle.observer_core.specs.declared.event.Event.{Event}
use Rattle.observer_core.specs.declared.event.Event.TheVariants.{LeaderUp, LeaderBytes, LeaderEnd, ClientUp, ClientBytes, ClientEnd, Expire, Checkpoint}
use Rattle.world.specs.World.{Clients, World}
use Rattle.observer_core.specs.Machine.{MachineBy, Machine}
use Rattle.world.specs.Steps.{StepResult, no_output, fold_steps}
use Rattle.world.specs.Clients.{idle_connection, heard_connection, with_connection, no_clients}
use Rattle.observer_core.specs.Leader.{StreamReader, part_reader, with_leader, meet_leader, take_leader_bytes, end_leader}
use Rattle.client_service.specs.Serve.{take_client_bytes, open_client, end_client, expire_session}

-- Clients are served once the leader has brought the replica up to date.
abbrev pub is_serving_clients : World → Bool
is_serving_clients w = is_serving w.replica

-- The machine with another world, and no output.
abbrev pub with_world : {L : Type 0} → MachineBy L → World → StepResult (MachineBy L)
with_world m w = no_output (record m { world = w })

-- A checkpoint makes the tree the base, while clients are served.
abbrev pub with_checkpoint : World → World
with_checkpoint w = record w { replica = checkpoint_replica w.replica }

-- What an event does, for either way to read the leader's stream.
abbrev pub play_event_by : {L : Type 0} → StreamReader L → MachineBy L → Event → StepResult (MachineBy L)
play_event_by side m LeaderUp = meet_leader side m.leader m.world
play_event_by side m (LeaderBytes bytes) = take_leader_bytes side m.leader m.world bytes
play_event_by side m LeaderEnd = end_leader side m.leader m.world
play_event_by side m (ClientUp n address) = with_world m (open_client n address m.world)
play_event_by side m (ClientBytes n bytes) =
    with_leader m.leader (take_client_bytes (is_serving_clients m.world) n m.world
    (heard_connection n m.world.clients) bytes)
play_event_by side m (ClientEnd n) = with_world m (end_client n m.world)
play_event_by side m (Expire session) = with_leader m.leader (expire_session m.world session)
play_event_by side m Checkpoint = with_world m (with_checkpoint m.world)

abbrev pub play_by : {L : Type 0} → StreamReader L → MachineBy L → List Event → StepResult (MachineBy L)
play_by side m events = fold_steps (λ m. false) (play_event_by side) m events

abbrev pub play_event : Machine → Event → StepResult Machine
play_event m event = play_event_by part_reader m event

abbrev pub play : Machine → List Event → StepResult Machine
play m events = play_by part_reader m events

-- ---- the machines at the start

abbrev pub initial_machine : {L : Type 0} → Settings → Replica → Option L → Clients → MachineBy L
initial_machine settings replica leader clients =
    record { leader = leader; world = record { settings = settings; replica = replica; clients = clients } }

-- The configured epochs, no leader and no client.
abbrev pub new_by : {L : Type 0} → StreamReader L → Settings → MachineBy L
new_by side settings = initial_machine settings (new_replica settings.dialect settings.epochs) None (no_clients settings)

-- The id of the session that a primed machine begins with: the first that its server gives out.
abbrev pub primed_session : Settings → ℤ
primed_session settings = session_id_of settings.server_id (settings.first_counter + 1)

-- Connection 1 is open and has the first session, whose id was the first to be given out. Its client has no address.
abbrev pub first_client : Settings → Clients
first_client settings =
    let nobody = no_clients settings in
    let named = record nobody.sessions { counter = settings.first_counter + 1 } in
    let given = give_session named 1 (primed_session settings) settings.timeouts.greatest in
    with_connection 1 (idle_connection None) (record nobody { sessions = given.after })

-- The machine follows a leader in epoch 1. Its tree has the first session, with the greatest timeout, and connection 1
-- has it.
abbrev pub primed_by : {L : Type 0} → StreamReader L → Settings → MachineBy L
primed_by side settings =
    initial_machine settings
    (primed_replica settings.dialect (primed_session settings) settings.timeouts.greatest)
    (Some (side.opened settings.dialect)) (first_client settings)

abbrev pub new_machine : Settings → Machine
new_machine settings = new_by part_reader settings

abbrev pub primed_machine : Settings → Machine
primed_machine settings = primed_by part_reader settings
