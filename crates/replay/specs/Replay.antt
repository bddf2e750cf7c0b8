-- The output of a replay of a text.
use Rattle.std.specs.Prelude.{◌≡◌, ℕ, List, [], ◌++◌, map, Option, Ok, Err, ◌⊎◌, if◌then◌else◌}
use Rattle.std.specs.List.{flat_map}
use Rattle.std.specs.FinMap as finmap
use Rattle.std.specs.Io.KnownBytes.{Appends, Keeps}
use Rattle.world.specs.declared.world.Settings.{Settings}
use Rattle.observer_core.specs.declared.event.Event.{Event}
use Rattle.observer_core.specs.declared.event.Event.TheVariants as events
use Rattle.world.specs.declared.output.Output.{Output}
use Rattle.observer_core.specs.Machine.{Machine}
use Rattle.world.specs.Steps.{StepResult}
use Rattle.observer_core.specs.Play.{play, new_machine, primed_machine}
use Rattle.values.specs.Gains.{Gains}
use Rattle.replay_script.specs.Script.{script_of}
use Rattle.replay_script.specs.declared.event.ScriptEvent.{ScriptEvent}
use Rattle.replay_script.specs.declared.event.ScriptEvent.TheVariants.{LeaderUp, LeaderBytes, LeaderEnd, ClientUp, ClientBytes, ClientEnd, Expire, Checkpoint}
use Rattle.replay_script.specs.declared.script.Script.{Script}
use Rattle.replay.specs.Lines.{output_line, end_line}
use Rattle.replay.specs.Ending.{status_of}
use Rattle.replay.specs.Writing.{WritesPart}
use Rattle.replay.specs.declared.ending.Ending.{Ending}
use Rattle.replay.specs.declared.ending.Ending.TheVariants.{Done, BadLine, Failed, NoMemory, NotClean, NoNode}

abbrev pub event_of_script : ScriptEvent → Event
event_of_script LeaderUp = events.LeaderUp
event_of_script (LeaderBytes bytes) = events.LeaderBytes bytes
event_of_script LeaderEnd = events.LeaderEnd
event_of_script (ClientUp client address) = events.ClientUp client address
event_of_script (ClientBytes client bytes) = events.ClientBytes client bytes
event_of_script (ClientEnd client) = events.ClientEnd client
event_of_script (Expire session) = events.Expire session
event_of_script Checkpoint = events.Checkpoint

abbrev pub settings_of : Script → Settings
settings_of script = record {
  server_id = script.server_id;
  epochs = script.epochs;
  timeouts = script.timeouts;
  secret = script.secret;
  first_counter = script.first_counter;
  dialect = script.dialect;
  super_digest = script.super_digest;
}

-- The observer at the start.
abbrev pub machine_of : Script → Machine
machine_of script = if script.primed then primed_machine (settings_of script) else new_machine (settings_of script)

-- The result of feeding the script's events to the observer that it sets up.
abbrev pub replay_of : Script → StepResult Machine
replay_of script = play (machine_of script) (map event_of_script script.events)

abbrev pub end_line_of : Machine → List ℕ
end_line_of m = end_line m.world.replica.learner.last_zxid (finmap.len m.world.replica.tree.nodes)

-- A line for each output, and the end line.
abbrev pub printed_lines : StepResult Machine → List ℕ
printed_lines all = flat_map output_line all.outputs ++ end_line_of all.after

-- The lines of the first outputs were written.
pub record WritesFront (old new : Option (List ℕ)) (outputs : List Output) : Type 0 where
  pub front : List Output
  pub first : Gains [] outputs front
  pub written : Appends old new (flat_map output_line front)

-- All outputs of a script were printed.
abbrev pub PrintsAll : Script → Option (List ℕ) → Option (List ℕ) → Type 0
PrintsAll script old new = Appends old new (printed_lines (replay_of script))

-- Nothing was printed, or the lines of the first outputs.
abbrev pub PrintsFront : Script → Option (List ℕ) → Option (List ℕ) → Type 0
PrintsFront script old new = Keeps old new ⊎ WritesFront old new (replay_of script).outputs

-- The output, by how the replay of a text ended: the lines of all outputs and the end line; nothing, if the text isn't
-- a script; after a refused allocation nothing, or the lines of the first outputs; and after a failed read or write
-- nothing, or a front of all these lines.
abbrev pub EndsReplay : Ending → List ℕ → Option (List ℕ) → Option (List ℕ) → Type 0
EndsReplay Done text old new = (script : Script) × (script_of text ≡ Ok script) × PrintsAll script old new
EndsReplay (BadLine number) text old new = (script_of text ≡ Err number) × Keeps old new
EndsReplay Failed text old new =
    Keeps old new
    ⊎ ((script : Script) × (script_of text ≡ Ok script) × WritesPart old new (printed_lines (replay_of script)))
EndsReplay NoMemory text old new =
    Keeps old new ⊎ ((script : Script) × (script_of text ≡ Ok script) × PrintsFront script old new)
EndsReplay NotClean text old new = ⊥
EndsReplay NoNode text old new = ⊥

-- The same by the exit status.
abbrev pub EndsReplayWith : ℕ → List ℕ → Option (List ℕ) → Option (List ℕ) → Type 0
EndsReplayWith status text old new = (ending : Ending) × (status ≡ status_of ending) × EndsReplay ending text old new
