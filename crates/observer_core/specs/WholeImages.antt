-- A leader's stream may be taken part by part: the outputs and the world left are those of taking whole images.
use Rattle.std.specs.Prelude.{◌≡◌, List}
use Rattle.world.specs.declared.world.Settings.{Settings}
use Rattle.observer_core.specs.declared.event.Event.{Event}
use Rattle.observer_core.specs.Machine.{MachineBy}
use Rattle.world.specs.Steps.{StepResult}
use Rattle.observer_core.specs.Leader.{image_reader}
use Rattle.observer_core.specs.Play.{play, play_by, new_machine, primed_machine, new_by, primed_by}

-- The outputs are the same, and so is the world: tree, base, log, epochs and clients.
pub record HasSameEffect {L M : Type 0} (a : StepResult (MachineBy L)) (b : StepResult (MachineBy M)) : Type 0 where
  pub outputs : a.outputs ≡ b.outputs
  pub world : a.after.world ≡ b.after.world

-- For every list of events from the start on.
pub record PartsAreWholeImages : Type 0 where
  pub made : (settings : Settings) (events : List Event)
      → HasSameEffect (play (new_machine settings) events) (play_by image_reader (new_by image_reader settings) events)
  pub primed : (settings : Settings) (events : List Event)
      → HasSameEffect (play (primed_machine settings) events)
      (play_by image_reader (primed_by image_reader settings) events)
