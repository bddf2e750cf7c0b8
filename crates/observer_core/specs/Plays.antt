-- What a call of the engine returns and leaves.
use Rattle.std.specs.Prelude.{◌≡◌, List, ◌++◌, Result, Ok, Err, Option, Some, None}
use Rattle.values.specs.Gains.{Gains}
use Rattle.observer_core.specs.Machine.{Machine}
use Rattle.observer_core.specs.declared.event.Event.{Event}
use Rattle.world.specs.declared.output.Output.{Output}
use Rattle.observer_core.specs.declared.engine.Stop.{Stop}
use Rattle.observer_core.specs.declared.engine.Stop.TheVariants as stops
use Rattle.observer_core.specs.Play.{play}

-- An engine without a machine is closed: it returns `Closed` and appends nothing. A refused allocation closes the
-- engine after it has appended a prefix of the outputs.
abbrev pub PlaysEvents : Result (Unit {0}) Stop → Option Machine → List Event → List Output → List Output
    → Option Machine → Type 0
PlaysEvents (Ok u) (Some m) events old new after = (new ≡ old ++ (play m events).outputs)
    × (after ≡ Some (play m events).after)
PlaysEvents (Err stops.NoMemory) (Some m) events old new after = Gains old (play m events).outputs new × (after ≡ None)
PlaysEvents (Err stops.Closed) None events old new after = (new ≡ old) × (after ≡ None)
PlaysEvents (Ok u) None events old new after = ⊥
PlaysEvents (Err stops.NoMemory) None events old new after = ⊥
PlaysEvents (Err stops.Closed) (Some m) events old new after = ⊥
