-- The contract of a function that makes a step.
use Rattle.std.specs.Prelude.{◌≡◌, List, ◌++◌, Result, Ok, Err}
use Rattle.values.specs.Gains.{Gains}
use Rattle.values.specs.declared.fault.NoMemory.{NoMemory}
use Rattle.world.specs.declared.output.Output.{Output}
use Rattle.world.specs.Steps.{StepResult, prepend_outputs}

-- The whole step was made; or an allocation was refused, and a prefix of the outputs was appended.
abbrev pub MeetsStep : {S : Type 0} → Result (Unit {0}) NoMemory → List Output → StepResult S → List Output → S → Type 0
MeetsStep (Ok u) old whole new after = prepend_outputs old whole ≡ record { outputs = new; after = after }
MeetsStep (Err e) old whole new after = Gains old whole.outputs new

-- The same of a stage: the outputs so far, and a world that the step is made on.
abbrev pub MakesStep : {S T : Type 0} → Result (Unit {0}) NoMemory → StepResult S → (S → StepResult T) → StepResult T → Type 0
MakesStep result old step new = MeetsStep result old.outputs (step old.after) new.outputs new.after

-- The outputs so far are a prefix of the whole, and what is left leads to the rest.
pub record SoFar {S : Type 0} (old : List Output) (whole : StepResult S) (now : List Output)
    (left : StepResult S) : Type 0 where
  pub front : List Output
  pub put : now ≡ old ++ front
  pub leads : prepend_outputs front left ≡ whole
