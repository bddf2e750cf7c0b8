-- Steps of a machine, one after the other.
use Rattle.std.specs.Prelude.{List, [], ◌∷◌, ◌++◌, Bool, if◌then◌else◌, refl}
use Rattle.std.specs.Coded.{Coded, code_by, coded×, coded_list}
use Rattle.world.specs.declared.output.Output.{Output}

-- The outputs of a step, and the state after it.
pub record StepResult (S : Type 0) : Type 0 where
  pub outputs : List Output
  pub after : S

-- These outputs come before those of the step.
abbrev pub prepend_outputs : {S : Type 0} → List Output → StepResult S → StepResult S
prepend_outputs so_far h = record { outputs = so_far ++ h.outputs; after = h.after }

abbrev pub no_output : {S : Type 0} → S → StepResult S
no_output s = record { outputs = []; after = s }

-- One step, and then another on the state that it left.
abbrev pub and_then : {S T : Type 0} → StepResult S → (S → StepResult T) → StepResult T
and_then h next = prepend_outputs h.outputs (next h.after)

-- A step for each element, in order. Once the state is at its end, the rest of the list is skipped.
abbrev pub fold_steps : {S A : Type 0} → (S → Bool) → (S → A → StepResult S) → S → List A → StepResult S
fold_steps is_end step s [] = no_output s
fold_steps is_end step s (a ∷ others) = if is_end s then no_output s else and_then (step s a)
    (λ after. fold_steps is_end step after others)

abbrev pub step_result_code : {S : Type 0} → Coded Output → Coded S → Coded (StepResult S)
step_result_code {S} output after =
    code_by (List Output × S) (coded× (coded_list output) after) (λ s. (s.outputs, s.after))
    (λ p. record { outputs = p.0; after = p.1 }) (λ _. refl)
