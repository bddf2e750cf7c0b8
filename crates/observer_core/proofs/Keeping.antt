-- An invariant of each step is an invariant of the whole list.
use Rattle.std.proofs.Common.{◌≡◌, Bool, false, List, [], ◌∷◌}
use Rattle.std.proofs.lemmas.Bool.{cond_both}
use Rattle.world.specs.Steps.{StepResult, no_output, and_then, fold_steps}

-- No step is made where the state is at its end.
module _ {S A : Type 0} (P : S → Type 0) (is_end : S → Bool) (step : S → A → StepResult S)
    (kept : (s : S) (a : A) → is_end s ≡ false → P s → P (step s a).after) where
  pub happening_keeps : (s : S) (all : List A) → P s → P (fold_steps is_end step s all).after
  happening_keeps s [] p = p
  happening_keeps s (a ∷ others) p =
      cond_both (is_end s) (no_output s) (and_then (step s a) (λ after. fold_steps is_end step after others))
      (λ (h : StepResult S). P h.after) (λ e. p) (λ e. happening_keeps (step s a).after others (kept s a e p))
