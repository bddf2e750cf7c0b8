-- Steps one after the other.
use Rattle.std.proofs.Common.{◌≡◌, Bool, true, false, cond, List, [], ◌∷◌, ◌++◌, Result, Ok, Err, refl, sym, ap, subst, ◌∙◌, append_assoc}
use Rattle.std.proofs.lemmas.List.{append-nil}
use Rattle.values.specs.Gains.{Gains}
use Rattle.values.proofs.Gaining.{gains_first, gains_behind}
use Rattle.world.specs.declared.output.Output.{Output}
use Rattle.values.specs.declared.fault.NoMemory.{NoMemory}
pub use Rattle.world.specs.Results.{SoFar}
use Rattle.world.specs.Results.{MeetsStep}
use Rattle.world.specs.Steps.{StepResult, prepend_outputs, no_output, and_then, fold_steps}

pub behind_behind : {S : Type 0} (x y : List Output) (h : StepResult S)
    → prepend_outputs x (prepend_outputs y h) ≡ prepend_outputs (x ++ y) h
behind_behind x y h = ap (λ (o : List Output). record { outputs = o; after = h.after })
    (sym (append_assoc x y h.outputs))

module _ {S A : Type 0} (is_end : S → Bool) (step : S → A → StepResult S) where
  abbrev run : S → List A → StepResult S
  run s xs = fold_steps is_end step s xs

  pub passed_over : (s : S) (xs : List A) → is_end s ≡ true → run s xs ≡ no_output s
  passed_over s [] e = refl
  passed_over s (a ∷ xs) e = ap (λ b. cond b (no_output s)
      (prepend_outputs (step s a).outputs (run (step s a).after xs))) e

  pub goes_on : (s : S) (a : A) (xs : List A) → is_end s ≡ false → run s (a ∷ xs) ≡ prepend_outputs (step s a).outputs
      (run (step s a).after xs)
  goes_on s a xs e = ap (λ b. cond b (no_output s) (prepend_outputs (step s a).outputs (run (step s a).after xs))) e

  abbrev then_run : StepResult S → List A → StepResult S
  then_run h xs = prepend_outputs h.outputs (run h.after xs)

  -- The steps of two lists, one after the other.
  pub happening_on : (s : S) (xs ys : List A) → run s (xs ++ ys) ≡ then_run (run s xs) ys
  happening_on s [] ys = refl
  happening_on s (a ∷ xs) ys = by (is_end s) refl (happening_on (step s a).after xs ys)
    where
      by : (b : Bool) → is_end s ≡ b → run (step s a).after (xs ++ ys) ≡ then_run (run (step s a).after xs) ys
          → cond b (no_output s) (prepend_outputs (step s a).outputs (run (step s a).after (xs ++ ys))) ≡ then_run
          (cond b (no_output s) (prepend_outputs (step s a).outputs (run (step s a).after xs))) ys
      by true e others = sym (passed_over s ys e)
      by false e others = ap (prepend_outputs (step s a).outputs) others ∙ behind_behind (step s a).outputs
          (run (step s a).after xs).outputs (run (run (step s a).after xs).after ys)

-- ---- what a loop keeps

module _ {S : Type 0} where
  pub begins : (old : List Output) (whole : StepResult S) → SoFar old whole old whole
  begins old whole = record { front = []; put = sym (append-nil old); leads = refl }

  pub same_left : (old : List Output) (whole : StepResult S) (now : List Output) (left next : StepResult S)
      → left ≡ next
      → SoFar old whole now left → SoFar old whole now next
  same_left old whole now left next e s = record {
    front = s.front;
    put = s.put;
    leads = ap (prepend_outputs s.front) (sym e) ∙ s.leads;
  }

  -- One step was made.
  pub steps : {T : Type 0} (old : List Output) (whole : StepResult S) (now new : List Output) (left : StepResult S)
      (h : StepResult T) (others : T → StepResult S) (after : T)
      → left ≡ prepend_outputs h.outputs (others h.after)
      → prepend_outputs now h ≡ record { outputs = new; after = after }
      → SoFar old whole now left → SoFar old whole new (others after)
  steps old whole now new left h others after is made s = record {
    front = s.front ++ h.outputs;
    put = sym (ap (λ (g : StepResult _). g.outputs) made) ∙ ap (λ (o : List Output). o ++ h.outputs) s.put
        ∙ append_assoc old s.front h.outputs;
    leads =
        ap (λ (g : StepResult _). prepend_outputs (s.front ++ h.outputs) (others g.after)) (sym made)
        ∙ sym (behind_behind s.front h.outputs (others h.after))
        ∙ ap (prepend_outputs s.front) (sym is)
        ∙ s.leads;
  }

  -- Nothing is left to do.
  pub ends : (old : List Output) (whole : StepResult S) (now : List Output) (left : StepResult S) (after : S)
      → left ≡ no_output after → SoFar old whole now left
      → prepend_outputs old whole ≡ record { outputs = now; after = after }
  ends old whole now left after is s =
      ap (prepend_outputs old) (sym s.leads) ∙ behind_behind old s.front left
      ∙ (λ i. prepend_outputs (sym s.put i) (is i))
      ∙ ap (λ (o : List Output). record { outputs = o; after = after }) (append-nil now)

  -- The last step was made.
  pub last_step : (old : List Output) (whole : StepResult S) (now new : List Output) (left : StepResult S) (after : S)
      → prepend_outputs now left ≡ record { outputs = new; after = after } → SoFar old whole now left
      → prepend_outputs old whole ≡ record { outputs = new; after = after }
  last_step old whole now new left after made s =
      ap (prepend_outputs old) (sym s.leads) ∙ behind_behind old s.front left
      ∙ ap (λ (o : List Output). prepend_outputs o left)
      (sym s.put) ∙ made

  -- An allocation was refused on the way.
  pub stops : (old : List Output) (whole : StepResult S) (now new : List Output) (left : StepResult S)
      → Gains now left.outputs new → SoFar old whole now left → Gains old whole.outputs new
  stops old whole now new left g s = rw (← ap (λ (h : StepResult S). h.outputs) s.leads)
      (gains_behind old s.front s.put g)

  -- An allocation was refused in a step.
  pub stops_in_step : {T : Type 0} (old : List Output) (whole : StepResult S) (now new : List Output)
      (left : StepResult S)
      (h : StepResult T) (others : T → StepResult S)
      → left ≡ prepend_outputs h.outputs (others h.after) → Gains now h.outputs new → SoFar old whole now left
      → Gains old whole.outputs new
  stops_in_step old whole now new left h others is g s =
      stops old whole now new (prepend_outputs h.outputs (others h.after)) (gains_first (others h.after).outputs g)
      (same_left old whole now left (prepend_outputs h.outputs (others h.after)) is s)

  -- The last step was tried.
  pub ends_with : (r : Result (Unit {0}) NoMemory) (old : List Output) (whole : StepResult S) (now new : List Output)
      (left last : StepResult S) (after : S)
      → left ≡ last → MeetsStep r now last new after → SoFar old whole now left → MeetsStep r old whole new after
  ends_with (Ok u) old whole now new left last after is m s = last_step old whole now new last after m
      (same_left old whole now left last is s)
  ends_with (Err e) old whole now new left last after is m s =
      stops old whole now new last m (same_left old whole now left last is s)

-- A step that is outputs alone.
abbrev pub putting : List Output → StepResult (Unit {0})
putting outputs = record { outputs = outputs; after = tt }

-- ---- two steps

-- The first step was made, and then the second was tried.
pub then_meets : {S T : Type 0} (r : Result (Unit {0}) NoMemory) (old mid new : List Output) (h : StepResult S)
    (next : S → StepResult T) (left : S) (after : T)
    → prepend_outputs old h ≡ record { outputs = mid; after = left } → MeetsStep r mid (next left) new after
    → MeetsStep r old (and_then h next) new after
then_meets {S} (Ok u) old mid new h next left after made m =
    behind_behind old h.outputs (next h.after)
    ∙ ap (λ (g : StepResult S). prepend_outputs g.outputs (next g.after)) made ∙ m
then_meets {S} (Err e) old mid new h next left after made m =
    let there = ap (λ (g : StepResult S). g.after) made in
    subst (λ (s : S). Gains old (h.outputs ++ (next s).outputs) new) (sym there)
    (gains_behind old h.outputs (sym (ap (λ (g : StepResult S). g.outputs) made)) m)

-- An allocation was refused in the first step.
pub first_stops : {S T : Type 0} (old new : List Output) (h : StepResult S) (next : S → StepResult T)
    → Gains old h.outputs new → Gains old (and_then h next).outputs new
first_stops old new h next g = gains_first (next h.after).outputs g

-- Outputs were appended, and then a step was tried.
pub behind_meets : {S : Type 0} (r : Result (Unit {0}) NoMemory) (old put mid new : List Output)
    (h : StepResult S) (after : S)
    → mid ≡ old ++ put → MeetsStep r mid h new after → MeetsStep r old (prepend_outputs put h) new after
behind_meets (Ok u) old put mid new h after is m = behind_behind old put h
    ∙ ap (λ (o : List Output). prepend_outputs o h) (sym is) ∙ m
behind_meets (Err e) old put mid new h after is m = gains_behind old put is m
