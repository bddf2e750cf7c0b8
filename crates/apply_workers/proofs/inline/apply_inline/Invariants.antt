use Rattle.std.proofs.Common.{◌≡◌, drop}
use Rattle.apply_workers.specs.Schedule.{run_steps}
use Rattle.apply_workers.proofs.inline.apply_inline.Given as goal

abbrev pub invariant-loop-step : goal.invariant-loop-step
invariant-loop-step l =
    record {
      batch : l.groups.batch ≡ l.initial.groups.batch;
      run : run_steps l.groups.progress (drop l.step-index l.steps) ≡ run_steps l.initial.groups.progress l.steps;
    }
