use Rattle.std.proofs.Common.{◌≡◌, ◌++◌, drop}
use Rattle.data_tree.specs.Cells.{after_in_cells, outcomes_in_cells}
use Rattle.apply_workers.specs.Places.{at_places}
use Rattle.apply_workers.proofs.hand.GroupInProgress.finish.Given as goal

abbrev pub invariant-loop-place : goal.invariant-loop-place
invariant-loop-place l =
    record {
      cells : after_in_cells l.cells (at_places l.txns (drop l.place-index l.left))
          ≡ after_in_cells l.initial.cells (at_places l.txns l.left);
      answers : l.outcomes.items ++ outcomes_in_cells l.cells (at_places l.txns (drop l.place-index l.left))
          ≡ l.initial.outcomes.items ++ outcomes_in_cells l.initial.cells (at_places l.txns l.left);
    }
