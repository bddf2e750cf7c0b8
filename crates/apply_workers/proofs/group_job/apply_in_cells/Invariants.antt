use Rattle.std.proofs.Common.{◌≡◌, ◌++◌, ◌≤◌, length, drop}
use Rattle.std.specs.Vec.{vec_capacity}
use Rattle.data_tree.specs.Cells.{after_in_cells, outcomes_in_cells}
use Rattle.apply_workers.specs.Places.{at_places}
use Rattle.apply_workers.proofs.Stopping.{DoneFirst}
use Rattle.apply_workers.proofs.group_job.apply_in_cells.Given as goal

abbrev pub invariant-loop-place : goal.invariant-loop-place
invariant-loop-place l =
    record {
      cells : after_in_cells l.cells (at_places l.txns (drop l.place-index l.members))
          ≡ after_in_cells l.fn.cells (at_places l.txns l.members);
      answers : l.outcomes.items ++ outcomes_in_cells l.cells (at_places l.txns (drop l.place-index l.members))
          ≡ outcomes_in_cells l.fn.cells (at_places l.txns l.members);
      count : length l.outcomes.items ≡ l.place-index;
      done : DoneFirst l.fn.cells (at_places l.txns l.members) l.cells
          (at_places l.txns (drop l.place-index l.members)) l.place-index;
      room : length l.members ≤ vec_capacity l.outcomes;
    }
