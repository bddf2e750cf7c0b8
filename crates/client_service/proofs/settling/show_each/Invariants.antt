use Rattle.std.proofs.Common.{drop}
use Rattle.std.specs.Vec.Iter.{into_iter_items}
use Rattle.client_service.specs.Runs.{show_all_asked}
use Rattle.world.proofs.Steps.{SoFar}
use Rattle.client_service.proofs.settling.show_each.Given as goal

-- Showing the looks that are left completes what was to be shown.
abbrev pub invariant-loop-read : goal.invariant-loop-read
invariant-loop-read l =
    SoFar l.fn.stage.outputs (show_all_asked l.asked l.fn.looks.items l.fn.stage.after) l.stage.outputs
    (show_all_asked (drop l.read-index l.asked) (into_iter_items l.looks) l.stage.after)
