use Rattle.std.proofs.Common.{drop}
use Rattle.world.proofs.Steps.{SoFar}
use Rattle.observer_core.specs.Gathering.{tell_outcomes}
use Rattle.observer_core.proofs.gathering.tell_each.Given as goal

abbrev pub invariant-loop-outcome : goal.invariant-loop-outcome
invariant-loop-outcome l =
    SoFar l.fn.outputs.items (tell_outcomes l.fn.clients l.outcomes) l.outputs.items
    (tell_outcomes l.clients (drop l.outcome-index l.outcomes))
