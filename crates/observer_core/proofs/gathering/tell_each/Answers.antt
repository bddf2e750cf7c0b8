use Rattle.std.proofs.Common.{◌+◌, drop}
use Rattle.std.proofs.lemmas.List.{at_drop_more}
use Rattle.std.proofs.lemmas.Result.{err_from_is_err_and}
use Rattle.world.specs.World.{Clients}
use Rattle.world.proofs.Steps.{stops_in_step}
use Rattle.observer_core.specs.Gathering.{tell_outcome, tell_outcomes}
use Rattle.observer_core.proofs.gathering.tell_each.Goals as goal

pub returns-in_err-tell_outcome : goal.returns-in_err-tell_outcome
returns-in_err-tell_outcome c =
    let p = err_from_is_err_and c.from_residual.result c.from_residual.ensures.1 in
    let l = c.loop-outcome in
    let is = rw (← c.outcome-item.is) at (at_drop_more (tell_outcomes l.clients) c.args.outcomes.now l.outcome-index
    c.outcome-item.result c.loop-outcome-test.true) in
    rw p.1 (stops_in_step _ _ _ _ _ (tell_outcome l.clients c.outcome-item.result)
    (λ (k : Clients). tell_outcomes k (drop (l.outcome-index + 1) c.args.outcomes.now)) is
    c.in_err-tell_outcome.ensures l.invariant)
