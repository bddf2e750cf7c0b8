use Rattle.observer_core.proofs.Batches.{settled}
use Rattle.observer_core.proofs.gathering.settle_txns.Goals as goal

pub returns : goal.returns
returns g c =
    rw (← c.stage.view_is, ← c.stage-inside.view_is) (settled c.tell_each.result _ _ _ _ _ _ _
    c.in_ok-outcomes.ensures.tree c.in_ok-outcomes.ensures.outcomes
    (rw c.as_slice.ensures.value at c.tell_each.ensures))
