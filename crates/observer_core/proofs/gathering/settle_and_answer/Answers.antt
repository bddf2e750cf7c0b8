use Rattle.observer_core.proofs.Batches.{applied_answered}
use Rattle.observer_core.proofs.gathering.settle_and_answer.Goals as goal

pub tell_and_answer-requires : goal.tell_and_answer-requires
tell_and_answer-requires g c =
    rw c.in_ok-applied.ensures.tree (rw (← c.stage.view_is, ← c.stage-inside.view_is) at c.requires.due)

pub returns : goal.returns
returns g c =
    rw (← c.stage.view_is, ← c.stage-inside.view_is) (applied_answered c.tell_and_answer.result _ _ _ _ _ _ _ _
    c.in_ok-applied.ensures.tree c.in_ok-applied.ensures.outcomes
    (rw c.as_slice.ensures.value at c.tell_and_answer.ensures))
