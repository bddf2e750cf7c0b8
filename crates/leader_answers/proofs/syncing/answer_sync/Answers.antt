use Rattle.std.proofs.Common.{ap, subst, ◌∙◌}
use Rattle.forwarding.specs.Pending.{settle_sync}
use Rattle.world.specs.World.{World}
use Rattle.world.specs.Steps.{StepResult}
use Rattle.world.specs.Sending.{with_pending}
use Rattle.world.specs.Results.{MeetsStep, MakesStep}
use Rattle.leader_answers.specs.Answering.{answer_front, answer_settled, answer_sync}
use Rattle.leader_answers.proofs.syncing.answer_sync.Goals as goal

pub returns-in-Of : goal.returns-in-Of
returns-in-Of c =
    let w = c.stage.inside.world in
    let result = c.answer_front.result in
    let new = c.answer_front.new.stage in
    subst (λ (s : StepResult World). MakesStep result s answer_sync new) c.stage.view_is
    (subst (λ (h : StepResult World). MeetsStep result c.stage.inside.outputs.items h new.outputs new.after)
    (ap (λ (v : World). answer_front c.in-Of.number v) c.in-Of.ensures.after
    ∙ ap (answer_settled (with_pending w (settle_sync w.clients.pending).after)) c.in-Of.ensures.settled)
    c.answer_front.ensures)
