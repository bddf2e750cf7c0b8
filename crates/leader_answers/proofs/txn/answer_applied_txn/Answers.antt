use Rattle.std.proofs.Common.{rules, ◌≡◌, false, sym, ap, subst, ◌∙◌}
use Rattle.std.specs.List.{slice_get}
use Rattle.std.proofs.lemmas.Result.{err_from_is_err_and}
use Rattle.values.proofs.Gaining.{gains_nothing}
use Rattle.world.specs.World.{World}
use Rattle.world.specs.Steps.{StepResult}
use Rattle.world.specs.Results.{MeetsStep}
use Rattle.leader_answers.specs.Answering.{has_moved, answer_applied_txn}
use Rattle.leader_answers.proofs.Turns.{one_write, write_is_at}
use Rattle.leader_answers.proofs.txn.answer_applied_txn.Goals as goal

pub answer_write-requires : goal.answer_write-requires
answer_write-requires c =
    let here = c.in-Some.ensures
    ∙ ap (λ (s : StepResult World). slice_get s.after.replica.learner.log c.args.place) c.stage.view_is in
    write_is_at c.args.stage.now.after c.args.place c.args.results.now c.in-Some.txn.now here c.in-Reply.number
    c.in-Reply.write (sym c.in-Reply.is ∙ c.requires)

pub returns-in_err-seen-in-Reply : goal.returns-in_err-seen-in-Reply
returns-in_err-seen-in-Reply c =
    let p = err_from_is_err_and c.from_residual.result c.from_residual.ensures.1 in
    rw p.1 (gains_nothing c.args.stage.now.outputs
    (answer_applied_txn c.args.stage.now.after c.args.place c.args.results.now).outputs)

pub returns-in_ok-seen-in-Reply : goal.returns-in_ok-seen-in-Reply
returns-in_ok-seen-in-Reply c =
    let here = c.in-Some.ensures
    ∙ ap (λ (s : StepResult World). slice_get s.after.replica.learner.log c.args.place) c.stage.view_is in
    let answered : c.has_moved.result ≡ has_moved c.args.stage.now.after c.args.results.now =
    c.has_moved.ensures
    ∙ ap (λ (s : StepResult World). has_moved s.after c.args.results.now) c.stage.view_is in
    let not_moved : c.has_moved.result ≡ false = search rules in
    let new = c.answer_write.new.stage in
    subst (λ (h : StepResult World). MeetsStep c.answer_write.result c.args.stage.now.outputs h new.outputs new.after)
    (sym (one_write c.args.stage.now.after c.args.place c.args.results.now c.in-Some.txn.now here c.in-Reply.number
    c.in-Reply.write (sym c.in-Reply.is ∙ c.requires) (sym answered ∙ not_moved) c.in_ok-seen-in-Reply.seen (search rules)))
    c.answer_write.ensures
