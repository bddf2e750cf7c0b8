use Rattle.std.proofs.Common.{◌≡◌, length, sym, ap, ◌∙◌}
use Rattle.std.proofs.lemmas.Result.{err_from_is_err_and}
use Rattle.quorum_packet.specs.Lending.{owned_item}
use Rattle.learner_sync.specs.Learner.{Learner}
use Rattle.world.specs.World.{World}
use Rattle.world.specs.Steps.{StepResult}
use Rattle.leader_answers.specs.Answering.{is_due}
use Rattle.observer_core.proofs.Batches.{gathered, answered, unanswered_stops, refused_later}
use Rattle.observer_core.proofs.gathering.gather_item.Goals as goal

pub returns-else-answers-clause-takes : goal.returns-else-answers-clause-takes
returns-else-answers-clause-takes g c loading =
    let inside = c.stage-inside.inside.0.0 in
    let w : World = record { settings = inside.settings; replica = inside.replica; clients = inside.clients } in
    let log = c.since_base-place.result.now in
    let at : length log ≡ length w.replica.learner.log =
    ap length (c.since_base-place.ensures ∙ ap (λ (l : Learner). l.log) c.learner.ensures) in
    rw (← c.stage.view_is, ← c.stage-inside.view_is) (gathered loading w (owned_item c.args.item) c.gather.new.self
    c.args.done.now (length log) (rw (← c.stage.view_is, ← c.stage-inside.view_is) at c.requires.within) at
    c.in-Ok.ensures (ap is_due (sym c.due_in_log-due.ensures) ∙ sym c.if-answers.ensures) c.stage-inside.inside.0.1.0.items)

pub returns-in_err-settle_and_answer-in-Ok-clause-takes : goal.returns-in_err-settle_and_answer-in-Ok-clause-takes
returns-in_err-settle_and_answer-in-Ok-clause-takes g c loading =
    let inside = c.stage-inside.inside.0.0 in
    let w : World = record { settings = inside.settings; replica = inside.replica; clients = inside.clients } in
    let p = err_from_is_err_and c.from_residual.result c.from_residual.ensures.1 in
    let log = c.since_base-place.result.now in
    let at : length log ≡ length w.replica.learner.log =
    ap length (c.since_base-place.ensures ∙ ap (λ (l : Learner). l.log) c.learner.ensures) in
    rw (p.1, p.2, ← c.stage.view_is, ← c.stage-inside.view_is) (unanswered_stops loading w (owned_item c.args.item)
    c.gather.new.self c.args.done.now (length log)
    (rw (← c.stage.view_is, ← c.stage-inside.view_is) at c.requires.within) at c.in-Ok.ensures
    (ap is_due (sym c.due_in_log-due.ensures) ∙ sym c.if-answers.ensures) c.stage-inside.inside.0.1.0.items
    c.settle_and_answer.new.stage.outputs (record { loading = loading; world = c.settle_and_answer.new.stage.after })
    c.args.done.now c.in_err-settle_and_answer-in-Ok.ensures)

pub returns-in_ok-settle_and_answer-in-Ok-clause-takes : goal.returns-in_ok-settle_and_answer-in-Ok-clause-takes
returns-in_ok-settle_and_answer-in-Ok-clause-takes g c loading =
    let inside = c.stage-inside.inside.0.0 in
    let w : World = record { settings = inside.settings; replica = inside.replica; clients = inside.clients } in
    let log = c.since_base-place.result.now in
    let at : length log ≡ length w.replica.learner.log =
    ap length (c.since_base-place.ensures ∙ ap (λ (l : Learner). l.log) c.learner.ensures) in
    let after = c.settle_and_answer.new.stage in
    rw (← c.stage.view_is, ← c.stage-inside.view_is) (answered loading w (owned_item c.args.item) c.gather.new.self
    c.args.done.now (length log) (rw (← c.stage.view_is, ← c.stage-inside.view_is) at c.requires.within) at
    c.in-Ok.ensures (ap is_due (sym c.due_in_log-due.ensures) ∙ sym c.if-answers.ensures) c.stage-inside.inside.0.1.0.items
    after.outputs after.after c.log_len.result (c.log_len.ensures
    ∙ ap (λ (h : StepResult World). length h.after.replica.learner.log) c.stage-then-answers.view_is)
    c.in_ok-settle_and_answer-in-Ok.ensures)

pub returns-in_ok-settle_txns-in-Err-Fault-clause-takes : goal.returns-in_ok-settle_txns-in-Err-Fault-clause-takes
returns-in_ok-settle_txns-in-Err-Fault-clause-takes g c loading =
    let inside = c.stage-inside.inside.0.0 in
    let w : World = record { settings = inside.settings; replica = inside.replica; clients = inside.clients } in
    let after = c.settle_txns.new.stage in
    rw (c.in-Err-Fault.fault-is, ← c.stage.view_is, ← c.stage-inside.view_is) (refused_later loading w (owned_item c.args.item)
    c.gather.new.self c.args.done.now c.in-Err-Fault.fault (rw c.in-Err-Fault.field-0-is at c.in-Err-Fault.ensures)
    c.stage-inside.inside.0.1.0.items after.outputs after.after c.in_ok-settle_txns-in-Err-Fault.ensures)
