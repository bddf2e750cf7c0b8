use Rattle.std.proofs.Common.{length, ap, ◌∙◌}
use Rattle.std.proofs.lemmas.Result.{err_from_is_err_and}
use Rattle.quorum_packet.specs.Lending.{owned_item}
use Rattle.world.specs.World.{World}
use Rattle.world.specs.Steps.{StepResult}
use Rattle.observer_core.specs.Leader.{WorldAndLoading}
use Rattle.observer_core.proofs.Batches.{received_after, failed_after}
use Rattle.observer_core.proofs.gathering.take_item.Goals as goal

pub returns-in_err-receive_item-clause-takes : goal.returns-in_err-receive_item-clause-takes
returns-in_err-receive_item-clause-takes g c =
    let h = c.from_residual-in_err-receive_item in
    let p = err_from_is_err_and h.result h.ensures.1 in
    let before : WorldAndLoading = record { loading = c.args.loader.now; world = c.args.stage.now.after } in
    let after : WorldAndLoading = record { loading = c.receive_item.new.loader; world = c.receive_item.new.stage.after } in
    rw (p.1, p.2) (failed_after before (owned_item c.args.item) c.args.done.now c.args.stage.now.outputs
    c.settle_txns.new.stage.outputs c.settle_txns.new.stage.after c.in_ok-settle_txns.ensures
    c.receive_item.new.stage.outputs after c.args.done.now c.in_err-receive_item.field-0.0
    c.in_err-receive_item.ensures)

pub returns-clause-takes : goal.returns-clause-takes
returns-clause-takes g c =
    let before : WorldAndLoading = record { loading = c.args.loader.now; world = c.args.stage.now.after } in
    let after : WorldAndLoading = record { loading = c.receive_item.new.loader; world = c.receive_item.new.stage.after } in
    received_after before (owned_item c.args.item) c.args.done.now c.args.stage.now.outputs
    c.settle_txns.new.stage.outputs c.settle_txns.new.stage.after c.in_ok-settle_txns.ensures
    c.receive_item.new.stage.outputs after c.log_len.result (c.log_len.ensures
    ∙ ap (λ (h : StepResult World). length h.after.replica.learner.log) c.stage.view_is)
    c.in_ok-receive_item.ensures
