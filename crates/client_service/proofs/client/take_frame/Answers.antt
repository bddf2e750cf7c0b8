use Rattle.std.proofs.Common.{ap, ◌∙◌}
use Rattle.world.specs.World.{World}
use Rattle.world.specs.Steps.{StepResult}
use Rattle.client_service.specs.Serve.{serve_frame}
use Rattle.client_service.specs.Runs.{answer_all_asked, serve_if_heard}
use Rattle.client_service.specs.Inner.{session_call}
use Rattle.client_service.proofs.Running.{call_kept, gathered, settled_first}
use Rattle.client_service.proofs.Emptied.{none_after_frame, none_if_made, none_if_settled}
use Rattle.client_service.proofs.client.take_frame.Goals as goal

pub returns-in-Some-clause-made : goal.returns-in-Some-clause-made
returns-in-Some-clause-made g c =
    let same = ap (λ (h : StepResult World). h.after) c.stage.view_is in
    gathered c.others_stay.ensures c.args.serving c.args.number c.args.frame.now c.args.stage.now c.args.asked.now.items
    c.in_ok-request.request c.in-Some.read c.push.new.self.items c.requires.heard (rw same at c.in_ok-request.ensures)
    (rw (same, c.in-Some.is) at c.in_ok-read.ensures) c.in_ok-push.ensures.items

pub returns-then-is_empty-clause-taken : goal.returns-then-is_empty-clause-taken
returns-then-is_empty-clause-taken g c =
    let n = c.args.number in
    none_if_made n c.serve.result c.args.stage.now c.serve.new.stage
    (serve_frame c.args.serving n c.args.stage.now.after c.args.frame.now) c.serve.ensures
    (none_after_frame n c.args.serving n c.args.stage.now.after c.args.frame.now c.requires.taken)

pub serve_if_heard-requires-clause-asks : goal.serve_if_heard-requires-clause-asks
serve_if_heard-requires-clause-asks g c heard =
    call_kept c.others_stay.ensures c.args.number c.args.frame.now c.args.asked.now.items c.args.stage.now
    c.settle_reads.new.stage c.in_ok-request.request c.in_ok-settle_reads.ensures.answered
    (c.in_ok-request.ensures
    ∙ ap (λ (h : StepResult World). session_call c.args.number h.after c.args.frame.now) c.stage.view_is)
    heard

pub returns-clause-made : goal.returns-clause-made
returns-clause-made g c =
    settled_first c.serve_if_heard.result c.args.stage.now.outputs c.settle_reads.new.stage.outputs
    c.serve_if_heard.new.stage.outputs (answer_all_asked c.args.asked.now.items c.args.stage.now.after)
    (serve_if_heard c.args.serving c.args.number c.args.frame.now) c.settle_reads.new.stage.after
    c.settle_reads.new.asked.items c.serve_if_heard.new.stage.after c.in_ok-settle_reads.ensures.answered
    c.in_ok-settle_reads.ensures.none_left c.serve_if_heard.ensures

pub returns-clause-taken : goal.returns-clause-taken
returns-clause-taken g c =
    none_if_settled c.args.number c.serve_if_heard.result c.args.serving c.args.number c.args.frame.now
    c.args.asked.now.items c.args.stage.now c.settle_reads.new.stage c.serve_if_heard.new.stage
    c.in_ok-settle_reads.ensures.answered c.serve_if_heard.ensures c.requires.taken
