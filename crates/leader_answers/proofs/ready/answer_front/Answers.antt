use Rattle.std.proofs.Common.{◌+◌, ◌-◌, sym, subst, arith}
use Rattle.std.proofs.lemmas.Result.{err_from_is_err_and}
use Rattle.forwarding.specs.Queue.{pending_limit}
use Rattle.world.specs.World.{World}
use Rattle.world.specs.Steps.{StepResult}
use Rattle.world.specs.Results.{SoFar}
use Rattle.world.proofs.Steps.{begins, steps, ends, stops_in_step}
use Rattle.leader_answers.specs.Answering.{answer_ready, answer_up_to, answer_front}
use Rattle.leader_answers.proofs.Turns.{stops_at, goes_to, none_left}
use Rattle.leader_answers.proofs.ready.answer_front.Goals as goal

pub loop-init : goal.loop-init
loop-init c = begins c.args.stage.now.outputs (answer_front c.args.number c.args.stage.now.after)

pub loop-preserved : goal.loop-preserved
loop-preserved c =
    let l = c.loop in
    let n = c.args.number in
    let w = c.stage.inside.world in
    let now = c.stage.inside.outputs.items in
    let old = c.args.stage.now.outputs in
    let whole = answer_front n c.args.stage.now.after in
    let turns = pending_limit - l.counter in
    let so_far = subst (λ (s : StepResult World). SoFar old whole s.outputs (answer_up_to turns n s.after))
    (sym c.stage.view_is) l.invariant in
    steps old whole now c.answer_ready.new.stage.outputs (answer_up_to turns n w)
    (answer_ready n c.take_ready.new.world c.in-Some.ready) (answer_up_to (pending_limit - (l.counter + 1)) n)
    c.answer_ready.new.stage.after
    (goes_to n w pending_limit l.counter c.in-Some.ready c.take_ready.new.world c.loop-test.true
    c.in-Some.ensures.ready c.in-Some.ensures.after)
    c.in_ok-answer_ready.ensures so_far

pub returns-in_err-answer_ready : goal.returns-in_err-answer_ready
returns-in_err-answer_ready c =
    let p = err_from_is_err_and c.from_residual.result c.from_residual.ensures.1 in
    let l = c.loop in
    let n = c.args.number in
    let w = c.stage.inside.world in
    let now = c.stage.inside.outputs.items in
    let old = c.args.stage.now.outputs in
    let whole = answer_front n c.args.stage.now.after in
    let turns = pending_limit - l.counter in
    let so_far = subst (λ (s : StepResult World). SoFar old whole s.outputs (answer_up_to turns n s.after))
    (sym c.stage.view_is) l.invariant in
    rw p.1 (stops_in_step old whole now c.answer_ready.new.stage.outputs (answer_up_to turns n w)
    (answer_ready n c.take_ready.new.world c.in-Some.ready) (answer_up_to (pending_limit - (l.counter + 1)) n)
    (goes_to n w pending_limit l.counter c.in-Some.ready c.take_ready.new.world c.loop-test.true
    c.in-Some.ensures.ready c.in-Some.ensures.after)
    c.in_err-answer_ready.ensures so_far)

pub returns-in_default : goal.returns-in_default
returns-in_default c =
    let l = c.loop in
    let n = c.args.number in
    let w = c.stage.inside.world in
    let now = c.stage.inside.outputs.items in
    let old = c.args.stage.now.outputs in
    let whole = answer_front n c.args.stage.now.after in
    let turns = pending_limit - l.counter in
    let so_far = subst (λ (s : StepResult World). SoFar old whole s.outputs (answer_up_to turns n s.after))
    (sym c.stage.view_is) l.invariant in
    ends old whole now (answer_up_to turns n w) c.take_ready.new.world
    (stops_at n w pending_limit l.counter c.take_ready.new.world c.loop-test.true
    c.in_default.ensures.ready c.in_default.ensures.after)
    so_far

pub returns : goal.returns
returns c =
    let l = c.loop in
    let n = c.args.number in
    ends c.args.stage.now.outputs (answer_front n c.args.stage.now.after) l.stage.outputs
    (answer_up_to (pending_limit - l.counter) n l.stage.after) l.stage.after
    (none_left n pending_limit l.counter l.stage.after (omega (arith, c.loop-test.false)))
    l.invariant
