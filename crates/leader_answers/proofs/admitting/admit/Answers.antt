use Rattle.std.proofs.Common.{rules, ◌≡◌, ℤ, Some, w64, to_z, of_z, ap, sym, subst, ◌∙◌}
use Rattle.std.proofs.lemmas.Result.{err_from_is_err_and}
use Rattle.values.specs.Gains.{Gains}
use Rattle.values.proofs.Gaining.{gains_nothing}
use Rattle.sessions.specs.declared.request.Connected.{Connected}
use Rattle.sessions.specs.Sessions.{close_connection, give_session}
use Rattle.world.specs.World.{World}
use Rattle.world.specs.Steps.{StepResult, and_then}
use Rattle.world.specs.Sending.{with_sessions}
use Rattle.world.specs.Results.{MeetsStep, MakesStep}
use Rattle.world.proofs.Steps.{then_meets}
use Rattle.client_service.specs.Serve.{answer_connect}
use Rattle.leader_answers.specs.Answering.{serve_admitted, admit_as}
use Rattle.leader_answers.proofs.admitting.admit.Goals as goal

-- Nothing was sent yet.
pub returns-in_err-connected : goal.returns-in_err-connected
returns-in_err-connected c =
    let p = err_from_is_err_and c.from_residual.result c.from_residual.ensures.1 in
    let frames = c.args.frames.now in
    let connect = c.args.connect.now in
    rw p.1 (subst (λ (s : StepResult World). Gains s.outputs (admit_as c.args.number s.after frames (Some connect)).outputs
    c.stage.inside.outputs.items) c.stage.view_is (gains_nothing _ _))

pub returns : goal.returns
returns c =
    let n = c.args.number in
    let w = c.stage.inside.world in
    let now = c.stage.inside.outputs.items in
    let connect = c.args.connect.now in
    let frames = c.args.frames.now in
    let session = to_z w64 (of_z w64 connect.session) in
    let same : session ≡ connect.session = search rules in
    let given = give_session (close_connection w.clients.sessions n) n connect.session connect.time_out in
    let result = c.serve_admitted.result in
    let mid = c.answer_connect.new.stage in
    let new = c.serve_admitted.new.stage in
    subst (λ (s : StepResult World). MakesStep result s (λ (v : World). admit_as n v frames (Some connect)) new)
    c.stage.view_is
    (subst (λ (h : StepResult World). MeetsStep result now
    (and_then h (serve_admitted n connect.session frames)) new.outputs new.after)
    (ap (λ (v : World). answer_connect n connect.has_read_only v c.in_ok-connected.connected)
    c.in_ok-connected.ensures.after
    ∙ ap (λ (a : Connected). answer_connect n connect.has_read_only (with_sessions w given.after) a)
    (sym c.in_ok-connected.ensures.answer))
    (then_meets result now mid.outputs new.outputs
    (answer_connect n connect.has_read_only c.give_session.new.world c.in_ok-connected.connected)
    (serve_admitted n connect.session frames) mid.after new.after c.in_ok-answer_connect.ensures
    (subst (λ (s : ℤ). MakesStep result mid (serve_admitted n s frames) new) same c.serve_admitted.ensures)))
