use Rattle.std.proofs.Common.{rules, ◌≡◌, ℤ, sym, ap, subst, ◌∙◌, w64, to_z, of_z}
use Rattle.std.proofs.lemmas.Result.{err_from_is_err_and}
use Rattle.forwarding.specs.Pending.{is_idle}
use Rattle.values.specs.Gains.{Gains}
use Rattle.world.specs.World.{World}
use Rattle.world.specs.Steps.{StepResult, and_then}
use Rattle.world.specs.Results.{MeetsStep}
use Rattle.world.proofs.Steps.{then_meets, first_stops}
use Rattle.client_service.specs.Serve.{ask_about_session, close_others}
use Rattle.client_service.proofs.Claiming.{idle_after_others}
use Rattle.client_service.proofs.joining.claim_session.Goals as goal

-- src/joining.rt:233:5
pub returns-in_err-close_others : goal.returns-in_err-close_others
returns-in_err-close_others c =
    let p = err_from_is_err_and c.from_residual.result c.from_residual.ensures.1 in
    let w = c.args.stage.now.after in
    let session = to_z w64 (of_z w64 c.args.response.now.session_id) in
    let same : session ≡ c.args.response.now.session_id = search rules in
    let old = c.args.stage.now.outputs in
    let new = c.close_others.new.stage.outputs in
    let ask = ask_about_session c.args.number c.args.has_byte c.args.response.now in
    rw p.1 (subst (λ (s : ℤ). Gains old (and_then (close_others s w) ask).outputs new) same
    (first_stops old new (close_others session w) ask c.in_err-close_others.ensures.closes))

-- src/joining.rt:234:5
pub ask_about_session-requires-clause-idle : goal.ask_about_session-requires-clause-idle
ask_about_session-requires-clause-idle c =
    let session = to_z w64 (of_z w64 c.args.response.now.session_id) in
    ap (λ (h : StepResult World). is_idle h.after.clients.pending c.args.number) (sym c.in_ok-close_others.ensures.closes)
    ∙ idle_after_others c.args.number c.args.stage.now.after session c.requires

-- src/joining.rt:222:1
pub returns : goal.returns
returns c =
    let w = c.args.stage.now.after in
    let session = to_z w64 (of_z w64 c.args.response.now.session_id) in
    let same : session ≡ c.args.response.now.session_id = search rules in
    let old = c.args.stage.now.outputs in
    let mid = c.close_others.new.stage in
    let new = c.ask_about_session.new.stage in
    let ask = ask_about_session c.args.number c.args.has_byte c.args.response.now in
    subst (λ (s : ℤ). MeetsStep c.ask_about_session.result old (and_then (close_others s w) ask) new.outputs new.after) same
    (then_meets c.ask_about_session.result old mid.outputs new.outputs (close_others session w) ask mid.after new.after
    c.in_ok-close_others.ensures.closes c.ask_about_session.ensures)
