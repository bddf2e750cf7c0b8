use Rattle.std.proofs.Common.{rules, ◌≡◌, ℤ, Result, Ok, sym, subst, w32, to_z, of_z}
use Rattle.values.specs.declared.fault.Fault.{Fault}
use Rattle.client_frames.specs.declared.call.Call.{Call}
use Rattle.client_frames.specs.declared.call.CallBody.{CallBody}
use Rattle.client_service.specs.Serve.{call_of, handle_local}
use Rattle.world.specs.World.{World}
use Rattle.world.specs.Steps.{StepResult}
use Rattle.world.specs.Results.{MeetsStep}
use Rattle.leader_answers.specs.Answering.{handle_held, serve_held}
use Rattle.leader_answers.proofs.ready.serve_held.Goals as goal

-- src/ready.rt:21:1
pub returns-in-Local : goal.returns-in-Local
returns-in-Local c =
    let n = c.args.number in
    let call = c.in-Ok.call in
    let new = c.answer_local.new.stage in
    let xid = to_z w32 (of_z w32 call.xid) in
    let same_xid : xid ≡ call.xid = search rules in
    let asked : call_of c.stage.inside.world c.args.frame.now ≡ Ok call =
    rw (sym c.stage-inside.view_is) c.in-Ok.ensures in
    let whole : call_of c.args.stage.now.after c.args.frame.now ≡ Ok call =
    subst (λ (s : StepResult World). call_of s.after c.args.frame.now ≡ Ok call) c.stage.view_is asked in
    subst (λ (r : Result Call Fault). MeetsStep c.answer_local.result c.args.stage.now.outputs
    (serve_held n c.args.stage.now.after r) new.outputs new.after) (sym whole)
    (subst (λ (b : CallBody). MeetsStep c.answer_local.result c.args.stage.now.outputs
    (handle_held n c.args.stage.now.after call.xid b) new.outputs new.after) (sym c.in-Local.is)
    (subst (λ (x : ℤ). MeetsStep c.answer_local.result c.args.stage.now.outputs
    (handle_local n c.args.stage.now.after x c.in-Local.asked) new.outputs new.after) same_xid c.answer_local.ensures))
