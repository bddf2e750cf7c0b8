use Rattle.std.proofs.Common.{rules, ◌≡◌, ℤ, w32, w64, to_z, of_z, ap, subst, ◌∙◌}
use Rattle.std.proofs.lemmas.Result.{err_from_is_err_and}
use Rattle.values.specs.Gains.{Gains}
use Rattle.forwarding.specs.Pending.{remove_write}
use Rattle.read_processor.specs.Reply.{reply_frame}
use Rattle.world.specs.World.{World}
use Rattle.world.specs.Steps.{StepResult, and_then}
use Rattle.world.specs.Sending.{with_pending, send_or_close}
use Rattle.world.specs.Results.{MeetsStep}
use Rattle.world.proofs.Steps.{then_meets, first_stops}
use Rattle.leader_answers.specs.Answering.{answer_front}
use Rattle.leader_answers.proofs.writing.answer_write.Goals as goal

pub returns-in_err-send_frame : goal.returns-in_err-send_frame
returns-in_err-send_frame c =
    let p = err_from_is_err_and c.from_residual.result c.from_residual.ensures.1 in
    let n = c.args.number in
    let w = c.stage.inside.world in
    let left : World = with_pending w (remove_write w.clients.pending n) in
    let xid = to_z w32 (of_z w32 c.args.header.cxid) in
    let zxid = to_z w64 (of_z w64 c.args.header.zxid) in
    let same_xid : xid ≡ c.args.header.cxid = search rules in
    let same_zxid : zxid ≡ c.args.header.zxid = search rules in
    let now = c.stage.inside.outputs.items in
    let new = c.send_frame.new.self.outputs in
    let reply = reply_frame c.args.header.cxid c.args.header.zxid c.args.seen in
    rw p.1 (subst (λ (s : StepResult World). Gains s.outputs (and_then
    (send_or_close n (with_pending s.after (remove_write s.after.clients.pending n)) reply) (answer_front n)).outputs new)
    c.stage.view_is
    (subst (λ (h : StepResult World). Gains now (and_then h (answer_front n)).outputs new)
    (ap (λ (v : World). send_or_close n v c.into_frame.result) c.remove_write.ensures
    ∙ ap (send_or_close n left) c.into_frame.ensures
    ∙ ap (λ (x : ℤ). send_or_close n left (reply_frame x zxid c.args.seen)) same_xid
    ∙ ap (λ (z : ℤ). send_or_close n left (reply_frame c.args.header.cxid z c.args.seen)) same_zxid)
    (first_stops now new (send_or_close n c.remove_write.new.world c.into_frame.result) (answer_front n)
    c.in_err-send_frame.ensures)))

pub returns : goal.returns
returns c =
    let n = c.args.number in
    let w = c.stage.inside.world in
    let left : World = with_pending w (remove_write w.clients.pending n) in
    let xid = to_z w32 (of_z w32 c.args.header.cxid) in
    let zxid = to_z w64 (of_z w64 c.args.header.zxid) in
    let same_xid : xid ≡ c.args.header.cxid = search rules in
    let same_zxid : zxid ≡ c.args.header.zxid = search rules in
    let now = c.stage.inside.outputs.items in
    let mid = c.send_frame.new.self in
    let result = c.answer_front.result in
    let new = c.answer_front.new.stage in
    let reply = reply_frame c.args.header.cxid c.args.header.zxid c.args.seen in
    subst (λ (s : StepResult World). MeetsStep result s.outputs (and_then
    (send_or_close n (with_pending s.after (remove_write s.after.clients.pending n)) reply) (answer_front n))
    new.outputs new.after) c.stage.view_is
    (subst (λ (h : StepResult World). MeetsStep result now (and_then h (answer_front n)) new.outputs new.after)
    (ap (λ (v : World). send_or_close n v c.into_frame.result) c.remove_write.ensures
    ∙ ap (send_or_close n left) c.into_frame.ensures
    ∙ ap (λ (x : ℤ). send_or_close n left (reply_frame x zxid c.args.seen)) same_xid
    ∙ ap (λ (z : ℤ). send_or_close n left (reply_frame c.args.header.cxid z c.args.seen)) same_zxid)
    (then_meets result now mid.outputs new.outputs
    (send_or_close n c.remove_write.new.world c.into_frame.result) (answer_front n) mid.after new.after
    c.in_ok-send_frame.ensures c.answer_front.ensures))
