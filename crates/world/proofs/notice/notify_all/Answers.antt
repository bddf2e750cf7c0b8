use Rattle.std.proofs.Common.{suc, ◌∷◌, drop, ap, sym, ◌∙◌}
use Rattle.std.proofs.lemmas.Result.{err_from_is_err_and}
use Rattle.std.proofs.Math.Seq.{drop-cons}
use Rattle.watch_manager.specs.declared.event.Event.{Event}
use Rattle.world.specs.Clients.{notice_to, notices_to}
use Rattle.world.proofs.Steps.{putting, stops_in_step}
use Rattle.world.proofs.notice.notify_all.Goals as goal

pub returns-in_err-notify : goal.returns-in_err-notify
returns-in_err-notify c =
    let p = err_from_is_err_and c.from_residual.result c.from_residual.ensures.1 in
    let n = c.args.number in
    let event = c.event-item.result in
    let others = drop (suc c.loop-event.event-index) c.args.events.now in
    let is = drop-cons c.args.events.now c.loop-event.event-index event c.loop-event-test.true
    ∙ ap (λ (e : Event). e ∷ others) (sym c.event-item.is) in
    rw p.1 (stops_in_step _ _ _ _ _ (putting (notice_to n event)) (λ u. putting (notices_to n others))
    (λ i. putting (notices_to n (is i))) c.in_err-notify.ensures c.loop-event.invariant)
