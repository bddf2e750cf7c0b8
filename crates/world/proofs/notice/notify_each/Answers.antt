use Rattle.std.proofs.Common.{ℕ, suc, ◌∷◌, drop, ap, sym, ◌∙◌}
use Rattle.std.proofs.lemmas.Result.{err_from_is_err_and}
use Rattle.std.proofs.Math.Seq.{drop-cons}
use Rattle.watch_manager.specs.declared.event.Event.{Event}
use Rattle.world.specs.Clients.{notice_to, notices_of}
use Rattle.world.proofs.Steps.{putting, stops_in_step}
use Rattle.world.proofs.notice.notify_each.Goals as goal

pub returns-in_err-notify : goal.returns-in_err-notify
returns-in_err-notify c =
    let p = err_from_is_err_and c.from_residual.result c.from_residual.ensures.1 in
    let told = c.loop-number-item.result in
    let others = drop (suc c.loop-number.number-index) c.args.events.now in
    let is = drop-cons c.args.events.now c.loop-number.number-index told c.loop-number-test.true
    ∙ ap (λ (e : ℕ × Event). e ∷ others) (sym c.loop-number-item.is) in
    rw p.1 (stops_in_step _ _ _ _ _ (putting (notice_to told.0 told.1)) (λ u. putting (notices_of others))
    (λ i. putting (notices_of (is i))) c.in_err-notify.ensures c.loop-number.invariant)
