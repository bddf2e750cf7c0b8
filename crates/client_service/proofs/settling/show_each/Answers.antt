use Rattle.std.proofs.Common.{suc, ◌∷◌, drop, ap, sym, ◌∙◌}
use Rattle.std.proofs.lemmas.Result.{err_from_is_err_and}
use Rattle.std.proofs.Math.Seq.{drop-cons}
use Rattle.std.specs.Vec.Iter.{into_iter_items}
use Rattle.client_service.specs.Runs.{AskedRead, show_asked, show_all_asked}
use Rattle.world.proofs.Steps.{stops_in_step}
use Rattle.client_service.proofs.settling.show_each.Goals as goal

pub returns-in_err-show : goal.returns-in_err-show
returns-in_err-show c =
    let p = err_from_is_err_and c.from_residual.result c.from_residual.ensures.1 in
    let l = c.loop-read in
    let read = c.read-item.result in
    let others = drop (suc l.read-index) c.args.asked.now in
    let is = drop-cons c.args.asked.now l.read-index read c.loop-read-test.true
    ∙ ap (λ (a : AskedRead). a ∷ others) (sym c.read-item.is) in
    rw p.1 (stops_in_step _ _ _ _ _ (show_asked l.stage.after read c.in-Some.seen)
    (show_all_asked others (into_iter_items c.next.new.self))
    (λ i. show_all_asked (is i) (c.in-Some.ensures.items i) l.stage.after) c.in_err-show.ensures l.invariant)
