use Rattle.std.proofs.Common.{sym, ap, ◌∙◌, drop}
use Rattle.apply_workers.specs.Inner.{put_at}
use Rattle.apply_workers.proofs.Loops.{nothing_left}
use Rattle.apply_workers.proofs.CameHome.{put_none}
use Rattle.apply_workers.proofs.home.put_at.Goals as goal

pub returns-in_default : goal.returns-in_default
returns-in_default c =
    let at = c.loop-place in
    let empty = nothing_left _ (sym at.invariant.len ∙ c.in_default.ensures.cases.0) in
    sym (put_none at.all.items (drop at.place-index c.args.places.now))
    ∙ ap (λ xs. put_at at.all.items (drop at.place-index c.args.places.now) xs) (sym empty)
    ∙ at.invariant.placed
