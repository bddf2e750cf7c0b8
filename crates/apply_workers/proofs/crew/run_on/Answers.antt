use Rattle.std.proofs.Common.{ap, ◌∙◌, subst, length}
use Rattle.apply_board.specs.Closing.{AreHome}
use Rattle.apply_workers.proofs.Crews.{ready_fits, back}
use Rattle.apply_workers.proofs.crew.run_on.Goals as goal

pub run_workers-requires-after_bounds : goal.run_workers-requires-after_bounds
run_workers-requires-after_bounds g c κs within = ready_fits _ _ c.in_ok-crew.crew.items c.in_ok-crew.ensures

pub close-requires : goal.close-requires
close-requires g c = (back _ _ _ c.in_ok-seats.seats.items c.in_ok-crew.ensures c.in_ok-seats.ensures).0.0

pub returns-clause-count : goal.returns-clause-count
returns-clause-count g c = let b = back _ _ _ c.in_ok-seats.seats.items c.in_ok-crew.ensures c.in_ok-seats.ensures in
    c.close.ensures.count ∙ ap (λ l. length l) (b.0.1 ∙ ap (λ v. v.works) c.in_ok-board.ensures.opener)

pub returns-clause-home : goal.returns-clause-home
returns-clause-home g c = let b = back _ _ _ c.in_ok-seats.seats.items c.in_ok-crew.ensures c.in_ok-seats.ensures in
    subst (λ l. AreHome g.W.Yields.gives l c.close.result.items)
    (b.0.1 ∙ ap (λ v. v.works) c.in_ok-board.ensures.opener) (c.close.ensures.whole b.1)
