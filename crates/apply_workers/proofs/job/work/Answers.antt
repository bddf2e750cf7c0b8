use Rattle.apply_workers.proofs.Going.{gets_near}
use Rattle.apply_workers.proofs.job.work.Goals as goal

pub loop-claim-smaller : goal.loop-claim-smaller
loop-claim-smaller g c = let claim = c.in-Some.ensures in
    gets_near c.loop-claim.seat c.claim.new.seat c.give.new.seat c.in-Some.claim.number c.apply-finished.result
    c.in-Some.work claim.claimed c.give.ensures.given claim.above claim.work
