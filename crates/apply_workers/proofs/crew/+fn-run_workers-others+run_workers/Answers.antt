use Rattle.std.proofs.Common.{map}
use Rattle.std.proofs.lemmas.Result.{IfOk-at_ok}
use Rattle.apply_workers.specs.Inner.{AreWorked}
use Rattle.apply_workers.proofs.Crews.{last_worked}
use Rattle.apply_workers.proofs.crew.+fn-run_workers-others+run_workers.Goals as goal

pub returns : goal.returns
returns g t c =
    last_worked c.args.crew.items c.pop.new.self.items c.in-Some.last c.in_ok-seats.seats.items c.push-2.new.self.items
    c.join-seat.result.0 c.in-Some.ensures.items c.in_ok-push-2.ensures.items
    (IfOk-at_ok (λ v. AreWorked (map (λ w. w.seat) c.pop.new.self.items) v.items) c.in_ok-seats.was c.join-seat.ensures.second)
    c.join-seat.ensures.first
