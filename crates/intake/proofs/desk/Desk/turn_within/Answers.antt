use Rattle.intake.proofs.Turning.{ports_on, ports_of_list, reordered, answers_ok, answers_closed}
use Rattle.intake.proofs.desk.Desk.turn_within.Goals as goal

pub returns-in-Ok : goal.returns-in-Ok
returns-in-Ok g c =
    answers_ok c.in-Ok.count c.args.self.now c.prepare.new.self c.serve.new.self c.in_ok-prepare.ensures.ok
    (λ m. reordered m c.prepare.new.self c.order.new.self c.serve.new.self c.order.ensures.desk
    c.order.ensures.permutation (c.in-Ok.ensures.turn m))
    c.in-Ok.ensures.count

pub returns-in-Err : goal.returns-in-Err
returns-in-Err g c =
    answers_closed c.args.self.now c.prepare.new.self c.serve.new.self c.in_ok-prepare.ensures.ok
    (ports_on c.prepare.new.self c.order.new.self c.serve.new.self
    (ports_of_list c.prepare.new.self c.order.new.self c.order.ensures.desk) c.serve.ensures.keeps)
    c.in-Err.ensures.err
