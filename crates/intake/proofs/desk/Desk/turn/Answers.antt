use Rattle.intake.proofs.Turning.{answers_ok, answers_closed}
use Rattle.intake.proofs.desk.Desk.turn.Goals as goal

pub returns-in-Ok : goal.returns-in-Ok
returns-in-Ok g c =
    let begins = c.in_ok-prepare.ensures.ok in
    record {
      turn = answers_ok c.in-Ok.count c.args.self.now c.prepare.new.self c.serve.new.self begins c.in-Ok.ensures.turn
          c.in-Ok.ensures.count;
      order = c.in-Ok.ensures.order begins.fresh begins.sorted;
    }

pub returns-in-Err-clause-turn : goal.returns-in-Err-clause-turn
returns-in-Err-clause-turn g c =
    answers_closed c.args.self.now c.prepare.new.self c.serve.new.self c.in_ok-prepare.ensures.ok
    c.serve.ensures.keeps c.in-Err.ensures.err
