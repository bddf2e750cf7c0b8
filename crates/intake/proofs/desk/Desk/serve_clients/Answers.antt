use Rattle.intake.proofs.Turning.{serves_none, serves_next, serves_all, ports_same, ports_on}
use Rattle.intake.proofs.desk.Desk.serve_clients.Goals as goal

pub loop-number-init : goal.loop-number-init
loop-number-init g c = record { serves = serves_none c.args.self.now; keeps = ports_same c.args.self.now }

pub loop-number-preserved : goal.loop-number-preserved
loop-number-preserved g c = record {
  serves = serves_next c.args.numbers.now c.loop-number.number-index 0 c.args.self.now c.loop-number.self
      c.serve_client.new.self c.loop-number-test.true c.loop-number.invariant.serves
      c.in_ok-serve_client.ensures.ok;
  keeps = ports_on c.args.self.now c.loop-number.self c.serve_client.new.self c.loop-number.invariant.keeps
      c.serve_client.ensures.keeps;
}

pub returns-in_err-serve_client-clause-keeps : goal.returns-in_err-serve_client-clause-keeps
returns-in_err-serve_client-clause-keeps g c =
    ports_on c.args.self.now c.loop-number.self c.serve_client.new.self c.loop-number.invariant.keeps
    c.serve_client.ensures.keeps

pub returns-clause-ok : goal.returns-clause-ok
returns-clause-ok g c =
    serves_all c.args.numbers.now c.loop-number.number-index c.args.self.now c.loop-number.self
    c.loop-number-test.false c.loop-number.invariant.serves

pub returns-clause-keeps : goal.returns-clause-keeps
returns-clause-keeps g c = c.loop-number.invariant.keeps
