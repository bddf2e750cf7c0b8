use Rattle.intake.proofs.Looking.{looks_at_none, looks_next, looks_all}
use Rattle.intake.proofs.links.Links.look_all.Goals as goal

pub loop-number-init : goal.loop-number-init
loop-number-init c = looks_at_none c.args.self.now

pub loop-number-preserved : goal.loop-number-preserved
loop-number-preserved c =
    looks_next c.args.numbers.now c.loop-number.number-index 0 c.args.self.now c.loop-number.self c.look.new.self
    c.loop-number-test.true c.loop-number.invariant c.look.ensures

pub returns : goal.returns
returns c =
    looks_all c.args.numbers.now c.loop-number.number-index c.args.self.now c.loop-number.self
    c.loop-number-test.false c.loop-number.invariant
