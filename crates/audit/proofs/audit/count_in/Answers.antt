use Rattle.std.proofs.Common.{◌<◌, IsTrue, length, sym, ◌∙◌, arith}
use Rattle.audit.proofs.Logs.{taken_step, unclean_next}
use Rattle.audit.proofs.audit.count_in.Goals as goal

pub returns-then-not-branch : goal.returns-then-not-branch
returns-then-not-branch c =
    let lt : c.loop-i.i < length c.args.log.now = omega arith in
    unclean_next c.args.log.now c.loop-i.i c.args.path.now c.loop-i.tree c.loop-i.count c.index-log-i.result lt
    c.index-log-i.is c.loop-i.invariant (sym c.in_ok-take.ensures.clean ∙ c.if-not-branch.true)

pub loop-i-preserved : goal.loop-i-preserved
loop-i-preserved c =
    let lt : c.loop-i.i < length c.args.log.now = omega arith in
    let clean : IsTrue c.in_ok-take.field-0 = c.if-not-branch.false in
    taken_step c.args.log.now c.loop-i.i c.args.path.now c.loop-i.tree c.take.new.tree c.loop-i.count c.take.new.count
    c.index-log-i.result lt c.index-log-i.is c.loop-i.invariant (sym c.in_ok-take.ensures.clean ∙ clean)
    (c.in_ok-take.ensures.state clean) (c.in_ok-take.ensures.count clean)
