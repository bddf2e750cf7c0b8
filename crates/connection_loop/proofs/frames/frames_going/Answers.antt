use Rattle.std.proofs.Common.{if◌then◌else◌, Bool, ap, sym, ◌∙◌, Err, arith}
use Rattle.connection_loop.proofs.Fronts.{going_all, going_short, going_refused, held_back, goes_alone, goes_on}
use Rattle.connection_loop.proofs.frames.frames_going.Goals as goal

pub loop-count-preserved : goal.loop-count-preserved
loop-count-preserved c =
    goes_on c.args.dialect c.args.most c.loop-count.count c.loop-count.here c.loop-count.ahead
    c.read_frame.new.reader _ _ _ (omega (arith, c.loop-count-test.true)) c.in-Ok.ensures c.kind_of_frame-kind.ensures
    (sym c.goes_with.ensures ∙ c.if-not-goes_with.false) (sym c.goes_last.ensures ∙ c.if-goes_last.false)
    c.gate_after-here.ensures
    ∙ c.loop-count.invariant

pub returns-then-not-goes_with-clause-going : goal.returns-then-not-goes_with-clause-going
returns-then-not-goes_with-clause-going c =
    let none = held_back c.args.dialect c.args.most c.loop-count.count c.loop-count.here c.loop-count.ahead
    c.read_frame.new.reader _ _ (omega (arith, c.loop-count-test.true)) c.in-Ok.ensures c.kind_of_frame-kind.ensures
    (sym c.goes_with.ensures ∙ c.if-not-goes_with.true) in
    omega (arith, none, c.loop-count.invariant)

pub returns-then-goes_last-clause-going : goal.returns-then-goes_last-clause-going
returns-then-goes_last-clause-going c =
    let one = goes_alone c.args.dialect c.args.most c.loop-count.count c.loop-count.here c.loop-count.ahead
    c.read_frame.new.reader _ _ (omega (arith, c.loop-count-test.true)) c.in-Ok.ensures c.kind_of_frame-kind.ensures
    (sym c.goes_with.ensures ∙ c.if-not-goes_with.false) (sym c.goes_last.ensures ∙ c.if-goes_last.true) in
    omega (arith, one, c.loop-count.invariant)

pub returns-in-Short-clause-going : goal.returns-in-Short-clause-going
returns-in-Short-clause-going c =
    let none = going_short c.args.dialect c.args.most c.loop-count.count c.loop-count.here c.loop-count.ahead
    (omega (arith, c.loop-count-test.true)) (c.in-Err.ensures.0 ∙ ap Err c.in-Short.is) in
    omega (arith, none, c.loop-count.invariant)

pub returns-then-ends-clause-going : goal.returns-then-ends-clause-going
returns-then-ends-clause-going c =
    let one = going_refused c.args.dialect c.args.most c.loop-count.count c.loop-count.here c.loop-count.ahead
    c.in-Err.fault c.in_default.not-Short (omega (arith, c.loop-count-test.true)) c.in-Err.ensures.0
    ∙ ap (λ (b : Bool). if b then 1 else 0) (sym c.goes_with-ends.ensures ∙ c.if-ends.true) in
    omega (arith, one, c.loop-count.invariant)

pub returns-else-ends-clause-going : goal.returns-else-ends-clause-going
returns-else-ends-clause-going c =
    let none = going_refused c.args.dialect c.args.most c.loop-count.count c.loop-count.here c.loop-count.ahead
    c.in-Err.fault c.in_default.not-Short (omega (arith, c.loop-count-test.true)) c.in-Err.ensures.0
    ∙ ap (λ (b : Bool). if b then 1 else 0) (sym c.goes_with-ends.ensures ∙ c.if-ends.false) in
    omega (arith, none, c.loop-count.invariant)

pub returns-clause-going : goal.returns-clause-going
returns-clause-going c =
    let none = going_all c.args.dialect c.args.most c.loop-count.count c.loop-count.here c.loop-count.ahead
    (omega (arith, c.loop-count-test.false)) in
    omega (arith, none, c.loop-count.invariant, c.loop-count-test.false, c.loop-count.auto.count-end)
