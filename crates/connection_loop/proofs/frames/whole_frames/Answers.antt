use Rattle.std.proofs.Common.{◌≡◌, ◌-◌, length, Ok, Err, ap, sym, ◌∙◌, arith}
use Rattle.connection_loop.proofs.Fronts.{left_of, left_on, left_waits, left_ends, left_all, read_whole, read_refused}
use Rattle.connection_loop.proofs.frames.whole_frames.Goals.{else-loop-test, then-loop-test+in-Err+in-Short}
use Rattle.connection_loop.proofs.frames.whole_frames.Goals as goal

pub loop-preserved : goal.loop-preserved
loop-preserved c =
    left_on c.args.most c.loop.counter c.loop.ahead c.read_frame.new.reader _ (omega (arith, c.loop-test.true))
    c.in-Ok.ensures
    ∙ c.loop.invariant

pub returns-in_default : goal.returns-in_default
returns-in_default c =
    read_refused c.args.most c.args.bytes.now c.in-Err.fault
    (sym c.loop.invariant
    ∙ left_ends c.args.most c.loop.counter c.loop.ahead c.in-Err.fault c.in_default.not-Short
    (omega (arith, c.loop-test.true)) c.in-Err.ensures.0)

pub returns : goal.returns
returns c =
    let left : left_of c.args.most c.args.bytes.now ≡ Ok c.loop-test.ahead = elim c.loop-test.branch [
      | else-loop-test w ↦
          sym c.loop.invariant
          ∙ left_all c.args.most c.loop.counter c.loop.ahead (omega (arith, w.loop-test.false))
          ∙ ap Ok (sym w.ahead-is)
      | then-loop-test+in-Err+in-Short w ↦
          sym c.loop.invariant
          ∙ left_waits c.args.most c.loop.counter c.loop.ahead (omega (arith, w.loop-test.true))
          (w.in-Err.ensures.0 ∙ ap Err w.in-Short.is)
          ∙ ap Ok (sym (w.ahead-is ∙ w.in-Err.ensures.1))
    ] in
    c.saturating_sub.ensures
    ∙ ap (λ r. length c.args.bytes.now - length r) c.rest.ensures
    ∙ read_whole c.args.most c.args.bytes.now c.loop-test.ahead left
