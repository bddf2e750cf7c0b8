use Rattle.std.proofs.Common.{arith}
use Rattle.client_service.proofs.Serving.{shorter, frame_whole, frame_short, frame_refused}
use Rattle.client_service.proofs.client.first_frame.Goals as goal

pub overflow_sub-result : goal.overflow_sub-result
overflow_sub-result c = omega (
  arith,
  shorter c.args.bytes.now c.rest-left.result.now c.in-Ok.frame.now
      (rw (c.rest-left.ensures, ← c.new-ahead.ensures) c.in-Ok.ensures),
)

pub returns-in-Ok : goal.returns-in-Ok
returns-in-Ok c = frame_whole c.args.bytes.now c.rest-left.result.now c.in-Ok.frame.now
    (λ i. omega (arith, c.type_inv.bytes i)) (rw (c.rest-left.ensures, ← c.new-ahead.ensures) c.in-Ok.ensures)

pub returns-in-Short : goal.returns-in-Short
returns-in-Short c = frame_short c.args.bytes.now (rw (← c.new-ahead.ensures, ← c.in-Short.is) c.in-Err.ensures.0)

pub returns-in_default : goal.returns-in_default
returns-in_default c = frame_refused c.args.bytes.now c.in-Err.fault c.in_default.not-Short
    (rw (← c.new-ahead.ensures) c.in-Err.ensures.0)
