use Rattle.std.proofs.Common.{arith}
use Rattle.read_processor.proofs.Longer.{longer}
use Rattle.read_processor.proofs.body.Body.with_bytes.Goals as goal

pub returns : goal.returns
returns c =
    longer c.self.inside.bytes.items c.args.more.now c.args.self c.self.invariant.0 c.self.invariant.1 c.self.view_is
    (omega (arith, c.if-more-len.false, c.len.ensures)) c.extend_from_slice.new.self.items
    c.in_ok-extend_from_slice.ensures.items
