use Rattle.std.proofs.Common.{arith}
use Rattle.read_processor.proofs.Longer.{longer}
use Rattle.read_processor.proofs.body.Body.with_record.Goals as goal

pub returns : goal.returns
returns g c =
    let text = g.T.WriteRecord.format.written c.args.item.now in
    longer c.self.inside.bytes.items text c.args.self c.self.invariant.0 c.self.invariant.1 c.self.view_is
    (omega (arith, c.if-written_len-len.false, c.written_len.ensures, c.len.ensures)) c.write.new.out.items
    c.in_ok-write.ensures
