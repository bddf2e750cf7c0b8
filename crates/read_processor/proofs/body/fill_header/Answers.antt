use Rattle.std.proofs.Common.{◌++◌, refl, arith}
use Rattle.jute.specs.Format.{int, long, number_bytes}
use Rattle.jute.specs.Records.{reply_header}
use Rattle.read_processor.proofs.Filling.{filled}
use Rattle.read_processor.proofs.body.fill_header.Goals as goal

pub returns : goal.returns
unfolding number_bytes reply_header
returns c =
    let header = c.args.header.now in
    filled 12 c.args.bytes.now c.fill_int.new.bytes c.fill_end.new.bytes
    (int.written header.xid) (long.written header.zxid ++ int.written header.err) refl (omega (arith, c.requires))
    c.fill_int.ensures c.fill_end.ensures
