use Rattle.std.proofs.Common.{refl, arith, w32}
use Rattle.std.proofs.lemmas.Int.{to_z-of_z}
use Rattle.jute.specs.Format.{int, number_bytes}
use Rattle.jute.specs.Records.{reply_header}
use Rattle.read_processor.proofs.Filling.{filled}
use Rattle.read_processor.proofs.body.fill.Goals as goal

pub returns : goal.returns
unfolding number_bytes
returns c =
    let size = to_z-of_z w32 c.args.size c.ranges.size in
    filled 16 c.args.bytes.now c.fill_int.new.bytes c.fill_header.new.bytes
    (int.written c.args.size) (reply_header.written c.args.header.now) refl (omega (arith, c.requires))
    (rw size at c.fill_int.ensures) c.fill_header.ensures
