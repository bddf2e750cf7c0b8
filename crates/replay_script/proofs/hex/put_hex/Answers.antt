use Rattle.std.proofs.Common.{◌∙◌}
use Rattle.replay_script.proofs.Digits.{digits_so_far}
use Rattle.replay_script.proofs.hex.put_hex.Goals as goal

pub returns-in_err-extend_from_slice : goal.returns-in_err-extend_from_slice
returns-in_err-extend_from_slice c =
    digits_so_far c.from_residual.result c.args.out.now.items c.args.bytes.now c.extend_from_slice.new.self.items
    c.loop-byte.byte-index c.from_residual.ensures.0
    (c.in_err-extend_from_slice.ensures.items ∙ c.loop-byte.invariant)
