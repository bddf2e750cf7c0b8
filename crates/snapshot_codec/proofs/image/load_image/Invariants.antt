use Rattle.std.proofs.Common.{length}
use Rattle.snapshot_codec.proofs.Reading.{LoadsOn}
use Rattle.snapshot_codec.proofs.image.load_image.Given as goal

abbrev pub invariant-loop-dialect : goal.invariant-loop-dialect
invariant-loop-dialect l = LoadsOn l.fn.dialect l.loader l.phase l.ahead l.reader

abbrev pub decreases-loop-dialect : goal.decreases-loop-dialect
decreases-loop-dialect l = length l.ahead
