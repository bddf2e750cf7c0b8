use Rattle.std.proofs.Common.{take}
use Rattle.std.specs.List.{flat_map}
use Rattle.std.specs.Io.KnownBytes.{Appends}
use Rattle.replay.specs.Lines.{output_line}
use Rattle.replay.proofs.replaying.print_outputs.Given as goal

abbrev pub invariant-loop-output : goal.invariant-loop-output
invariant-loop-output g l = Appends (g.W.Write.contents l.fn.writer) (g.W.Write.contents l.writer)
    (flat_map output_line (take l.output-index l.outputs))
