use Rattle.std.proofs.Common.{nat_lt}
use Rattle.connection_loop.specs.Outgoing.{HasGathered}
use Rattle.connection_loop.proofs.outgoing.Outgoing.gather.Given as goal

abbrev pub invariant-loop-gathered : goal.invariant-loop-gathered
invariant-loop-gathered l = HasGathered l.fn.self l.self l.fn.window l.window l.fn.port l.port (nat_lt 0 l.gathered)
