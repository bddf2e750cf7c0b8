use Rattle.intake.specs.Links.{PutsShares}
use Rattle.intake.proofs.links.Links.put_all.Given as goal

abbrev pub invariant-loop-output : goal.invariant-loop-output
invariant-loop-output l = PutsShares l.initial.self l.yielded l.self
