use Rattle.std.proofs.Common.{take}
use Rattle.intake.specs.Links.{LooksAt}
use Rattle.intake.proofs.links.Links.look_all.Given as goal

abbrev pub invariant-loop-number : goal.invariant-loop-number
invariant-loop-number l = LooksAt (take l.number-index l.numbers) l.initial.self l.self
