use Rattle.port_hints.specs.Lists.{HasMarked}
use Rattle.port_hints.proofs.marks.Marks.take.Given as goal

abbrev pub invariant-loop-index : goal.invariant-loop-index
invariant-loop-index l = HasMarked l.self.slots l.initial.numbers.items l.numbers.items
