use Rattle.port_hints.specs.Lists.{HasMarked}
use Rattle.port_hints.proofs.marks.Marks.take_group.Given as goal

abbrev pub invariant-loop-place : goal.invariant-loop-place
invariant-loop-place l = HasMarked l.self.slots l.initial.numbers.items l.numbers.items
