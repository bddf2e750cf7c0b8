use Rattle.serve_door.specs.Beginnings.{HasRead}
use Rattle.serve_door.proofs.first.First.hear.Given as goal

abbrev pub invariant-loop : goal.invariant-loop
invariant-loop g l = HasRead l.fn.self l.self (g.R.Read.remaining l.fn.reader) (g.R.Read.remaining l.reader)
