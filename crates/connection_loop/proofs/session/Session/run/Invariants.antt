use Rattle.std.proofs.Common.{[]}
use Rattle.connection_loop.specs.Inner.{talk_of, Passes, ClosesIfRefused}
use Rattle.connection_loop.proofs.session.Session.run.Given as goal

abbrev pub invariant-loop : goal.invariant-loop
invariant-loop g l =
    (goal.iterator-loop g).can_next l.iterator' × (goal.iterator-loop g).is_finite l.iterator'
    × Passes (talk_of l.initial.self) (talk_of l.self) (g.R.Read.remaining l.fn.reader) (g.R.Read.remaining l.reader)
    (g.W.Write.contents l.fn.writer) (g.W.Write.contents l.writer) []
    × ClosesIfRefused (talk_of l.self)
