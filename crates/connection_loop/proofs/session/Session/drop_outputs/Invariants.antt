use Rattle.connection_loop.specs.Inner.{talk_of, Drops}
use Rattle.connection_loop.proofs.session.Session.drop_outputs.Given as goal

abbrev pub invariant-loop : goal.invariant-loop
invariant-loop l = Drops (talk_of l.fn.self) (talk_of l.self)
