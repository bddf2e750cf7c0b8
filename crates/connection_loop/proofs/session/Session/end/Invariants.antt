use Rattle.connection_loop.specs.Inner.{talk_of, EndsSoFar}
use Rattle.connection_loop.proofs.session.Session.end.Given as goal

abbrev pub invariant-loop : goal.invariant-loop
invariant-loop g l =
    (goal.iterator-loop g).can_next l.iterator' × (goal.iterator-loop g).is_finite l.iterator'
    × EndsSoFar (talk_of l.fn.self) (talk_of l.self) l.last
