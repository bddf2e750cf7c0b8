use Rattle.std.proofs.Common.{◌≡◌, ◌++◌}
use Rattle.std.specs.FinMap as finmap
use Rattle.four_letter.proofs.Owning.{owner_lines}
use Rattle.four_letter.proofs.dump.put_owners.Given as goal

abbrev pub invariant-loop-session : goal.invariant-loop-session
invariant-loop-session l =
    (goal.iterator-loop-session).can_next l.session-iterator
    × (goal.iterator-loop-session).is_finite l.session-iterator
    × (l.out.items ++ owner_lines l.ephemerals l.session-iterator
    ≡ l.fn.out.items ++ owner_lines l.ephemerals (finmap.entries l.timeouts))
