use Rattle.std.proofs.Common.{◌≡◌, ◌++◌}
use Rattle.std.specs.List.{flat_map}
use Rattle.std.specs.FinMap as finmap
use Rattle.four_letter.specs.Texts.{timeout_line}
use Rattle.four_letter.proofs.dump.put_timeouts.Given as goal

abbrev pub invariant-loop-session : goal.invariant-loop-session
invariant-loop-session l =
    (goal.iterator-loop-session).can_next l.session-iterator
    × (goal.iterator-loop-session).is_finite l.session-iterator
    × (l.out.items ++ flat_map timeout_line l.session-iterator
    ≡ l.fn.out.items ++ flat_map timeout_line (finmap.entries l.timeouts))
