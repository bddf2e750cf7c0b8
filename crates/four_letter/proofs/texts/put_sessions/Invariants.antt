use Rattle.std.proofs.Common.{◌≡◌, ◌++◌}
use Rattle.std.specs.List.{flat_map}
use Rattle.four_letter.specs.Texts.{session_line}
use Rattle.four_letter.proofs.texts.put_sessions.Given as goal

abbrev pub invariant-loop-session : goal.invariant-loop-session
invariant-loop-session l =
    (goal.iterator-loop-session).can_next l.session-iterator
    × (goal.iterator-loop-session).is_finite l.session-iterator
    × (l.out.items ++ flat_map session_line l.session-iterator
    ≡ l.fn.out.items ++ flat_map session_line l.sessions.keys)
