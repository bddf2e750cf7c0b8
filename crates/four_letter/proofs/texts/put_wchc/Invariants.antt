use Rattle.std.proofs.Common.{◌≡◌, ◌++◌}
use Rattle.four_letter.specs.Texts.{wchc_text}
use Rattle.four_letter.specs.Inner.Gathered.{paths_by_session, session_blocks}
use Rattle.four_letter.proofs.texts.put_wchc.Given as goal

abbrev pub invariant-loop-session : goal.invariant-loop-session
invariant-loop-session l =
    (goal.iterator-loop-session).can_next l.session-iterator
    × (goal.iterator-loop-session).is_finite l.session-iterator
    × (l.out.items ++ session_blocks (paths_by_session l.session-iterator) ≡ l.fn.out.items ++ wchc_text l.rows)
