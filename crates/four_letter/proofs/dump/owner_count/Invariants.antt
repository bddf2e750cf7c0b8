use Rattle.std.proofs.Common.{length}
use Rattle.four_letter.specs.Dumped.{owning_sessions}
use Rattle.four_letter.proofs.Owning.{IsCounted}
use Rattle.four_letter.proofs.dump.owner_count.Given as goal

abbrev pub invariant-loop-session : goal.invariant-loop-session
invariant-loop-session l =
    (goal.iterator-loop-session).can_next l.session-iterator
    × (goal.iterator-loop-session).is_finite l.session-iterator
    × IsCounted l.ephemerals (length (owning_sessions l.timeouts l.ephemerals)) l.session-iterator l.count
