use Rattle.std.proofs.Common.{take}
use Rattle.four_letter.specs.Inner.Gathered.{paths_by_session, GathersPaths}
use Rattle.four_letter.proofs.watched.by_session.Given as goal

abbrev pub invariant-loop-row : goal.invariant-loop-row
invariant-loop-row l = GathersPaths (take l.row-index l.rows) (paths_by_session l.by_session.entries)
