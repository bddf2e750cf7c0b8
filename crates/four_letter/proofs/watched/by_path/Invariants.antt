use Rattle.std.proofs.Common.{take}
use Rattle.four_letter.specs.Inner.Gathered.{sessions_by_path, GathersSessions}
use Rattle.four_letter.proofs.watched.by_path.Given as goal

abbrev pub invariant-loop-row : goal.invariant-loop-row
invariant-loop-row l = GathersSessions (take l.row-index l.rows) (sessions_by_path l.by_path.entries)
