use Rattle.std.proofs.Common.{◌≡◌, take}
use Rattle.learner_sync.specs.Answers.{session_rows}
use Rattle.learner_sync.proofs.answers.session_table.Given as goal

abbrev pub invariant-loop-row : goal.invariant-loop-row
invariant-loop-row l = l.bytes.items ≡ session_rows (take l.row-index l.rows)
