use Rattle.forwarding.proofs.WorkedRows.{rows_hold}
use Rattle.forwarding.proofs.law.worked_rows.Goals as goal

pub returns : goal.returns
returns c = rows_hold
