use Rattle.client_frames.proofs.Rows as rows
use Rattle.client_frames.proofs.law.worked_calls.Goals as goal

pub returns : goal.returns
returns c = rows.worked_calls
