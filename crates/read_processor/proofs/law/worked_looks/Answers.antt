use Rattle.read_processor.proofs.Rows.{worked, worked_later, worked_watches}
use Rattle.read_processor.proofs.law.worked_looks.Goals as goal

pub returns-clause-looks : goal.returns-clause-looks
returns-clause-looks c = worked

pub returns-clause-later : goal.returns-clause-later
returns-clause-later c = worked_later

pub returns-clause-watches : goal.returns-clause-watches
returns-clause-watches c = worked_watches
