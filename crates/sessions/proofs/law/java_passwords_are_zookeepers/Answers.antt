use Rattle.sessions.proofs.WorkedRows.{rows_hold}
use Rattle.sessions.proofs.law.java_passwords_are_zookeepers.Goals as goal

pub returns : goal.returns
returns c = rows_hold
