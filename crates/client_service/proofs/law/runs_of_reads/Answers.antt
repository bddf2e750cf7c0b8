use Rattle.client_service.proofs.Running.{runs_are_reads}
use Rattle.client_service.proofs.law.runs_of_reads.Goals as goal

pub returns : goal.returns
returns c = runs_are_reads c.others_stay.ensures
