use Rattle.intake.proofs.Hubs.{hubs_run}
use Rattle.intake.proofs.law.hubs_run.Goals as goal

pub returns : goal.returns
returns c = hubs_run
