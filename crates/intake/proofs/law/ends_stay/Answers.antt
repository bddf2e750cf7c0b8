use Rattle.intake.proofs.Ending.{ends_stay}
use Rattle.intake.proofs.law.ends_stay.Goals as goal

pub returns : goal.returns
returns c = ends_stay
