use Rattle.intake.proofs.Agreeing.{desks_agree}
use Rattle.intake.proofs.law.desks_agree.Goals as goal

pub returns : goal.returns
returns c = desks_agree
