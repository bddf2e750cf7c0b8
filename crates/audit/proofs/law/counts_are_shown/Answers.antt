use Rattle.audit.proofs.Fresh.{counts_are_shown}
use Rattle.audit.proofs.law.counts_are_shown.Goals as goal

pub returns : goal.returns
returns c = counts_are_shown
