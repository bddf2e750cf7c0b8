use Rattle.observer_core.proofs.Refusals.{refusals_change_nothing}
use Rattle.observer_core.proofs.law.refusals_change_nothing.Goals as goal

pub returns : goal.returns
returns c = refusals_change_nothing
