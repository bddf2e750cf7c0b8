use Rattle.observer_core.specs.Play.{primed_machine}
use Rattle.intake.proofs.desk.Desk.primed.Goals as goal

pub returns : goal.returns
returns c = c.with_engine.ensures (primed_machine c.args.config.settings) c.in_ok-engine.ensures
