use Rattle.observer_core.specs.Play.{new_machine}
use Rattle.intake.proofs.desk.Desk.new.Goals as goal

pub returns : goal.returns
returns c = c.with_engine.ensures (new_machine c.args.config.settings) c.in_ok-engine.ensures
