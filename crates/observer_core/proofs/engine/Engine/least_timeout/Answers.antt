use Rattle.observer_core.proofs.engine.Engine.least_timeout.Goals as goal

pub returns : goal.returns
returns c m e = rw (← c.world.ensures m e) c.least_timeout.ensures
