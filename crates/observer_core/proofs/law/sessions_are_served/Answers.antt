use Rattle.observer_core.proofs.Served.{sessions_are_served}
use Rattle.observer_core.proofs.law.sessions_are_served.Goals as goal

pub returns : goal.returns
returns c =
    sessions_are_served c.serving.ensures
    (record {
      kept = c.sessions_and_connections_agree.ensures.kept;
      told = c.firing.ensures.watchers;
      dropped = c.firing.ensures.dropped;
      queued = c.requests_and_syncs_agree.ensures;
    })
