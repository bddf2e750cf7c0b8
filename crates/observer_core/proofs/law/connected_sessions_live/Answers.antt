use Rattle.observer_core.proofs.Living.{connected_sessions_live}
use Rattle.observer_core.proofs.law.connected_sessions_live.Goals as goal

pub returns : goal.returns
returns c =
    connected_sessions_live c.serving.ensures c.dialects.ensures
    (record {
      kept = c.sessions_and_connections_agree.ensures.kept;
      told = c.firing.ensures.watchers;
      dropped = c.firing.ensures.dropped;
      queued = c.requests_and_syncs_agree.ensures;
    })
