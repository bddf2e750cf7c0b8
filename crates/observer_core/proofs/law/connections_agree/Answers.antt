use Rattle.observer_core.proofs.Agreed.{connections_agree}
use Rattle.observer_core.proofs.law.connections_agree.Goals as goal

pub returns : goal.returns
returns c =
    let sessions = c.sessions_and_connections_agree.ensures in
    connections_agree
    (record {
      kept = sessions.kept;
      told = c.firing.ensures.watchers;
      dropped = c.firing.ensures.dropped;
      queued = c.requests_and_syncs_agree.ensures;
    })
    sessions.apart
