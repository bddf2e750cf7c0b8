use Rattle.observer_core.proofs.Leaderless.{silent_without_leader}
use Rattle.observer_core.proofs.law.silent_without_leader.Goals as goal

pub returns : goal.returns
returns c =
    silent_without_leader
    (record {
      kept = c.sessions_and_connections_agree.ensures.kept;
      told = c.firing.ensures.watchers;
      dropped = c.firing.ensures.dropped;
      queued = c.requests_and_syncs_agree.ensures;
    })
