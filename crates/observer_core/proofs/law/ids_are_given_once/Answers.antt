use Rattle.observer_core.proofs.GivenIds.{ids_are_given_once}
use Rattle.observer_core.proofs.law.ids_are_given_once.Goals as goal

pub returns : goal.returns
returns c =
    ids_are_given_once c.ended_sessions_are_refused.ensures.new
    (record {
      kept = c.sessions_and_connections_agree.ensures.kept;
      told = c.firing.ensures.watchers;
      dropped = c.firing.ensures.dropped;
      queued = c.requests_and_syncs_agree.ensures;
    })
