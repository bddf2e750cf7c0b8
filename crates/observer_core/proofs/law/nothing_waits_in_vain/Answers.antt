use Rattle.observer_core.proofs.Awaiting.{nothing_waits_in_vain}
use Rattle.observer_core.proofs.law.nothing_waits_in_vain.Goals as goal

pub returns : goal.returns
returns c =
    nothing_waits_in_vain
    (record {
      kept = c.sessions_and_connections_agree.ensures.kept;
      told = c.firing.ensures.watchers;
      dropped = c.firing.ensures.dropped;
      queued = c.requests_and_syncs_agree.ensures;
    })
    c.nothing_waits_in_vain.ensures.waits
