use Rattle.std.proofs.Common.{◌≡◌, w32, w64, to_z, of_z, rules}
use Rattle.observer_core.proofs.engine.Engine.primed.Goals as goal

pub returns : goal.returns
returns c =
    let same_id : to_z w64 (of_z w64 c.in_ok-session.session) ≡ c.in_ok-session.session = search rules in
    let same_time : to_z w32 (of_z w32 c.greatest-time_out.result) ≡ c.args.config.settings.timeouts.greatest = search rules in
    rw (
      c.started.ensures,
      c.in_ok-replica.ensures,
      c.in_dialect.ensures,
      c.with_key.ensures,
      c.in_ok-session.ensures.clients,
      same_id,
      c.in_ok-session.ensures.session,
      same_time,
    )
