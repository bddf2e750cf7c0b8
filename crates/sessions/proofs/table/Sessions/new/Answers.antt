use Rattle.std.proofs.Common.{subst, arith}
use Rattle.std.specs.Prelude.{IsTrue}
use Rattle.settings.specs.Settings.{is_server_id}
use Rattle.sessions.specs.State.{SessionSettings}
use Rattle.sessions.proofs.Agreeing.{none_agree}
use Rattle.sessions.proofs.Numbers.{first_below}
use Rattle.sessions.proofs.table.Sessions.new.Goals as goal

pub invariant_of-result : goal.invariant_of-result
invariant_of-result c =
    let terms : SessionSettings = record {
      server_id = c.args.server_id;
      timeouts = c.args.timeouts;
      passwords = c.args.passwords;
      first_counter = c.args.first_counter;
      super_digest = c.args.super_digest;
    } in
    let below = first_below c.number-counter.result c.number-counter.ensures.bounds in
    rw (c.new.ensures, c.new-2.ensures) (none_agree terms _
    (subst (λ n. IsTrue (is_server_id n)) c.number-number.ensures.number c.number-number.ensures.bounds)
    (omega (arith, below)))
