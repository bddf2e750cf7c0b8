use Rattle.std.proofs.Common.{refl}
use Rattle.observer_core.proofs.Apart.{NoSession, Nobody, open_apart, end_apart}
use Rattle.observer_core.proofs.Asking.{bytes_apart}
use Rattle.observer_core.proofs.law.clients_are_apart.Goals as goal

pub returns : goal.returns
returns c =
    let stay = c.others_stay.ensures in
    let keep_watches = c.firing.ensures.others in
    let queues = c.other_connections_stay.ensures in
    let new = c.ended_sessions_are_refused.ensures.new in
    record {
      comes = λ m n address. record { leader = refl; world = open_apart NoSession Nobody n address m.world };
      sends = λ m n bytes agree. record {
        leader = refl;
        world = bytes_apart stay keep_watches queues new n m.world bytes (agree.sessions, agree.pending);
      };
      goes = λ m n.
          record { leader = refl; world = end_apart NoSession Nobody stay keep_watches queues n m.world };
    }
