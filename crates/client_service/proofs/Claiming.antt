-- The connections that close where a client claims a session: the client's own isn't busy then.
use Rattle.std.proofs.Common.{◌≡◌, ℕ, ℤ, Bool, true, false, cond, not, Option, Some, None, refl, ap, ◌∙◌}
use Rattle.std.specs.Prelude.{is_some}
use Rattle.std.specs.FinMap as finmap
use Rattle.std.specs.Ordering.{eq_by_cmp, nat_cmp}
use Rattle.std.specs.Cmp.{nat_cmp_total}
use Rattle.sessions.specs.Sessions.{connection_of}
use Rattle.forwarding.specs.Queue.{RequestQueue}
use Rattle.forwarding.specs.Pending.{is_idle, connecting_to}
use Rattle.world.specs.World.{World}
use Rattle.world.specs.Sending.{close_client_if_some}
use Rattle.client_service.specs.Serve.{close_holder, close_others}

-- A connection of which nothing waits stays so when another closes, or it does.
pub idle_if_closed : (n : ℕ) (w : World) (o : Option ℕ) → is_idle w.clients.pending n ≡ true
    → is_idle (close_client_if_some w o).after.clients.pending n ≡ true
idle_if_closed n w None idle = idle
idle_if_closed n w (Some k) idle =
    ap (λ (o : Option RequestQueue). not (is_some o)) (finmap.get-remove nat_cmp_total w.clients.pending.queues k n)
    ∙ by (eq_by_cmp nat_cmp n k)
  where
    by : (b : Bool) → not (is_some (cond b None (finmap.get w.clients.pending.queues n))) ≡ true
    by true = refl
    by false = idle

pub idle_after_others : (n : ℕ) (w : World) (session : ℤ) → is_idle w.clients.pending n ≡ true
    → is_idle (close_others session w).after.clients.pending n ≡ true
idle_after_others n w session idle =
    let v = (close_holder session w).after in
    idle_if_closed n v (connecting_to v.clients.pending session)
    (idle_if_closed n w (connection_of w.clients.sessions session) idle)
