-- Facts of Booleans, and of connections of which nothing waits or that are heard.
use Rattle.std.proofs.Common.{◌≡◌, ℕ, Bool, true, false, cond, not, ◌||◌, ◌&&◌, [], Option, Some, None, refl, sym, ap, ◌∙◌}
use Rattle.std.specs.Prelude.{is_some}
use Rattle.std.specs.Ordering.{eq_by_cmp, nat_cmp}
use Rattle.std.specs.Cmp.{nat_cmp_total}
use Rattle.std.specs.FinMap as finmap
use mathlib.Core.Bool.{true≢false}
use Rattle.sessions.specs.State.{ConnectedClient as Joined}
use Rattle.sessions.specs.Sessions.{session_in}
use Rattle.forwarding.specs.Queue.{RequestQueue, waiting_connect}
use Rattle.forwarding.specs.State.{PendingTable}
use Rattle.forwarding.specs.Pending.{queue_in, queue_of, is_idle}
use Rattle.world.specs.World.{OpenConnection, World}
use Rattle.world.specs.Clients.{heard_in}
use Rattle.world.specs.Sending.{close_client_if_some}

pub first_false : (a b : Bool) → (a || b) ≡ false → a ≡ false
first_false true b e = absurd (true≢false e)
first_false false b e = refl

pub first_true : (a b : Bool) → (a && b) ≡ true → a ≡ true
first_true true b e = refl
first_true false b e = absurd (true≢false (sym e))

pub none_is : {X : Type 0} (o : Option X) → is_some o ≡ false → o ≡ None
none_is None e = refl
none_is (Some x) e = absurd (true≢false e)

pub no_session : (o : Option Joined) → session_in o ≡ None → o ≡ None
no_session None e = refl
no_session (Some c) e = absurd (true≢false (ap is_some e))

-- A connection of which nothing waits has no connect that waits.
pub idle_queue : (p : PendingTable) (n : ℕ) → is_idle p n ≡ true → queue_of p n ≡ []
idle_queue p n e = by (finmap.get p.queues n) e
  where
    by : (o : Option RequestQueue) → not (is_some o) ≡ true → queue_in o ≡ []
    by None e = refl
    by (Some q) e = absurd (true≢false (sym e))

pub idle_connect : (p : PendingTable) (n : ℕ) → is_idle p n ≡ true → waiting_connect (queue_of p n) ≡ None
idle_connect p n e = ap waiting_connect (idle_queue p n e)

-- Closing a connection makes no other wait.
pub idle_if_closed : (n : ℕ) (w : World) (o : Option ℕ) → is_idle w.clients.pending n ≡ true
    → is_idle (close_client_if_some w o).after.clients.pending n ≡ true
idle_if_closed n w None idle = idle
idle_if_closed n w (Some k) idle =
    ap (λ (o : Option RequestQueue). not (is_some o)) (finmap.get-remove nat_cmp_total w.clients.pending.queues k n)
    ∙ by (eq_by_cmp nat_cmp n k)
  where
    by : (b : Bool) → not (is_some (cond b None (finmap.get w.clients.pending.queues n))) ≡ true
    by true = refl
    by false = idle

pub heard_there : (o : Option OpenConnection) (k : OpenConnection) → heard_in o ≡ Some k → o ≡ Some k
heard_there None k e = absurd (true≢false (sym (ap is_some e)))
heard_there (Some c) k e = by c.is_leaving e
  where
    by : (b : Bool) → cond b None (Some c) ≡ Some k → Some c ≡ Some k
    by true e = absurd (true≢false (sym (ap is_some e)))
    by false e = e
