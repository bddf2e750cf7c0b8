-- Nothing waits of a connection that went.
use Rattle.std.proofs.Common.{◌≡◌, ℕ, ℤ, [], Option, Some, None, refl, sym, ap, ◌∙◌}
use Rattle.std.specs.FinMap as finmap
use Rattle.forwarding.specs.declared.request.PendingConnect.{PendingConnect}
use Rattle.forwarding.specs.Queue.{waiting_connect}
use Rattle.forwarding.specs.State.{PendingTable}
use Rattle.forwarding.specs.Pending.{queue_of, take_connect_as, connecting_to, drop_connection}
use Rattle.forwarding.specs.Agreement.{PendingAgrees}
use Rattle.forwarding.specs.Laws.{IsForgotten, GoneConnectionsAreForgotten}
use Rattle.std.proofs.lemmas.Option.{none-some}
use Rattle.values.proofs.Keyed.{some-some}
use Rattle.forwarding.proofs.Changing.{queue_put}
use Rattle.forwarding.proofs.Counting.{dropped_here}
use Rattle.forwarding.proofs.Agreeing.{agreement_is_kept}
use Rattle.forwarding.proofs.Dropping.{none_waits}

dropped : (s : PendingTable) (n : ℕ) → PendingAgrees s → IsForgotten n (drop_connection s n)
dropped s n a = record {
  requests = queue_put s.queues n [];
  places = dropped_here n s.syncs;
  connects = λ session e.
      let front = (agreement_is_kept.drops s n a).in_front session n e in
      none-some front.0 (sym (ap waiting_connect (queue_put s.queues n [])) ∙ front.1.0);
}

taken : (s : PendingTable) (n : ℕ) (c : PendingConnect) (o : Option PendingConnect) → PendingAgrees s
    → (take_connect_as s n o).connect ≡ Some c → IsForgotten n (take_connect_as s n o).after
taken s n c None a is = absurd (none-some c is)
taken s n c (Some d) a is = dropped s n a

freed : (s : PendingTable) (n : ℕ) (c : PendingConnect) (o : Option PendingConnect) → PendingAgrees s
    → waiting_connect (queue_of s n) ≡ o → (take_connect_as s n o).connect ≡ Some c
    → connecting_to (take_connect_as s n o).after c.session ≡ None
freed s n c None a e is = absurd (none-some c is)
freed s n c (Some d) a e is = none_waits s c.session a (Some n) (a.by_session n c (e ∙ is))

pub gone_are_forgotten : GoneConnectionsAreForgotten
gone_are_forgotten = record {
  drops = dropped;
  takes_connect = λ s n c a is. taken s n c (waiting_connect (queue_of s n)) a is;
  frees_session = λ s n c a is. freed s n c (waiting_connect (queue_of s n)) a refl is;
}
