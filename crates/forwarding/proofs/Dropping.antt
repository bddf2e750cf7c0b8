-- What a connection that goes leaves, by the requests that it had.
use Rattle.std.proofs.Common.{◌≡◌, ℕ, ℤ, Bool, false, cond, List, [], ◌∷◌, map, drop, Option, Some, None, ap, ◌∙◌}
use Rattle.std.specs.Prelude.{IfSome}
use Rattle.std.specs.List.{list_any}
use Rattle.std.specs.FinMap as finmap
use Rattle.std.specs.Cmp.{int_cmp_total}
use Rattle.std.specs.Ordering.{is_eq}
use Rattle.std.proofs.lemmas.Cmp.{tied_itself}
use Rattle.forwarding.specs.Queue.{RequestQueue, is_unsettled, unsettled_count, waiting_connect}
use Rattle.forwarding.specs.State.{PendingTable}
use Rattle.forwarding.specs.declared.request.PendingConnect.{PendingConnect}
use Rattle.forwarding.specs.Pending.{queue_in, without_owner, without_connect, connecting_to, drop_connection}
use Rattle.forwarding.specs.Agreement.{PendingAgrees}
use Rattle.forwarding.specs.Inner.{first_sync}
use Rattle.std.proofs.lemmas.Option.{none-some}
use Rattle.values.proofs.Keyed.{some-some}
use Rattle.forwarding.proofs.Counting.{dropped_nothing}
use Rattle.forwarding.proofs.QueueSteps.{none_unsettled}

-- It has no request.
pub drops_nothing : (s : PendingTable) (n : ℕ) → PendingAgrees s → finmap.get s.queues n ≡ None
    → drop_connection s n ≡ record s { queues = finmap.remove s.queues n }
drops_nothing s n a none = λ i. record s {
  queues = finmap.remove s.queues n;
  syncs = dropped_nothing n s.syncs
      ((a.queues n).places_are_unsettled ∙ ap (λ o. unsettled_count (queue_in o)) none) i;
  connects = without_connect s.connects (waiting_connect (queue_in (none i)));
}

-- It has these requests, and no sync that isn't settled.
pub drops_requests : (s : PendingTable) (n : ℕ) (q : RequestQueue) → PendingAgrees s
    → finmap.get s.queues n ≡ Some q → list_any is_unsettled q ≡ false
    → drop_connection s n ≡ record s {
      queues = finmap.remove s.queues n;
      connects = without_connect s.connects (waiting_connect q);
    }
drops_requests s n q a some settled = λ i. record s {
  queues = finmap.remove s.queues n;
  syncs = dropped_nothing n s.syncs
      ((a.queues n).places_are_unsettled ∙ ap (λ o. unsettled_count (queue_in o)) some ∙ none_unsettled q settled) i;
  connects = without_connect s.connects (waiting_connect (queue_in (some i)));
}

pub drops_syncs : (s : PendingTable) (n : ℕ) (q : RequestQueue) → finmap.get s.queues n ≡ Some q
    → drop_connection s n ≡ record s {
      queues = finmap.remove s.queues n;
      syncs = map (without_owner n) s.syncs;
      connects = without_connect s.connects (waiting_connect q);
    }
drops_syncs s n q some = λ i. record s {
  queues = finmap.remove s.queues n;
  syncs = map (without_owner n) s.syncs;
  connects = without_connect s.connects (waiting_connect (queue_in (some i)));
}

-- The oldest sync, and those after it.
pub first_of : (syncs : List (Option ℕ)) (place : Option ℕ) → first_sync syncs ≡ Some place
    → syncs ≡ place ∷ drop 1 syncs
first_of [] place e = absurd (none-some place e)
first_of (x ∷ rest) place e = ap (λ y. y ∷ rest) (some-some e)

-- Once the connection whose connect waits for a session has gone, none waits for it.
pub none_waits : (s : PendingTable) (session : ℤ) → PendingAgrees s → (o : Option ℕ) → connecting_to s session ≡ o
    → IfSome o (λ n. connecting_to (drop_connection s n) session ≡ None)
none_waits s session a None is = tt
none_waits s session a (Some n) is =
    let found = a.in_front session n is in
    ap (λ (c : Option PendingConnect). finmap.get (without_connect s.connects c) session) found.1.0
    ∙ ap (λ (key : ℤ). finmap.get (finmap.remove s.connects key) session) found.1.1
    ∙ finmap.get-remove int_cmp_total s.connects session session
    ∙ ap (λ (b : Bool). cond b None (finmap.get s.connects session)) (ap is_eq (tied_itself int_cmp_total session))
