-- What one connection asks or is answered leaves every other.
use Rattle.std.proofs.Common.{◌≡◌, ◌≢◌, ℕ, List, [], ◌∷◌, ◌++◌, Option, Some, None, refl, sym, ap, ◌∙◌}
use Rattle.std.specs.Cmp.{nat_cmp_total}
use Rattle.std.proofs.lemmas.Map.Lookups.{exact_unsigned}
use Rattle.forwarding.specs.declared.request.PendingConnect.{PendingConnect}
use Rattle.forwarding.specs.declared.request.PendingRequest.{PendingRequest}
use Rattle.forwarding.specs.declared.request.PendingRequest.TheVariants.{Connect, Write, Held}
use Rattle.forwarding.specs.declared.request.Settled.TheVariants.{Of}
use Rattle.forwarding.specs.Queue.{RequestQueue, after_answer, with_oldest_settled, ready_request, without_front_if, waiting_connect}
use Rattle.forwarding.specs.State.{PendingTable}
use Rattle.forwarding.specs.Pending.{queue_in, queue_of, put_queue, push_request, unsettled_sync, settle_first, drop_connection, take_connect_as}
use Rattle.forwarding.specs.Agreement.{places_of}
use Rattle.forwarding.specs.Laws.{Stays, OtherQueuesStay}
use Rattle.values.proofs.Keyed.{other, removed_elsewhere}
use Rattle.forwarding.proofs.Changing.{put_elsewhere, insert_elsewhere}
use Rattle.forwarding.proofs.Counting.{pushed_elsewhere, taken_elsewhere, dropped_elsewhere}

pub put_leaves : (s : PendingTable) (n : ℕ) (q : RequestQueue) (m : ℕ) → m ≢ n → Stays m s (put_queue s n q)
put_leaves s n q m apart = record { queue = ap queue_in (put_elsewhere s.queues n q m apart); places = refl }

pub push_leaves : (s : PendingTable) (n : ℕ) (r : PendingRequest) (m : ℕ) → m ≢ n → Stays m s (push_request s n r)
push_leaves s n r m apart =
    record { queue = ap queue_in (insert_elsewhere s.queues n (queue_of s n ++ r ∷ []) m apart); places = refl }

pub settle_leaves : (s : PendingTable) (syncs : List (Option ℕ)) (m : ℕ) → s.syncs ≡ syncs
    → (settle_first s syncs).settled ≢ Of m → Stays m s (settle_first s syncs).after
settle_leaves s [] m e apart = record { queue = refl; places = refl }
settle_leaves s (None ∷ rest) m e apart = record { queue = refl; places = sym (ap (places_of m) e) }
settle_leaves s (Some n ∷ rest) m e apart =
    let differ : m ≢ n = λ same. apart (ap Of (sym same)) in
    record {
      queue = ap queue_in (put_elsewhere s.queues n (with_oldest_settled (queue_of s n)) m differ);
      places = sym (ap (places_of m) e ∙ taken_elsewhere n m rest differ);
    }

drop_leaves : (s : PendingTable) (n m : ℕ) → m ≢ n → Stays m s (drop_connection s n)
drop_leaves s n m apart = record {
  queue = ap queue_in (removed_elsewhere nat_cmp_total exact_unsigned s.queues n m
      (other nat_cmp_total exact_unsigned m n apart));
  places = dropped_elsewhere n m s.syncs apart;
}

connect_leaves : (s : PendingTable) (n : ℕ) (o : Option PendingConnect) (m : ℕ) → m ≢ n
    → Stays m s (take_connect_as s n o).after
connect_leaves s n None m apart = record { queue = refl; places = refl }
connect_leaves s n (Some c) m apart = drop_leaves s n m apart

pub others_stay : OtherQueuesStay
others_stay = record {
  pushes_connect = λ s n c m apart.
      record { queue = (push_leaves s n (Connect c) m apart).queue; places = refl };
  pushes_write = λ s n xid kind m apart. push_leaves s n (Write (record { xid = xid; kind = kind })) m apart;
  pushes_sync = λ s n xid path m apart. record {
    queue = (push_leaves s n (unsettled_sync xid path) m apart).queue;
    places = pushed_elsewhere n m s.syncs apart;
  };
  holds = λ s n frame m apart. push_leaves s n (Held frame) m apart;
  answers = λ s n xid txn_kind m apart. put_leaves s n (after_answer (queue_of s n) xid txn_kind) m apart;
  settles = λ s m apart. settle_leaves s s.syncs m refl apart;
  takes = λ s n m apart.
      put_leaves s n (without_front_if (ready_request (queue_of s n)) (queue_of s n)) m apart;
  takes_connect = λ s n m apart. connect_leaves s n (waiting_connect (queue_of s n)) m apart;
  drops = drop_leaves;
}
