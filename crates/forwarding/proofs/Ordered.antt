-- Requests leave in the order in which they came, and syncs are settled in theirs.
use Rattle.std.proofs.Common.{◌≡◌, ℕ, true, false, cond, List, [], ◌∷◌, ◌++◌, drop, Option, Some, None, refl, sym, ap, subst, ◌∙◌}
use Rattle.forwarding.specs.declared.request.PendingConnect.{PendingConnect}
use Rattle.forwarding.specs.declared.request.PendingRequest.{PendingRequest}
use Rattle.forwarding.specs.declared.request.PendingRequest.TheVariants.{Connect, Write, Sync, Held}
use Rattle.forwarding.specs.declared.request.Ready.{Ready}
use Rattle.forwarding.specs.declared.request.Ready.TheVariants.{SettledSync, HeldFrame}
use Rattle.forwarding.specs.declared.request.Settled.TheVariants.{Of}
use Rattle.forwarding.specs.Queue.{RequestQueue, with_oldest_settled, ready_request, without_front_if, waiting_connect, held_frames}
use Rattle.forwarding.specs.State.{PendingTable}
use Rattle.forwarding.specs.Pending.{queue_of, put_queue, unsettled_sync, settle_first, settle_sync, take_connect_as}
use Rattle.forwarding.specs.Agreement.{places_of, PendingAgrees}
use Rattle.forwarding.specs.Laws.{IsOf, LeavesWithFrames, RequestsKeepOrder, IsSettledIn, SyncsKeepOrder, WaitsForLeader, NothingWaitsInVain}
use Rattle.std.proofs.lemmas.Option.{none-some}
use Rattle.values.proofs.Keyed.{some-some}
use Rattle.forwarding.proofs.Changing.{queue_put, queue_inserted, put_same}
use Rattle.forwarding.proofs.Counting.{taken_here, dropped_here, dropped_length, dropped_in_place}
use Rattle.forwarding.proofs.Answered.{settled_in}

-- ---- what is taken stands in front

abbrev IsFront : Ready → RequestQueue → Option Ready → Type 0
IsFront ready q o = (r : PendingRequest) × (IsOf ready r × (q ≡ r ∷ without_front_if o q))

front : (q : RequestQueue) (ready : Ready) → ready_request q ≡ Some ready → IsFront ready q (ready_request q)
front [] ready e = absurd (none-some ready e)
front (Connect c ∷ rest) ready e = absurd (none-some ready e)
front (Write w ∷ rest) ready e = absurd (none-some ready e)
front (Held f ∷ rest) ready e =
    (Held f, (subst (λ x. IsOf x (Held f)) (some-some e) refl, refl))
front (Sync x ∷ rest) ready e =
    elim x.is_settled as (λ b. x.is_settled ≡ b → cond b (Some (SettledSync x.xid x.path)) None ≡ Some ready
    → IsFront ready (Sync x ∷ rest) (cond b (Some (SettledSync x.xid x.path)) None)) [
      | true ↦ λ f g. (
        Sync x,
        (
          subst (λ y. IsOf y (Sync x)) (some-some g)
              (λ i. Sync (record { xid = x.xid; path = x.path; is_settled = f i })),
          refl,
        ),
      )
      | false ↦ λ f g. absurd (none-some ready g)
    ] refl e

connect_front : (q : RequestQueue) (c : PendingConnect) → waiting_connect q ≡ Some c
    → (later : RequestQueue) × (q ≡ Connect c ∷ later)
connect_front [] c e = absurd (none-some c e)
connect_front (Connect d ∷ rest) c e = (rest, ap (λ x. Connect x ∷ rest) (some-some e))
connect_front (Write w ∷ rest) c e = absurd (none-some c e)
connect_front (Sync x ∷ rest) c e = absurd (none-some c e)
connect_front (Held f ∷ rest) c e = absurd (none-some c e)

connect_leaves : (s : PendingTable) (n : ℕ) (c : PendingConnect) (o : Option PendingConnect)
    → waiting_connect (queue_of s n) ≡ o → (take_connect_as s n o).connect ≡ Some c
    → LeavesWithFrames (queue_of s n) c (take_connect_as s n o).frames (queue_of (take_connect_as s n o).after n)
connect_leaves s n c None e is = absurd (none-some c is)
connect_leaves s n c (Some d) e is =
    let there = connect_front (queue_of s n) c (e ∙ is) in
    record {
      later = there.0;
      queue = there.1;
      held = ap held_frames there.1;
      none = queue_put s.queues n [];
    }

pub requests_keep_order : RequestsKeepOrder
requests_keep_order = record {
  pushes_connect = λ s n c. queue_inserted s.queues n (queue_of s n ++ Connect c ∷ []);
  pushes_write = λ s n xid kind.
      queue_inserted s.queues n (queue_of s n ++ Write (record { xid = xid; kind = kind }) ∷ []);
  pushes_sync = λ s n xid path. queue_inserted s.queues n (queue_of s n ++ unsettled_sync xid path ∷ []);
  holds = λ s n frame. queue_inserted s.queues n (queue_of s n ++ Held frame ∷ []);
  takes = λ s n ready e.
      let there = front (queue_of s n) ready e in
      let left = without_front_if (ready_request (queue_of s n)) (queue_of s n) in
      (there.0, (there.1.0, there.1.1 ∙ ap (λ q. there.0 ∷ q) (sym (queue_put s.queues n left))));
  takes_connect = λ s n c e. connect_leaves s n c (waiting_connect (queue_of s n)) refl e;
}

-- ---- syncs

settles : (s : PendingTable) (syncs : List (Option ℕ)) → s.syncs ≡ syncs → (settle_first s syncs).after.syncs ≡ drop 1 syncs
settles s [] e = e
settles s (None ∷ rest) e = refl
settles s (Some n ∷ rest) e = refl

settles_of : (s : PendingTable) (n : ℕ) (rest : List (Option ℕ)) → PendingAgrees s → s.syncs ≡ Some n ∷ rest
    → ((settle_sync s).settled ≡ Of n) × IsSettledIn (queue_of s n) (queue_of (settle_sync s).after n)
settles_of s n rest a e = (
  ap (λ syncs. (settle_first s syncs).settled) e,
  subst (λ q. IsSettledIn (queue_of s n) q)
      (sym (ap (λ syncs. queue_of (settle_first s syncs).after n) e
      ∙ queue_put s.queues n (with_oldest_settled (queue_of s n))))
      (settled_in (queue_of s n) (places_of n rest)
      (sym (ap (places_of n) e ∙ taken_here n rest) ∙ (a.queues n).places_are_unsettled)),
)

pub syncs_keep_order : SyncsKeepOrder
syncs_keep_order = record {
  pushes = λ s n xid path. refl;
  settles = λ s. settles s s.syncs refl;
  settles_of = settles_of;
  settles_gone = λ s rest e. ap (λ syncs. (settle_first s syncs).settled) e;
  drops = λ s n. dropped_length n s.syncs;
  others_in_place = λ s n m place apart e. dropped_in_place n m s.syncs place apart e;
  stay_dropped = λ s n. dropped_here n s.syncs;
}

-- ---- nothing waits in vain

waits : (q : RequestQueue) → ready_request q ≡ None → WaitsForLeader q
waits [] e = tt
waits (Connect c ∷ rest) e = tt
waits (Write w ∷ rest) e = tt
waits (Held f ∷ rest) e = none-some (HeldFrame f) (sym e)
waits (Sync x ∷ rest) e =
    elim x.is_settled as (λ b. x.is_settled ≡ b → cond b (Some (SettledSync x.xid x.path)) None ≡ None
    → x.is_settled ≡ false) [
      | true ↦ λ f g. absurd (none-some (SettledSync x.xid x.path) (sym g))
      | false ↦ λ f g. f
    ] refl e

pub nothing_waits_in_vain : NothingWaitsInVain
nothing_waits_in_vain = record {
  waits = λ s n e. waits (queue_of s n) e;
  stays = λ s n a e.
      ap (λ o. put_queue s n (without_front_if o (queue_of s n))) e
      ∙ (λ i. record s { queues = put_same s.queues n (a.none_empty n) i });
}
