-- Requests, syncs and waiting connects agree after each step.
use Rattle.std.proofs.Common.{◌≡◌, ◌≢◌, ◌⊎◌, inl, inr, ℕ, suc, ◌<◌, ℤ, Bool, true, false, cond, not, List, [], ◌∷◌, ◌++◌, length, map, Option, Some, None, refl, sym, ap, subst, ◌∙◌}
use Rattle.std.specs.Prelude.{nat_lt, is_some}
use Rattle.std.specs.Ordering.{eq_by_cmp, nat_cmp, int_cmp}
use Rattle.std.specs.Cmp.{nat_cmp_total, int_cmp_total}
use Rattle.std.proofs.lemmas.Bool.{ltb-true}
use Rattle.std.proofs.lemmas.Map.Lookups.{exact_unsigned, exact_signed}
use Rattle.std.specs.FinMap as finmap
use Rattle.std.specs.FinSet as set
use Rattle.forwarding.specs.declared.request.PendingConnect.{PendingConnect}
use Rattle.forwarding.specs.declared.request.PendingRequest.{PendingRequest}
use Rattle.forwarding.specs.declared.request.PendingRequest.TheVariants.{Connect, Write, Sync, Held}
use Rattle.forwarding.specs.declared.request.Ready.TheVariants.{SettledSync}
use Rattle.forwarding.specs.declared.request.Settled.TheVariants.{Of}
use Rattle.forwarding.specs.Queue.{RequestQueue, pending_limit, oldest_write, is_answered, without_oldest_write, after_answer, is_unsettled, unsettled_count, with_oldest_settled, ready_request, without_front_if, waiting_connect}
use Rattle.forwarding.specs.State.{RequestQueues, TouchedSessions, PendingTable}
use Rattle.forwarding.specs.Pending.{nothing_pending, queue_in, queue_of, put_queue, is_idle, is_full, push_request, push_connect, push_sync, unsettled_sync, remove_write, settle_first, without_connect, take_connect_as, connecting_to, without_owner, drop_connection, take_touched}
use Rattle.forwarding.specs.Agreement.{is_connect, is_settled, places_of, QueueAgrees, PendingAgrees}
use Rattle.forwarding.specs.Laws.{Stays, PendingAgreementIsKept}
use Rattle.std.proofs.lemmas.Option.{none-some}
use Rattle.values.proofs.Keyed.{some-some, apart, other, same_or_other, inserted, inserted_elsewhere, removed_elsewhere, at_inserted, at_removed}
use Rattle.forwarding.proofs.Changing.{queue_put, put_filled, queue_inserted}
use Rattle.forwarding.proofs.Counting.{pushed_here, taken_here, dropped_here}
use Rattle.forwarding.proofs.QueueSteps.{no_connect, empty_agrees, connect_agrees, pushed_agrees, connect_pushed, answered_agrees, connect_answered, settled_agrees, connect_settled, taken_agrees}
use Rattle.forwarding.proofs.Others.{others_stay, put_leaves, push_leaves, settle_leaves}

-- ---- a step of one connection

-- No queue is empty.
abbrev AreFilled : RequestQueues → Type 0
AreFilled queues = (m : ℕ) → finmap.get queues m ≢ Some []

insert_filled : (queues : RequestQueues) (n : ℕ) (r : PendingRequest) (rest : RequestQueue) → AreFilled queues
    → AreFilled (finmap.insert queues n (r ∷ rest))
insert_filled queues n r rest filled = put_filled queues n (r ∷ rest) filled

pushed_filled : (queues : RequestQueues) (n : ℕ) (q : RequestQueue) (r : PendingRequest) → AreFilled queues
    → AreFilled (finmap.insert queues n (q ++ r ∷ []))
pushed_filled queues n [] r filled = insert_filled queues n r [] filled
pushed_filled queues n (x ∷ xs) r filled = insert_filled queues n x (xs ++ r ∷ []) filled

abbrev LeavesOthers : ℕ → PendingTable → PendingTable → Type 0
LeavesOthers n s new = (m : ℕ) → m ≢ n → Stays m s new

-- The requests of each connection agree, if those of this one do.
each_agrees : (s new : PendingTable) (n : ℕ) → PendingAgrees s → QueueAgrees (places_of n new.syncs) (queue_of new n)
    → LeavesOthers n s new → (m : ℕ) → QueueAgrees (places_of m new.syncs) (queue_of new m)
each_agrees s new n a here elsewhere m = by (same_or_other nat_cmp_total exact_unsigned m n)
  where
    by : (m ≡ n) ⊎ (eq_by_cmp nat_cmp m n ≡ false) → QueueAgrees (places_of m new.syncs) (queue_of new m)
    by (inl same) = subst (λ k. QueueAgrees (places_of k new.syncs) (queue_of new k)) (sym same) here
    by (inr f) =
        let stays = elsewhere m (apart nat_cmp_total exact_unsigned m n f) in
        subst (λ (x : ℕ × RequestQueue). QueueAgrees x.0 x.1) (λ i. (sym stays.places i, sym stays.queue i)) (a.queues m)

-- A step that leaves the waiting connects.
keeps : (s new : PendingTable) (n : ℕ) → PendingAgrees s → AreFilled new.queues
    → QueueAgrees (places_of n new.syncs) (queue_of new n) → LeavesOthers n s new
    → waiting_connect (queue_of new n) ≡ waiting_connect (queue_of s n) → new.connects ≡ s.connects → PendingAgrees new
keeps s new n a filled here elsewhere same_here same = record {
  none_empty = filled;
  queues = each_agrees s new n a here elsewhere;
  in_front = λ session m e.
      let was = a.in_front session m (ap (λ c. finmap.get c session) (sym same) ∙ e) in
      (was.0, (each m ∙ was.1.0, was.1.1));
  by_session = λ m c e. ap (λ x. finmap.get x c.session) same ∙ a.by_session m c (sym (each m) ∙ e);
}
  where
    each : (m : ℕ) → waiting_connect (queue_of new m) ≡ waiting_connect (queue_of s m)
    each m = by (same_or_other nat_cmp_total exact_unsigned m n)
      where
        by : (m ≡ n) ⊎ (eq_by_cmp nat_cmp m n ≡ false)
            → waiting_connect (queue_of new m) ≡ waiting_connect (queue_of s m)
        by (inl e) = ap (λ k. waiting_connect (queue_of new k)) e ∙ same_here
            ∙ sym (ap (λ k. waiting_connect (queue_of s k)) e)
        by (inr f) = ap waiting_connect (elsewhere m (apart nat_cmp_total exact_unsigned m n f)).queue

-- A step that takes the waiting connect of the connection, if it has one.
loses : (s new : PendingTable) (n : ℕ) → PendingAgrees s → AreFilled new.queues
    → QueueAgrees (places_of n new.syncs) (queue_of new n) → LeavesOthers n s new
    → waiting_connect (queue_of new n) ≡ None
    → new.connects ≡ without_connect s.connects (waiting_connect (queue_of s n)) → PendingAgrees new
loses s new n a filled here elsewhere none is = by (waiting_connect (queue_of s n)) refl is
  where
    by : (o : Option PendingConnect) → waiting_connect (queue_of s n) ≡ o → new.connects ≡ without_connect s.connects o
        → PendingAgrees new
    by None e f = keeps s new n a filled here elsewhere (none ∙ sym e) f
    by (Some c) e f = record {
      none_empty = filled;
      queues = each_agrees s new n a here elsewhere;
      in_front = λ session m g.
          let was = at_removed int_cmp_total exact_signed s.connects c.session session m
          (ap (λ x. finmap.get x session) (sym f) ∙ g) in
          let old = a.in_front session m was.1 in
          let differ : m ≢ n = λ same. apart int_cmp_total exact_signed session c.session was.0
          (sym old.1.1 ∙ ap (λ (x : PendingConnect). x.session) (some-some
          (sym old.1.0 ∙ ap (λ k. waiting_connect (queue_of s k)) same ∙ e))) in
          (old.0, (ap waiting_connect (elsewhere m differ).queue ∙ old.1.0, old.1.1));
      by_session = λ m d g.
          let differ : m ≢ n = λ same. none-some d
          (sym none ∙ sym (ap (λ k. waiting_connect (queue_of new k)) same) ∙ g) in
          let old : finmap.get s.connects d.session ≡ Some m =
          a.by_session m d (sym (ap waiting_connect (elsewhere m differ).queue) ∙ g) in
          ap (λ x. finmap.get x d.session) f
          ∙ removed_elsewhere int_cmp_total exact_signed s.connects c.session d.session
          (other int_cmp_total exact_signed d.session c.session
          (λ same. differ (some-some (sym old ∙ ap (finmap.get s.connects) same ∙ a.by_session n c e))))
          ∙ old;
    }

-- ---- nothing yet

starts : PendingAgrees nothing_pending
starts = record {
  none_empty = λ n e. none-some [] (sym (finmap.get-empty nat_cmp n) ∙ e);
  queues = λ n. subst (λ o. QueueAgrees 0 (queue_in o)) (sym (finmap.get-empty nat_cmp n)) (empty_agrees 0 refl);
  in_front = λ session n e. absurd (none-some n (sym (finmap.get-empty int_cmp session) ∙ e));
  by_session = λ n c e. absurd (none-some c
      (sym (ap (λ o. waiting_connect (queue_in o)) (finmap.get-empty nat_cmp n)) ∙ e));
}

-- ---- what is asked

room : (b : Bool) → not b ≡ false → b ≡ true
room true e = refl
room false e = sym e

below : (s : PendingTable) (n : ℕ) → is_full s n ≡ false → length (queue_of s n) < pending_limit
below s n e = ltb-true (length (queue_of s n)) pending_limit (room (nat_lt (length (queue_of s n)) pending_limit) e)

-- A request that has no place in the list of syncs.
pushes : (s : PendingTable) (n : ℕ) (r : PendingRequest) → is_connect r ≡ false → is_settled r ≡ false
    → is_unsettled r ≡ false → PendingAgrees s → is_full s n ≡ false → PendingAgrees (push_request s n r)
pushes s n r e f g a full =
    let q = queue_of s n in
    keeps s (push_request s n r) n a (pushed_filled s.queues n (queue_of s n) r a.none_empty)
    (subst (λ x. QueueAgrees (places_of n s.syncs) x) (sym (queue_inserted s.queues n (queue_of s n ++ r ∷ [])))
    (pushed_agrees (places_of n s.syncs) (places_of n s.syncs) (queue_of s n) r e f
    (sym (ap (λ b. cond b (suc (places_of n s.syncs)) (places_of n s.syncs)) g)) (below s n full) (a.queues n)))
    (λ m differ. push_leaves s n r m differ)
    (ap waiting_connect (queue_inserted s.queues n (queue_of s n ++ r ∷ [])) ∙ connect_pushed (queue_of s n) r e) refl

pushes_sync : (s : PendingTable) (n : ℕ) (xid : ℤ) (path : List ℕ) → PendingAgrees s → is_full s n ≡ false
    → PendingAgrees (push_sync s n xid path)
pushes_sync s n xid path a full =
    let r = unsettled_sync xid path in
    keeps s (push_sync s n xid path) n a (pushed_filled s.queues n (queue_of s n) r a.none_empty)
    (subst (λ x. QueueAgrees (places_of n (s.syncs ++ Some n ∷ [])) x)
    (sym (queue_inserted s.queues n (queue_of s n ++ r ∷ [])))
    (pushed_agrees (places_of n s.syncs) (places_of n (s.syncs ++ Some n ∷ [])) (queue_of s n) r refl refl
    (pushed_here n s.syncs) (below s n full) (a.queues n)))
    (λ m differ. others_stay.pushes_sync s n xid path m differ)
    (ap waiting_connect (queue_inserted s.queues n (queue_of s n ++ r ∷ [])) ∙ connect_pushed (queue_of s n) r refl) refl

idle : (s : PendingTable) (n : ℕ) → is_idle s n ≡ true → queue_of s n ≡ []
idle s n e = by (finmap.get s.queues n) e
  where
    by : (o : Option RequestQueue) → not (is_some o) ≡ true → queue_in o ≡ []
    by None f = refl
    by (Some q) f = absurd (false-true f)
      where
        false-true : false ≡ true → ⊥
        false-true g = cc

pushes_connect : (s : PendingTable) (n : ℕ) (c : PendingConnect) → PendingAgrees s → is_idle s n ≡ true
    → connecting_to s c.session ≡ None → PendingAgrees (push_connect s n c)
pushes_connect s n c a free none = record {
  none_empty = pushed_filled s.queues n (queue_of s n) (Connect c) a.none_empty;
  queues = each_agrees s new n a
      (subst (λ x. QueueAgrees (places_of n s.syncs) x) (sym alone)
      (connect_agrees (places_of n s.syncs) c
      ((a.queues n).places_are_unsettled ∙ ap unsettled_count (idle s n free)))) elsewhere;
  in_front = λ session m e.
      found session m (at_inserted int_cmp_total exact_signed s.connects c.session n session m e);
  by_session = λ m d e. finds m d e (same_or_other nat_cmp_total exact_unsigned m n);
}
  where
    new : PendingTable
    new = push_connect s n c

    elsewhere : LeavesOthers n s (push_connect s n c)
    elsewhere m differ = others_stay.pushes_connect s n c m differ

    alone : queue_of (push_connect s n c) n ≡ Connect c ∷ []
    alone = queue_inserted s.queues n (queue_of s n ++ Connect c ∷ []) ∙ ap (λ q. q ++ Connect c ∷ []) (idle s n free)

    found : (session : ℤ) (m : ℕ) → ((session ≡ c.session) × (n ≡ m))
        ⊎ ((eq_by_cmp int_cmp session c.session ≡ false) × (finmap.get s.connects session ≡ Some m))
        → (d : PendingConnect) × ((waiting_connect (queue_of (push_connect s n c) m) ≡ Some d)
        × (d.session ≡ session))
    found session m (inl b) =
        (c, (ap (λ k. waiting_connect (queue_of (push_connect s n c) k)) (sym b.1) ∙ ap waiting_connect alone, sym b.0))
    found session m (inr b) =
        let was = a.in_front session m b.1 in
        let differ : m ≢ n = λ same. none-some was.0
        (sym (ap waiting_connect (idle s n free)) ∙ sym (ap (λ k. waiting_connect (queue_of s k)) same) ∙ was.1.0) in
        (was.0, (ap waiting_connect (elsewhere m differ).queue ∙ was.1.0, was.1.1))

    finds : (m : ℕ) (d : PendingConnect) → waiting_connect (queue_of (push_connect s n c) m) ≡ Some d
        → (m ≡ n) ⊎ (eq_by_cmp nat_cmp m n ≡ false)
        → finmap.get (finmap.insert s.connects c.session n) d.session ≡ Some m
    finds m d e (inl same) =
        let is : c ≡ d = some-some (sym (ap waiting_connect alone)
        ∙ sym (ap (λ k. waiting_connect (queue_of (push_connect s n c) k)) same) ∙ e) in
        ap (λ (x : PendingConnect). finmap.get (finmap.insert s.connects c.session n) x.session) (sym is)
        ∙ inserted int_cmp_total exact_signed s.connects c.session n ∙ ap Some (sym same)
    finds m d e (inr f) =
        let old : finmap.get s.connects d.session ≡ Some m = a.by_session m d
        (sym (ap waiting_connect (elsewhere m (apart nat_cmp_total exact_unsigned m n f)).queue) ∙ e) in
        inserted_elsewhere int_cmp_total exact_signed s.connects c.session n d.session
        (other int_cmp_total exact_signed d.session c.session
        (λ same. none-some m (sym none ∙ ap (finmap.get s.connects) (sym same) ∙ old)))
        ∙ old

-- ---- what is answered

-- A connection has these requests in place of those that it had.
puts : (s : PendingTable) (n : ℕ) (q : RequestQueue) → PendingAgrees s → QueueAgrees (places_of n s.syncs) q
    → waiting_connect q ≡ waiting_connect (queue_of s n) → PendingAgrees (put_queue s n q)
puts s n q a here same =
    keeps s (put_queue s n q) n a (put_filled s.queues n q a.none_empty)
    (subst (λ x. QueueAgrees (places_of n s.syncs) x) (sym (queue_put s.queues n q)) here)
    (λ m differ. put_leaves s n q m differ) (ap waiting_connect (queue_put s.queues n q) ∙ same) refl

-- The oldest write leaves.
pub removes : (s : PendingTable) (n : ℕ) → PendingAgrees s → PendingAgrees (remove_write s n)
removes s n a =
    puts s n (without_oldest_write (queue_of s n)) a
    (answered_agrees (places_of n s.syncs) (queue_of s n) (a.queues n))
    (connect_answered (queue_of s n) (a.queues n).connect_first)

answers : (s : PendingTable) (n : ℕ) (xid txn_kind : ℤ) → PendingAgrees s
    → PendingAgrees (put_queue s n (after_answer (queue_of s n) xid txn_kind))
answers s n xid txn_kind a =
    let q = queue_of s n in
    elim (is_answered (oldest_write (queue_of s n)) xid txn_kind) as (λ b. PendingAgrees
    (put_queue s n (cond b (without_oldest_write (queue_of s n)) (queue_of s n)))) [
      | true ↦ removes s n a
      | false ↦ puts s n (queue_of s n) a (a.queues n) refl
    ]

settles_first : (s : PendingTable) (syncs : List (Option ℕ)) → s.syncs ≡ syncs → PendingAgrees s
    → PendingAgrees (settle_first s syncs).after
settles_first s [] e a = a
settles_first s (None ∷ rest) e a = record {
  none_empty = a.none_empty;
  queues = λ m. subst (λ x. QueueAgrees (places_of m x) (queue_of s m)) e (a.queues m);
  in_front = a.in_front;
  by_session = a.by_session;
}
settles_first s (Some n ∷ rest) e a =
    let q = with_oldest_settled (queue_of s n) in
    keeps s (settle_first s (Some n ∷ rest)).after n a
    (put_filled s.queues n (with_oldest_settled (queue_of s n)) a.none_empty)
    (subst (λ x. QueueAgrees (places_of n rest) x) (sym (queue_put s.queues n (with_oldest_settled (queue_of s n))))
    (settled_agrees (places_of n rest) (queue_of s n)
    (subst (λ x. QueueAgrees x (queue_of s n)) (ap (places_of n) e ∙ taken_here n rest) (a.queues n))))
    (λ m differ. settle_leaves s (Some n ∷ rest) m e (λ same. differ (of_same n m same)))
    (ap waiting_connect (queue_put s.queues n (with_oldest_settled (queue_of s n))) ∙ connect_settled (queue_of s n)) refl
  where
    of_same : (k m : ℕ) → Of k ≡ Of m → m ≡ k
    of_same k m same = cc

unready : (s : PendingTable) (n : ℕ) → PendingAgrees s → PendingAgrees (put_queue s n (queue_of s n))
unready s n a = puts s n (queue_of s n) a (a.queues n) refl

takes_front : (s : PendingTable) (n : ℕ) (q : RequestQueue) → queue_of s n ≡ q → PendingAgrees s
    → PendingAgrees (put_queue s n (without_front_if (ready_request q) q))
takes_front s n [] e a = subst (λ q. PendingAgrees (put_queue s n q)) e (unready s n a)
takes_front s n (Connect c ∷ rest) e a = subst (λ q. PendingAgrees (put_queue s n q)) e (unready s n a)
takes_front s n (Write w ∷ rest) e a = subst (λ q. PendingAgrees (put_queue s n q)) e (unready s n a)
takes_front s n (Held f ∷ rest) e a =
    let here : QueueAgrees (places_of n s.syncs) (Held f ∷ rest) =
    subst (λ q. QueueAgrees (places_of n s.syncs) q) e (a.queues n) in
    puts s n rest a (taken_agrees (places_of n s.syncs) (Held f) rest refl here)
    (no_connect rest here.connect_first ∙ sym (ap waiting_connect e))
takes_front s n (Sync x ∷ rest) e a =
    elim x.is_settled as (λ b. x.is_settled ≡ b → PendingAgrees (put_queue s n
    (without_front_if (cond b (Some (SettledSync x.xid x.path)) None) (Sync x ∷ rest)))) [
      | true ↦ λ f.
          puts s n rest a (taken_agrees (places_of n s.syncs) (Sync x) rest (ap not f) here)
          (no_connect rest here.connect_first ∙ sym (ap waiting_connect e))
      | false ↦ λ f. subst (λ q. PendingAgrees (put_queue s n q)) e (unready s n a)
    ] refl
  where
    here : QueueAgrees (places_of n s.syncs) (Sync x ∷ rest)
    here = subst (λ q. QueueAgrees (places_of n s.syncs) q) e (a.queues n)

-- ---- a connection goes

drops : (s : PendingTable) (n : ℕ) → PendingAgrees s → PendingAgrees (drop_connection s n)
drops s n a =
    loses s (drop_connection s n) n a (put_filled s.queues n [] a.none_empty)
    (subst (λ x. QueueAgrees (places_of n (map (without_owner n) s.syncs)) x) (sym (queue_put s.queues n []))
    (empty_agrees (places_of n (map (without_owner n) s.syncs)) (dropped_here n s.syncs)))
    (λ m differ. others_stay.drops s n m differ)
    (ap waiting_connect (queue_put s.queues n [])) refl

connect_leaves : (s : PendingTable) (n : ℕ) (o : Option PendingConnect) → PendingAgrees s
    → PendingAgrees (take_connect_as s n o).after
connect_leaves s n None a = a
connect_leaves s n (Some c) a = drops s n a

-- ---- touched sessions

touched : (s : PendingTable) (sessions : TouchedSessions) → PendingAgrees s → PendingAgrees (record s { touched = sessions })
touched s sessions a =
    record { none_empty = a.none_empty; queues = a.queues; in_front = a.in_front; by_session = a.by_session }

pub agreement_is_kept : PendingAgreementIsKept
agreement_is_kept = record {
  starts = starts;
  pushes_connect = pushes_connect;
  pushes_write = λ s n xid kind a full.
      pushes s n (Write (record { xid = xid; kind = kind })) refl refl refl a full;
  pushes_sync = pushes_sync;
  holds = λ s n frame a full. pushes s n (Held frame) refl refl refl a full;
  answers = answers;
  settles = λ s a. settles_first s s.syncs refl a;
  takes = λ s n a. takes_front s n (queue_of s n) refl a;
  takes_connect = λ s n a. connect_leaves s n (waiting_connect (queue_of s n)) a;
  drops = drops;
  touches = λ s session a. touched s (set.insert s.touched session) a;
  takes_touched = λ s timeout_of a. touched s (take_touched s timeout_of).after.touched a;
}
