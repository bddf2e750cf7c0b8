-- What waits of each connection is nothing, or begins with a request that only the leader can answer: after every event.
use Rattle.std.proofs.Common.{◌≡◌, ◌≢◌, ◌⊎◌, inl, inr, ℕ, zero, suc, ◌≤◌, Bool, true, false, cond, not, List, [], ◌∷◌, ◌++◌, length, drop, slice_get, Option, Some, None, refl, sym, ap, subst, ◌∙◌, arith}
use Rattle.std.specs.Prelude.{is_some}
use Rattle.std.specs.Ordering.{eq_by_cmp, nat_cmp}
use Rattle.std.specs.Cmp.{nat_cmp_total}
use Rattle.std.proofs.lemmas.Bool.{cond_both}
use Rattle.std.proofs.lemmas.Map.Lookups.{exact_unsigned}
use Rattle.std.proofs.lemmas.Map.Views.{tells_apart}
use Rattle.std.specs.FinMap as finmap
use mathlib.Core.Bool.{true≢false}
use Rattle.data_tree.specs.declared.outcome.TxnResults.{TxnResults}
use Rattle.txn_codec.specs.declared.txn.Txn.{Txn}
use Rattle.replica.specs.declared.item_outcome.LeaderNews.{LeaderNews}
use Rattle.replica.specs.declared.item_outcome.LeaderNews.TheVariants as news
use Rattle.sessions.specs.Sessions.{give_session}
use Rattle.forwarding.specs.declared.request.PendingRequest.{PendingRequest}
use Rattle.forwarding.specs.declared.request.PendingRequest.TheVariants.{Connect, Write, Sync, Held}
use Rattle.forwarding.specs.declared.request.Ready.{Ready}
use Rattle.forwarding.specs.declared.request.ConnectKind.TheVariants.{Claimed}
use Rattle.forwarding.specs.declared.request.WriteKind.{WriteKind}
use Rattle.forwarding.specs.Queue.{RequestQueue, pending_limit, waiting_connect, after_answer, with_oldest_settled, ready_request, without_front_if}
use Rattle.forwarding.specs.State.{PendingTable}
use Rattle.forwarding.specs.Pending.{nothing_pending, queue_in, queue_of, put_queue, is_idle, unsettled_sync, answer_write, pending_close, settle_first, take_ready, awaiting, drop_connection}
use Rattle.forwarding.specs.Agreement.{PendingAgrees}
use Rattle.forwarding.specs.Laws.{WaitsForLeader}
use Rattle.read_processor.specs.Reply.{reply_frame}
use Rattle.world.specs.World.{World}
use Rattle.world.specs.Steps.{StepResult}
use Rattle.world.specs.Clients.{heard_connection, without_client}
use Rattle.world.specs.Sending.{close_client, send_or_close, with_sessions, with_pending, close_client_if_some}
use Rattle.client_service.specs.Serve.{take_client_bytes}
use Rattle.leader_answers.specs.declared.due.Due.{Due}
use Rattle.leader_answers.specs.declared.due.Due.TheVariants as dues
use Rattle.leader_answers.specs.Answering.{answer_ready, answer_if_ready, answer_up_to, answer_front, txn_number, answer_due, has_moved, send_write_reply, answer_write_as, admit_client, answer_claim, give_answer, answer_optional_txn, answer_settled}
use Rattle.write_replies.specs.Replies.{write_look}
use Rattle.observer_core.specs.Leader.{tell_effect, answer_news}
use Rattle.observer_core.specs.Play.{is_serving_clients}
use Rattle.observer_core.specs.Agreement.{OnlyLeaderIsAwaited, NothingWaitsInVain}
use Rattle.world.proofs.NatMaps.{same_key}
use Rattle.observer_core.proofs.Walking.{Steps, next_id, new_connect, claiming, HoldsOfReplies, HoldsOfCalls, HoldsOfConnects, client_makes}
use Rattle.observer_core.proofs.Answered.{unqueued, ready_makes, refused_makes, ended_makes, admit_makes}
use Rattle.observer_core.proofs.Plain.{Always, plain_ground}
use Rattle.observer_core.proofs.Events.{IsKept, plays_keep}
use Rattle.observer_core.proofs.Agreeing.{Agreeing, LowerLaws, agreeing_ground}
use Rattle.observer_core.proofs.Agreed.{agreeing_answers, agreeing_kept, tell_agrees}

-- ---- requests that leave

-- The requests of each connection are the same, or none.
abbrev Lessens : PendingTable → PendingTable → Type 0
Lessens p q = (m : ℕ) → (queue_of q m ≡ queue_of p m) ⊎ (queue_of q m ≡ [])

less_on : (p q r : PendingTable) → Lessens p q → Lessens q r → Lessens p r
less_on p q r first second m = by (first m) (second m)
  where
    by : (queue_of q m ≡ queue_of p m) ⊎ (queue_of q m ≡ []) → (queue_of r m ≡ queue_of q m) ⊎ (queue_of r m ≡ [])
        → (queue_of r m ≡ queue_of p m) ⊎ (queue_of r m ≡ [])
    by before (inr none) = inr none
    by (inl same) (inl still) = inl (still ∙ same)
    by (inr none) (inl still) = inr (still ∙ none)

pub dropped_less : (p : PendingTable) (n : ℕ) → Lessens p (drop_connection p n)
dropped_less p n m = by (eq_by_cmp nat_cmp m n) refl
  where
    is : (b : Bool) → eq_by_cmp nat_cmp m n ≡ b
        → queue_of (drop_connection p n) m ≡ queue_in (cond b None (finmap.get p.queues m))
    is b e =
        ap queue_in (finmap.get-remove nat_cmp_total p.queues n m)
        ∙ ap (λ (b : Bool). queue_in (cond b None (finmap.get p.queues m))) e

    by : (b : Bool) → eq_by_cmp nat_cmp m n ≡ b
        → (queue_of (drop_connection p n) m ≡ queue_of p m) ⊎ (queue_of (drop_connection p n) m ≡ [])
    by true e = inr (is true e)
    by false e = inl (is false e)

abbrev Less : World → World → Type 0
Less w v = Lessens w.clients.pending v.clients.pending

same_less : (w : World) → Less w w
same_less w m = inl refl

-- ---- what is ready

abbrev Lessening : Steps
Lessening w h = Less w h.after

replies_less : (n : ℕ) → HoldsOfReplies n Always Lessening
replies_less n = record {
  thens = λ w h next first second.
      less_on w.clients.pending h.after.clients.pending (next h.after).after.clients.pending first second;
  stays = same_less;
  closes = λ w a. dropped_less w.clients.pending n;
  sends = λ w bytes shows. same_less w;
  watches = λ w watch a. same_less w;
  unwatches = λ w kind path a. same_less w;
  shows = λ w id a. same_less w;
}

send_less : (n : ℕ) (w : World) (frame : Option (List ℕ)) → Less w (send_or_close n w frame).after
send_less n w None = dropped_less w.clients.pending n
send_less n w (Some bytes) = same_less w

ready_less : (n : ℕ) (w : World) (ready : Ready) → Less w (answer_ready n w ready).after
ready_less n w ready =
    (ready_makes n ⊥ Always Lessening (plain_ground n) (replies_less n) w ready (λ strict. absurd strict) tt).is

left_less : (w : World) (left : Option ℕ) → Less w (close_client_if_some w left).after
left_less w None = same_less w
left_less w (Some n) = dropped_less w.clients.pending n

-- ---- what waits then

less_awaits_at : (w v : World) (m : ℕ) → Less w v → WaitsForLeader (queue_of w.clients.pending m)
    → WaitsForLeader (queue_of v.clients.pending m)
less_awaits_at w v m less a = by (less m)
  where
    by : (queue_of v.clients.pending m ≡ queue_of w.clients.pending m) ⊎ (queue_of v.clients.pending m ≡ [])
        → WaitsForLeader (queue_of v.clients.pending m)
    by (inl same) = subst WaitsForLeader (sym same) a
    by (inr none) = subst WaitsForLeader (sym none) tt

less_awaits : (w v : World) → Less w v → OnlyLeaderIsAwaited w → OnlyLeaderIsAwaited v
less_awaits w v less a m = less_awaits_at w v m less (a m)

less_length : (w v : World) (n most : ℕ) → Less w v → length (queue_of w.clients.pending n) ≤ most
    → length (queue_of v.clients.pending n) ≤ most
less_length w v n most less within = by (less n)
  where
    by : (queue_of v.clients.pending n ≡ queue_of w.clients.pending n) ⊎ (queue_of v.clients.pending n ≡ [])
        → length (queue_of v.clients.pending n) ≤ most
    by (inl same) = subst (λ (q : RequestQueue). length q ≤ most) (sym same) within
    by (inr none) = subst (λ (q : RequestQueue). length q ≤ most) (sym none) (omega arith)

-- ---- requests that are pushed

pushed_front : (q : RequestQueue) (r : PendingRequest) → WaitsForLeader q → (q ≡ [] → WaitsForLeader (r ∷ []))
    → WaitsForLeader (q ++ r ∷ [])
pushed_front [] r a alone = alone refl
pushed_front (Connect c ∷ rest) r a alone = tt
pushed_front (Write w ∷ rest) r a alone = tt
pushed_front (Sync s ∷ rest) r a alone = a
pushed_front (Held frame ∷ rest) r a alone = a

pushed_awaits : (p : PendingTable) (n : ℕ) (r : PendingRequest) → ((m : ℕ) → WaitsForLeader (queue_of p m))
    → (queue_of p n ≡ [] → WaitsForLeader (r ∷ [])) → (m : ℕ)
    → WaitsForLeader (queue_in (finmap.get (finmap.insert p.queues n (queue_of p n ++ r ∷ [])) m))
pushed_awaits p n r all alone m =
    subst (λ (o : Option RequestQueue). WaitsForLeader (queue_in o))
    (sym (finmap.get-insert nat_cmp_total p.queues n (queue_of p n ++ r ∷ []) m))
    (cond_both (eq_by_cmp nat_cmp m n) (Some (queue_of p n ++ r ∷ [])) (finmap.get p.queues m)
    (λ (o : Option RequestQueue). WaitsForLeader (queue_in o))
    (λ _. pushed_front (queue_of p n) r (all n) alone) (λ _. all m))

-- A connection that isn't idle has a request.
busy_has : (p : PendingTable) (n : ℕ) → PendingAgrees p → is_idle p n ≡ false → queue_of p n ≢ []
busy_has p n agrees busy = by (finmap.get p.queues n) refl busy
  where
    by : (o : Option RequestQueue) → finmap.get p.queues n ≡ o → not (is_some o) ≡ false → queue_in o ≢ []
    by None e busy none = true≢false busy
    by (Some q) e busy none = agrees.none_empty n (e ∙ ap (λ (q : RequestQueue). Some q) none)

pub put_get : (p : PendingTable) (n : ℕ) (q : RequestQueue) (m : ℕ)
    → queue_of (put_queue p n q) m ≡ cond (eq_by_cmp nat_cmp m n) q (queue_of p m)
put_get p n [] m =
    ap queue_in (finmap.get-remove nat_cmp_total p.queues n m)
    ∙ by (eq_by_cmp nat_cmp m n)
  where
    by : (b : Bool) → queue_in (cond b None (finmap.get p.queues m)) ≡ cond b [] (queue_of p m)
    by true = refl
    by false = refl
put_get p n (r ∷ rest) m =
    ap queue_in (finmap.get-insert nat_cmp_total p.queues n (r ∷ rest) m)
    ∙ by (eq_by_cmp nat_cmp m n)
  where
    by : (b : Bool) → queue_in (cond b (Some (r ∷ rest)) (finmap.get p.queues m)) ≡ cond b (r ∷ rest) (queue_of p m)
    by true = refl
    by false = refl

put_own : (p : PendingTable) (n : ℕ) (q : RequestQueue) → queue_of (put_queue p n q) n ≡ q
put_own p n q = put_get p n q n ∙ ap (λ (b : Bool). cond b q (queue_of p n)) (same_key n)

put_other : (p : PendingTable) (n : ℕ) (q : RequestQueue) (m : ℕ) → eq_by_cmp nat_cmp m n ≡ false
    → queue_of (put_queue p n q) m ≡ queue_of p m
put_other p n q m other = put_get p n q m ∙ ap (λ (b : Bool). cond b q (queue_of p m)) other

-- Every connection but n waits for the leader.
abbrev OthersAwait : ℕ → PendingTable → Type 0
OthersAwait n p = (m : ℕ) → eq_by_cmp nat_cmp m n ≡ false → WaitsForLeader (queue_of p m)

put_others : (p : PendingTable) (n : ℕ) (q : RequestQueue) → OthersAwait n p → OthersAwait n (put_queue p n q)
put_others p n q others m other = subst WaitsForLeader (sym (put_other p n q m other)) (others m other)

all_await : (n : ℕ) (w : World) → OthersAwait n w.clients.pending → WaitsForLeader (queue_of w.clients.pending n)
    → OnlyLeaderIsAwaited w
all_await n w others own m = by (eq_by_cmp nat_cmp m n) refl
  where
    by : (b : Bool) → eq_by_cmp nat_cmp m n ≡ b → WaitsForLeader (queue_of w.clients.pending m)
    by true same =
        subst (λ (k : ℕ). WaitsForLeader (queue_of w.clients.pending k)) (sym (tells_apart exact_unsigned m n same)) own
    by false other = others m other

none_left : (q : RequestQueue) → length q ≤ 0 → WaitsForLeader q
none_left [] within = tt
none_left (r ∷ rest) within = absurd (omega arith)

one_fewer : (q : RequestQueue) (most : ℕ) → length q ≤ suc most → length (drop 1 q) ≤ most
one_fewer [] most within = omega arith
one_fewer (r ∷ rest) most within = omega arith

-- ---- a connection's steps

abbrev KeepsAwaiting : Steps
KeepsAwaiting w h = OnlyLeaderIsAwaited w → OnlyLeaderIsAwaited h.after

replies_await : (n : ℕ) → HoldsOfReplies n Agreeing KeepsAwaiting
replies_await n = record {
  thens = λ w h next first second a. second (first a);
  stays = λ w a. a;
  closes = λ w agrees a. less_awaits w (record w { clients = without_client n w.clients }) (dropped_less w.clients.pending n) a;
  sends = λ w bytes shows a. a;
  watches = λ w watch agrees a. a;
  unwatches = λ w kind path agrees a. a;
  shows = λ w id agrees a. a;
}

calls_await : (n : ℕ) → HoldsOfCalls n Agreeing (λ session. Unit {0}) KeepsAwaiting
calls_await n = record {
  touches = λ w session own agrees a. a;
  leaves = λ w k there agrees a. a;
  writes = λ w session frame xid kind own agrees a.
      pushed_awaits w.clients.pending n (Write (record { xid = xid; kind = kind })) a (λ _. tt);
  syncs = λ w session frame xid path own agrees a.
      pushed_awaits w.clients.pending n (unsettled_sync xid path) a (λ _. refl);
  holds = λ w frame busy agrees a.
      pushed_awaits w.clients.pending n (Held frame) a
      (λ none. absurd (busy_has w.clients.pending n agrees.pending busy none));
}

connects_await : (n : ℕ) → HoldsOfConnects n Agreeing (λ session. Unit {0}) (λ w session. Unit {0}) KeepsAwaiting
connects_await n = record {
  own = λ session. tt;
  counts = λ w none agrees a. a;
  gives = λ w session time_out free may agrees a.
      let c = give_session w.clients.sessions n session time_out in
      let v = with_sessions w c.after in
      less_awaits v (close_client_if_some v c.connected.older).after (left_less v c.connected.older) a;
  asks = λ w time_out has_byte none idle agrees counted a.
      pushed_awaits w.clients.pending n
      (Connect (new_connect (next_id w) time_out has_byte)) a (λ _. tt);
  displaces = λ w session k with agrees a.
      less_awaits w (close_client k w).after (dropped_less w.clients.pending k) a;
  claims = λ w has_byte response move none idle agrees a.
      pushed_awaits w.clients.pending n
      (Connect (claiming response.session_id response.time_out has_byte)) a (λ _. tt);
  may = λ w session live. tt;
}

-- ---- the leader's news

module _ (laws : LowerLaws) (waits : (s : PendingTable) (n : ℕ) → (take_ready s n).ready ≡ None
    → WaitsForLeader (queue_of s n)) where
  -- A connection has no more requests than turns are left, so none that is ready stays.
  up_to_awaits : (n most : ℕ) (w : World) → OthersAwait n w.clients.pending
      → length (queue_of w.clients.pending n) ≤ most → OnlyLeaderIsAwaited (answer_up_to most n w).after
  up_to_awaits n zero w others within = all_await n w others (none_left (queue_of w.clients.pending n) within)
  up_to_awaits n (suc most) w others within = by (take_ready p n).ready refl (up_to_awaits n most)
    where
      p : PendingTable
      p = w.clients.pending

      q : RequestQueue
      q = queue_of p n

      v : World
      v = with_pending w (take_ready p n).after

      others_left : OthersAwait n v.clients.pending
      others_left = put_others p n (without_front_if (ready_request q) q) others

      left : (o : Option Ready) → ready_request q ≡ o → queue_of v.clients.pending n ≡ without_front_if o q
      left o e =
          put_own p n (without_front_if (ready_request q) q)
          ∙ ap (λ (o : Option Ready). without_front_if o q) e

      by : (o : Option Ready) → (take_ready p n).ready ≡ o
          → ((u : World) → OthersAwait n u.clients.pending → length (queue_of u.clients.pending n) ≤ most
          → OnlyLeaderIsAwaited (answer_up_to most n u).after)
          → OnlyLeaderIsAwaited (answer_if_ready n v o (answer_up_to most n)).after
      by None e next = all_await n v others_left (subst WaitsForLeader (sym (left None e)) (waits p n e))
      by (Some ready) e next =
          let after = (answer_ready n v ready).after in
          let less = ready_less n v ready in
          next after (λ m other. less_awaits_at v after m less (others_left m other))
          (less_length v after n most less
          (subst (λ (rest : RequestQueue). length rest ≤ most) (sym (left (Some ready) e)) (one_fewer q most within)))

  front_awaits : (n : ℕ) (w : World) → OthersAwait n w.clients.pending
      → length (queue_of w.clients.pending n) ≤ pending_limit → OnlyLeaderIsAwaited (answer_front n w).after
  front_awaits n w others within = up_to_awaits n pending_limit w others within

  replied_awaits : (n : ℕ) (w : World) (t : Txn) (results : TxnResults) (kind : WriteKind) → Agreeing w → OnlyLeaderIsAwaited w
      → OnlyLeaderIsAwaited (send_write_reply n w t results kind).after
  replied_awaits n w t results kind agrees a =
      let p = w.clients.pending in
      let xid = t.header.cxid in
      let v = with_pending w (answer_write p n xid (txn_number t)).after in
      let frame = reply_frame xid t.header.zxid (write_look w.replica.tree kind t.body results) in
      let sent = (send_or_close n v frame).after in
      let less = send_less n v frame in
      let others : OthersAwait n v.clients.pending =
      put_others p n (after_answer (queue_of p n) xid (txn_number t)) (λ m _. a m) in
      front_awaits n sent (λ m other. less_awaits_at v sent m less (others m other))
      (less_length v sent n pending_limit less
      ((laws.queued.answers p n xid (txn_number t) agrees.pending).queues n).within_limit)

  write_awaits : (n : ℕ) (w : World) (t : Txn) (results : TxnResults) (kind : WriteKind) → Agreeing w → OnlyLeaderIsAwaited w
      → OnlyLeaderIsAwaited (answer_write_as n w t results kind).after
  write_awaits n w t results kind agrees a =
      cond_both (has_moved w results) _ _ (λ (h : StepResult World). OnlyLeaderIsAwaited h.after)
      (λ _. less_awaits w (close_client n w).after (dropped_less w.clients.pending n) a)
      (λ _. replied_awaits n w t results kind agrees a)

  -- Where a connection is admitted, its connect is taken out with all that waited after it.
  admit_awaits : (n : ℕ) (w : World) → Agreeing w → OnlyLeaderIsAwaited w
      → OnlyLeaderIsAwaited (admit_client n w).after
  admit_awaits n w agrees a =
      (admit_makes n (Unit {0}) Agreeing KeepsAwaiting (agreeing_ground laws n) (replies_await n)
      (λ session. Unit {0}) (calls_await n) (λ w session. Unit {0}) (connects_await n).gives (agreeing_answers laws n)
      (λ v agrees a. less_awaits v (unqueued n v) (dropped_less v.clients.pending n) a) w (λ connect e. (tt, tt)) agrees).is a

  due_awaits : (w : World) (t : Txn) (results : TxnResults) (due : Due) → Agreeing w → OnlyLeaderIsAwaited w
      → OnlyLeaderIsAwaited (give_answer w t results due).after
  due_awaits w t results dues.Nothing agrees a = a
  due_awaits w t results (dues.Admission n) agrees a = admit_awaits n w agrees a
  due_awaits w t results (dues.Ending n) agrees a =
      (ended_makes n (Unit {0}) Agreeing KeepsAwaiting (agreeing_ground laws n) (replies_await n) w t.header.zxid
      (pending_close w.clients.pending n) (λ xid bytes is a. a) agrees).is a
  due_awaits w t results (dues.Reply n write) agrees a = write_awaits n w t results write.kind agrees a

  optional_awaits : (w : World) (results : TxnResults) (o : Option Txn) → Agreeing w → OnlyLeaderIsAwaited w
      → OnlyLeaderIsAwaited (answer_optional_txn w results o).after
  optional_awaits w results None agrees a = a
  optional_awaits w results (Some t) agrees a = due_awaits w t results (answer_due w.clients t) agrees a

  claim_awaits : (w : World) (o : Option ℕ) (lives : Bool) → Agreeing w → OnlyLeaderIsAwaited w
      → OnlyLeaderIsAwaited (answer_claim w o lives).after
  claim_awaits w None lives agrees a = a
  claim_awaits w (Some n) lives agrees a =
      cond_both lives _ _ (λ (h : StepResult World). OnlyLeaderIsAwaited h.after) (λ _. admit_awaits n w agrees a)
      (λ _. (refused_makes n (Unit {0}) Agreeing KeepsAwaiting (agreeing_ground laws n) (replies_await n) w
      (waiting_connect (queue_of w.clients.pending n)) agrees).is a)

  settled_awaits : (w : World) (syncs : List (Option ℕ))
      → PendingAgrees (settle_first w.clients.pending syncs).after → OnlyLeaderIsAwaited w
      → let s = settle_first w.clients.pending syncs in
      OnlyLeaderIsAwaited (answer_settled (with_pending w s.after) s.settled).after
  settled_awaits w [] agrees a = a
  settled_awaits w (None ∷ rest) agrees a = a
  settled_awaits w (Some n ∷ rest) agrees a =
      let p = w.clients.pending in
      front_awaits n (with_pending w (settle_first p (Some n ∷ rest)).after)
      (put_others p n (with_oldest_settled (queue_of p n)) (λ m _. a m)) (agrees.queues n).within_limit

  news_awaits : (o : Option LeaderNews) (w : World) → Agreeing w → OnlyLeaderIsAwaited w
      → OnlyLeaderIsAwaited (answer_news o w).after
  news_awaits None w agrees a = a
  news_awaits (Some (news.Ping ping)) w agrees a = a
  news_awaits (Some (news.Applied place results)) w agrees a =
      optional_awaits w results (slice_get w.replica.learner.log place) agrees a
  news_awaits (Some (news.Revalidated session lives)) w agrees a =
      claim_awaits w (awaiting w.clients.pending session Claimed) lives agrees a
  news_awaits (Some news.SyncSettled) w agrees a =
      settled_awaits w w.clients.pending.syncs (laws.queued.settles w.clients.pending agrees.pending) a

  -- ---- events

  -- The clients agree, and what waits waits for the leader.
  abbrev AgreeAndAwait : World → Type 0
  AgreeAndAwait w = Agreeing w × OnlyLeaderIsAwaited w

  bytes_await : (n : ℕ) (w : World) (bytes : List ℕ) → AgreeAndAwait w → OnlyLeaderIsAwaited
      (take_client_bytes (is_serving_clients w) n w (heard_connection n w.clients) bytes).after
  bytes_await n w bytes h =
      (client_makes n (Unit {0}) Agreeing KeepsAwaiting (agreeing_ground laws n) (replies_await n)
      (λ session. Unit {0}) (calls_await n) (λ w session. Unit {0}) (connects_await n) (λ w k rest agrees a. a)
      (is_serving_clients w) w (heard_connection n w.clients) bytes h.0).is h.1

  none_await : (m : ℕ) → WaitsForLeader (queue_of nothing_pending m)
  none_await m =
      subst (λ (o : Option RequestQueue). WaitsForLeader (queue_in o)) (sym (finmap.get-empty nat_cmp m)) tt

  awaiting_kept : IsKept AgreeAndAwait
  awaiting_kept =
      let kept = agreeing_kept laws in
      record {
        meets = λ w h. (kept.meets w h.0, h.1);
        effects = λ loading w i t e h. (
          kept.effects loading w i t e h.0,
          news_awaits t.news (tell_effect w t).after (tell_agrees laws w t h.0) h.1,
        );
        gone = λ w h. (kept.gone w h.0, none_await);
        opens = λ n address w h. (kept.opens n address w h.0, h.1);
        bytes = λ n w bytes h. (kept.bytes n w bytes h.0, bytes_await n w bytes h);
        closes = λ n w h. (
          kept.closes n w h.0,
          less_awaits w (record w { clients = without_client n w.clients }) (dropped_less w.clients.pending n) h.1,
        );
        checkpoints = λ w h. (kept.checkpoints w h.0, h.1);
      }

  pub nothing_waits_in_vain : NothingWaitsInVain
  nothing_waits_in_vain = record {
    starts = λ settings m. none_await m;
    starts_primed = λ settings m. none_await m;
    plays = λ m events agrees awaits. (plays_keep AgreeAndAwait awaiting_kept m events (agrees, awaits)).1;
  }
