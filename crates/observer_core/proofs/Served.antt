-- After every event, no connection has a session or a request that waits where clients aren't served.
use Rattle.std.proofs.Common.{◌≡◌, ℕ, zero, suc, ℤ, Bool, true, false, cond, not, ◌||◌, List, [], ◌∷◌, ◌++◌, slice_get, Option, Some, None, Result, Ok, Err, refl, sym, ap, subst, ◌∙◌}
use Rattle.std.specs.Prelude.{is_some}
use Rattle.std.specs.List.{list_any}
use Rattle.std.specs.Option.{option_or}
use Rattle.std.specs.Ordering.{eq_by_cmp, nat_cmp}
use Rattle.std.specs.Cmp.{nat_cmp_total, eq_by_cmp_equiv}
use Rattle.std.proofs.lemmas.Bool.{cond_both}
use Rattle.std.specs.FinMap as finmap
use mathlib.Core.Bool.{true≢false}
use Rattle.values.specs.declared.fault.Fault.{Fault}
use Rattle.jute.specs.Stream.{Unread, items_in, place_at}
use Rattle.snapshot_codec.specs.Made.{Loading}
use Rattle.data_tree.specs.declared.outcome.TxnResults.{TxnResults}
use Rattle.txn_codec.specs.declared.txn.Txn.{Txn}
use Rattle.txn_codec.specs.declared.row.SessionChange.{SessionChange}
use Rattle.txn_codec.specs.declared.row.SessionChange.TheVariants as changes
use Rattle.txn_codec.specs.Row.{session_change}
use Rattle.quorum_packet.specs.declared.item.Item.{Item}
use Rattle.learner_sync.specs.Learn.{start_in, checkpoint_in}
use Rattle.learner_sync.specs.declared.phase.Phase.{Phase}
use Rattle.learner_sync.specs.declared.phase.Phase.TheVariants as phase
use Rattle.replica.specs.Replica.{Replica}
use Rattle.replica.specs.Taking.{ItemEffect, take_item, follow_leader, is_serving_in, is_serving, checkpoint_if, checkpoint_replica}
use Rattle.replica.specs.Laws.{ServingStays}
use Rattle.replica.specs.declared.item_outcome.LeaderNews.{LeaderNews}
use Rattle.replica.specs.declared.item_outcome.LeaderNews.TheVariants as news
use Rattle.client_frames.specs.declared.connecting.Connecting.{Connecting}
use Rattle.client_frames.specs.Connect.{connecting_in}
use Rattle.four_letter.specs.declared.word.Word.{Word}
use Rattle.forwarding.specs.declared.request.ConnectKind.{ConnectKind}
use Rattle.forwarding.specs.declared.request.ConnectKind.TheVariants.{New, Claimed}
use Rattle.forwarding.specs.declared.request.Ready.{Ready}
use Rattle.forwarding.specs.declared.request.Settled.{Settled}
use Rattle.forwarding.specs.declared.request.Settled.TheVariants.{NoSync, Gone, Of}
use Rattle.forwarding.specs.Queue.{RequestQueue, pending_limit, ready_request, without_front_if}
use Rattle.forwarding.specs.Pending.{nothing_pending, is_idle, connecting_to, awaiting_as, awaiting, settle_sync, take_ready}
use Rattle.forwarding.specs.State.{PendingTable}
use Rattle.sessions.specs.State.{SessionTable as Sessions, ConnectedClient as SessionConnection}
use Rattle.sessions.specs.Sessions.{session_in, session_of_connection, connection_of}
use Rattle.watch_manager.specs.Pairs.{same_connection}
use Rattle.world.specs.World.{OpenConnection, Clients, World}
use Rattle.world.specs.Steps.{StepResult, fold_steps}
use Rattle.world.specs.Clients.{idle_connection, is_open, heard_connection, with_connection, without_client, without_clients}
use Rattle.world.specs.Sending.{close_client, with_pending}
use Rattle.client_service.specs.Serve.{touched_as, handle_connect, serve_by, is_refused_frame, serve_frame, word_at, is_unheard, with_waiting_bytes, wait_if_heard, frames_of_client, tell_or_serve, take_client_bytes}
use Rattle.leader_answers.specs.declared.due.Due.{Due}
use Rattle.leader_answers.specs.declared.due.Due.TheVariants as dues
use Rattle.leader_answers.specs.Answering.{answer_if_ready, answer_up_to, answer_due, due_by, admission_of, ending_of, reply_of, answer_claim, give_answer, answer_optional_txn, answer_settled}
use Rattle.observer_core.specs.Leader.{tell_effect, answer_news, send_effect, part_reader, meet_leader, disconnect_all}
use Rattle.observer_core.specs.Play.{is_serving_clients, with_checkpoint, play}
use Rattle.observer_core.specs.Agreement.{ClientsAgree, IsQuietUnlessServing, SessionsAreServed}
use Rattle.observer_core.proofs.Keeping.{happening_keeps}
use Rattle.observer_core.proofs.Passing.{KeysPass, removed_passes, closed_passes, put_passes, settled_passes}
use Rattle.observer_core.proofs.Walking.{idle_queue}
use Rattle.observer_core.proofs.Answered.{waits_busy}
use Rattle.observer_core.proofs.Events.{IsKept, plays_keep}
use Rattle.observer_core.proofs.Agreeing.{Agreeing, LowerLaws, owner_has}
use Rattle.observer_core.proofs.Agreed.{agreeing_kept, tell_agrees}
use Rattle.observer_core.proofs.Unmoved.{client_same, news_same}

-- ---- no connection has a session

abbrev pub Nobody : Sessions → Type 0
Nobody s = KeysPass (λ _. false) s.connections

pub none_has : (s : Sessions) → Nobody s → (n : ℕ) → session_of_connection s n ≡ None
none_has s nobody n = by (finmap.get s.connections n) (nobody n)
  where
    by : (o : Option SessionConnection) → (is_some o ≡ true → false ≡ true) → session_in o ≡ None
    by None h = refl
    by (Some c) h = absurd (true≢false (sym (h refl)))

pub nobody_has : (s : Sessions) → ((n : ℕ) → session_of_connection s n ≡ None) → Nobody s
nobody_has s none n = by (finmap.get s.connections n) (none n)
  where
    by : (o : Option SessionConnection) → session_in o ≡ None → is_some o ≡ true → false ≡ true
    by None e has = has
    by (Some c) e has = absurd (true≢false (ap is_some e))

-- If every connection that has a session closes, no connection has one.
each_closed : (ns : List ℕ) (c : Clients) → KeysPass (λ k. list_any (eq_by_cmp nat_cmp k) ns) c.sessions.connections
    → Nobody (without_clients ns c).sessions
each_closed [] c all = all
each_closed (n ∷ others) c all =
    each_closed others (without_client n c) (closed_passes is_other c.sessions n (λ k has. turned k (all k has)))
  where
    is_other : ℕ → Bool
    is_other k = list_any (eq_by_cmp nat_cmp k) others

    either : (a b : Bool) → (a || b) ≡ true → (b || a) ≡ true
    either true true e = refl
    either true false e = refl
    either false b e = ap (λ x. x || false) e

    turned : (k : ℕ) → (eq_by_cmp nat_cmp k n || list_any (eq_by_cmp nat_cmp k) others) ≡ true
        → (is_other k || same_connection n k) ≡ true
    turned k e =
        ap (λ b. is_other k || b) ((eq_by_cmp_equiv nat_cmp_total).symm n k)
        ∙ either (eq_by_cmp nat_cmp k n) (is_other k) e

-- Every connection that has a session is open.
abbrev Joined : World → Type 0
Joined w = KeysPass (λ n. is_open n w.clients) w.clients.sessions.connections

pub gone_nobody : (w : World) → Joined w → Nobody (disconnect_all w).after.clients.sessions
gone_nobody w joined =
    let open_connections = w.clients.connections in
    each_closed (finmap.keys open_connections) w.clients
    (λ k has. sym (finmap.contains_key-keys open_connections k) ∙ joined k has)

-- ---- nothing waits

abbrev pub NothingWaits : PendingTable → Type 0
NothingWaits p = KeysPass (λ _. false) p.queues

pub none_waits : (p : PendingTable) → NothingWaits p → (n : ℕ) → is_idle p n ≡ true
none_waits p nothing n = by (finmap.contains_key p.queues n) (nothing n)
  where
    by : (b : Bool) → (b ≡ true → false ≡ true) → not b ≡ true
    by true h = absurd (true≢false (sym (h refl)))
    by false h = refl

pub nothing_waits : (p : PendingTable) → ((n : ℕ) → is_idle p n ≡ true) → NothingWaits p
nothing_waits p idle n = by (finmap.contains_key p.queues n) (idle n)
  where
    by : (b : Bool) → not b ≡ true → b ≡ true → false ≡ true
    by true e has = e
    by false e has = has

-- No connection has a session, and none has a request that waits.
pub record IsQuiet (c : Clients) : Type 0 where
  pub nobody : Nobody c.sessions
  pub nothing : NothingWaits c.pending

pub closed_quiet : (n : ℕ) (c : Clients) → IsQuiet c → IsQuiet (without_client n c)
closed_quiet n c q = record {
  nobody = closed_passes (λ _. false) c.sessions n (λ k has. ap (λ b. b || same_connection n k) (q.nobody k has));
  nothing =
      removed_passes (λ _. false) c.pending.queues n (λ k has. ap (λ b. b || same_connection n k) (q.nothing k has));
}

pub quiet_none : (w : World) → is_serving_clients w ≡ false → IsQuietUnlessServing w → IsQuiet w.clients
quiet_none w none q = record {
  nobody = nobody_has w.clients.sessions (q.none none);
  nothing = nothing_waits w.clients.pending (q.idle none);
}

-- It is quiet where clients aren't served.
abbrev pub Served : World → Type 0
Served w = is_serving_clients w ≡ false → IsQuiet w.clients

pub of_quiet : (w : World) → IsQuietUnlessServing w → Served w
of_quiet w q none = quiet_none w none q

quiet_of : (w : World) → Served w → IsQuietUnlessServing w
quiet_of w served = record {
  none = λ none. none_has w.clients.sessions (served none).nobody;
  idle = λ none. none_waits w.clients.pending (served none).nothing;
}

-- From one world to the next, clients that are served stay served, and where they aren't it stays quiet.
stays_served : (w v : World) → (is_serving_clients w ≡ true → is_serving_clients v ≡ true)
    → (is_serving_clients w ≡ false → IsQuiet w.clients → IsQuiet v.clients) → Served w → Served v
stays_served w v stays still served none = by (is_serving_clients w) refl
  where
    by : (b : Bool) → is_serving_clients w ≡ b → IsQuiet v.clients
    by true e = absurd (true≢false (sym (stays e) ∙ none))
    by false e = still e (served e)

same_served : (w v : World) → v.replica ≡ w.replica
    → (is_serving_clients w ≡ false → IsQuiet w.clients → IsQuiet v.clients) → Served w → Served v
same_served w v same still served = stays_served w v (λ e. ap is_serving same ∙ e) still served

-- ---- a client that isn't served can only be closed

abbrev QuietAfter : StepResult World → Type 0
QuietAfter h = IsQuiet h.after.clients

connect_quiet : (n : ℕ) (w : World) (c : Result Connecting Fault) → IsQuiet w.clients
    → QuietAfter (handle_connect false n w c)
connect_quiet n w (Err e) q = closed_quiet n w.clients q
connect_quiet n w (Ok c) q = closed_quiet n w.clients q

-- A connection without a session.
by_quiet : (n : ℕ) (w : World) (frame : List ℕ) (o : Option ℤ) → o ≡ None → IsQuiet w.clients
    → QuietAfter (serve_by false n w frame o)
by_quiet n w frame None e q =
    cond_both (is_idle w.clients.pending n) _ _ QuietAfter (λ _. connect_quiet n w (connecting_in frame) q)
    (λ busy. absurd (true≢false (sym (none_waits w.clients.pending q.nothing n) ∙ busy)))
by_quiet n w frame (Some session) e q = absurd (true≢false (ap is_some e))

pub serve_quiet : (n : ℕ) (w : World) (frame : List ℕ) → IsQuiet w.clients → QuietAfter (serve_frame false n w frame)
serve_quiet n w frame q = by (session_of_connection w.clients.sessions n) (none_has w.clients.sessions q.nobody n)
  where
    by : (o : Option ℤ) → o ≡ None
        → let v = touched_as w o in
        QuietAfter (cond (is_refused_frame n v frame) (close_client n v)
        (serve_by false n v frame (session_of_connection v.clients.sessions n)))
    by None e =
        cond_both (is_refused_frame n w frame) _ _ QuietAfter (λ _. closed_quiet n w.clients q)
        (λ _. by_quiet n w frame (session_of_connection w.clients.sessions n)
        (none_has w.clients.sessions q.nobody n) q)
    by (Some session) e = absurd (true≢false (ap is_some e))

wait_quiet : (n : ℕ) (w : World) (o : Option OpenConnection) (left : Unread) → IsQuiet w.clients
    → QuietAfter (wait_if_heard n w o left)
wait_quiet n w None left q = q
wait_quiet n w (Some k) (Ok rest) q = record { nobody = q.nobody; nothing = q.nothing }
wait_quiet n w (Some k) (Err e) q = closed_quiet n w.clients q

pub client_quiet : (n : ℕ) (w : World) (o : Option OpenConnection) (bytes : List ℕ) → IsQuiet w.clients
    → QuietAfter (take_client_bytes false n w o bytes)
client_quiet n w None bytes q = q
client_quiet n w (Some k) bytes q = by (word_at n w came)
  where
    came : List ℕ
    came = k.rest ++ bytes

    v : World
    v = with_waiting_bytes n w k []

    at_hand : IsQuiet v.clients
    at_hand = record { nobody = q.nobody; nothing = q.nothing }

    by : (o : Option Word) → QuietAfter (tell_or_serve false n v came o)
    by None =
        let found = items_in frames_of_client (place_at tt came) in
        let h = fold_steps (is_unheard n) (serve_frame false n) v found.found in
        wait_quiet n h.after (heard_connection n h.after.clients) found.left.unread
        (happening_keeps (λ (w : World). IsQuiet w.clients) (is_unheard n) (serve_frame false n)
        (λ w frame _. serve_quiet n w frame) v found.found at_hand)
    by (Some word) = closed_quiet n v.clients at_hand

-- ---- where it is quiet, no news answer anybody

none_awaits : (c : Clients) → ClientsAgree c → IsQuiet c → (session : ℤ) (kind : ConnectKind)
    → awaiting c.pending session kind ≡ None
none_awaits c a q session kind = ap (awaiting_as c.pending kind) (of (connecting_to c.pending session) refl)
  where
    of : (o : Option ℕ) → connecting_to c.pending session ≡ o → o ≡ None
    of None e = refl
    of (Some n) e =
        let f = a.pending.in_front session n e in
        absurd (true≢false (sym (none_waits c.pending q.nothing n) ∙ waits_busy c.pending n f.0 f.1.0))

none_due : (c : Clients) (t : Txn) → ClientsAgree c → IsQuiet c → answer_due c t ≡ dues.Nothing
none_due c t a q = by (session_change t.body)
  where
    session : ℤ
    session = t.header.client_id

    unowned : connection_of c.sessions session ≡ None
    unowned = of (connection_of c.sessions session) refl
      where
        of : (o : Option ℕ) → connection_of c.sessions session ≡ o → o ≡ None
        of None e = refl
        of (Some n) e =
            absurd (true≢false (sym (ap is_some (owner_has c.sessions session n a.sessions e))
            ∙ ap is_some (none_has c.sessions q.nobody n)))

    unwanted : (kind : ConnectKind) → awaiting c.pending session kind ≡ None
    unwanted kind = none_awaits c a q session kind

    by : (change : SessionChange) → due_by c t change ≡ dues.Nothing
    by (changes.Begins time_out) = ap admission_of (unwanted New)
    by changes.Ends =
        ap (λ (o : Option ℕ). ending_of (option_or o (awaiting c.pending session Claimed))) unowned
        ∙ ap ending_of (unwanted Claimed)
    by changes.Nothing = ap (reply_of c t) unowned

txn_quiet : (w : World) (results : TxnResults) (o : Option Txn) → Agreeing w → IsQuiet w.clients
    → QuietAfter (answer_optional_txn w results o)
txn_quiet w results None a q = q
txn_quiet w results (Some t) a q =
    subst (λ (due : Due). QuietAfter (give_answer w t results due)) (sym (none_due w.clients t a q)) q

-- Nothing is in front.
front_quiet : (n most : ℕ) (w : World) → IsQuiet w.clients → QuietAfter (answer_up_to most n w)
front_quiet n zero w q = q
front_quiet n (suc most) w q = by (take_ready p n).ready none
  where
    p : PendingTable
    p = w.clients.pending

    none : (take_ready p n).ready ≡ None
    none = ap ready_request (idle_queue p n (none_waits p q.nothing n))

    v : World
    v = with_pending w (take_ready p n).after

    by : (o : Option Ready) → o ≡ None → QuietAfter (answer_if_ready n v o (answer_up_to most n))
    by None e = record {
      nobody = q.nobody;
      nothing = put_passes (λ _. false) p q.nothing n
          (λ (waiting : RequestQueue). without_front_if (ready_request waiting) waiting) refl;
    }
    by (Some ready) e = absurd (true≢false (ap is_some e))

sync_quiet : (w : World) (o : Settled) → IsQuiet w.clients → QuietAfter (answer_settled w o)
sync_quiet w NoSync q = q
sync_quiet w Gone q = q
sync_quiet w (Of n) q = front_quiet n pending_limit w q

pub news_quiet : (o : Option LeaderNews) (w : World) → Agreeing w → IsQuiet w.clients → QuietAfter (answer_news o w)
news_quiet None w a q = q
news_quiet (Some (news.Ping ping)) w a q = record { nobody = q.nobody; nothing = q.nothing }
news_quiet (Some (news.Applied place results)) w a q = txn_quiet w results (slice_get w.replica.learner.log place) a q
news_quiet (Some (news.Revalidated session lives)) w a q =
    subst (λ (o : Option ℕ). QuietAfter (answer_claim w o lives)) (sym (none_awaits w.clients a q session Claimed)) q
news_quiet (Some news.SyncSettled) w a q =
    let s = settle_sync w.clients.pending in
    sync_quiet (with_pending w s.after) s.settled
    (record { nobody = q.nobody; nothing = settled_passes (λ _. false) w.clients.pending q.nothing })

-- ---- clients that are served stay served when a leader comes, and at a checkpoint

pub begins_serving : (r : Replica) (server_id : ℤ) → is_serving r ≡ true
    → is_serving (follow_leader r server_id).replica ≡ true
begins_serving r server_id = by r.learner.phase refl
  where
    by : (ph : Phase) → r.learner.phase ≡ ph → is_serving_in ph ≡ true
        → is_serving_in (start_in ph r.learner server_id).after.phase ≡ true
    by phase.Serving e s = ap is_serving_in e
    by ph e s = cc

pub rebases_serving : (r : Replica) → is_serving r ≡ true → is_serving (checkpoint_replica r) ≡ true
rebases_serving r = by r.learner.phase refl
  where
    by : (ph : Phase) → r.learner.phase ≡ ph → is_serving_in ph ≡ true
        → is_serving (checkpoint_if (is_serving_in ph) r) ≡ true
    by phase.Serving e s = ap (λ (ph : Phase). is_serving_in (checkpoint_in ph r.learner).phase) e ∙ ap is_serving_in e
    by ph e s = cc

-- ---- events

pub nothing_pending_waits : NothingWaits nothing_pending
nothing_pending_waits n has =
    absurd (true≢false (sym has ∙ ap is_some (finmap.get-empty nat_cmp n)))

abbrev pub AgreeAndServed : World → Type 0
AgreeAndServed w = Agreeing w × Served w

module _ (stays : ServingStays) (laws : LowerLaws) where
  effect_served : (loading : Loading) (w : World) (i : Item) (t : ItemEffect) → take_item loading w.replica i ≡ Ok t
      → AgreeAndServed w → Served (send_effect w t).after
  effect_served loading w i t e h =
      let v = (tell_effect w t).after in
      stays_served w (send_effect w t).after (λ s. ap is_serving (news_same t.news v) ∙ stays loading w.replica i t s e)
      (λ _ q. news_quiet t.news v (tell_agrees laws w t h.0) (record { nobody = q.nobody; nothing = q.nothing })) h.1

  bytes_served : (n : ℕ) (w : World) (bytes : List ℕ) → Served w
      → Served (take_client_bytes (is_serving_clients w) n w (heard_connection n w.clients) bytes).after
  bytes_served n w bytes served =
      let o = heard_connection n w.clients in
      same_served w (take_client_bytes (is_serving_clients w) n w o bytes).after
      (client_same (is_serving_clients w) n w o bytes)
      (λ none q. subst (λ (b : Bool). QuietAfter (take_client_bytes b n w o bytes)) (sym none)
      (client_quiet n w o bytes q)) served

  pub served_kept : IsKept AgreeAndServed
  served_kept =
      let kept = agreeing_kept laws in
      record {
        meets = λ w h. (
          kept.meets w h.0,
          stays_served w (meet_leader part_reader None w).after.world (begins_serving w.replica w.settings.server_id)
              (λ _ q. q) h.1,
        );
        effects = λ loading w i t e h. (kept.effects loading w i t e h.0, effect_served loading w i t e h);
        gone = λ w h. (
          kept.gone w h.0,
          λ _. record { nobody = gone_nobody w h.0.joined; nothing = nothing_pending_waits },
        );
        opens = λ n address w h. (
          kept.opens n address w h.0,
          same_served w (record w { clients = with_connection n (idle_connection address) w.clients }) refl
              (λ _ q. record { nobody = q.nobody; nothing = q.nothing }) h.1,
        );
        bytes = λ n w bytes h. (kept.bytes n w bytes h.0, bytes_served n w bytes h.1);
        closes = λ n w h. (
          kept.closes n w h.0,
          same_served w (close_client n w).after refl (λ _ q. closed_quiet n w.clients q) h.1,
        );
        checkpoints = λ w h. (
          kept.checkpoints w h.0,
          stays_served w (with_checkpoint w) (rebases_serving w.replica) (λ _ q. q) h.1,
        );
      }

  pub sessions_are_served : SessionsAreServed
  sessions_are_served = record {
    starts = λ settings. record {
      none = λ none n. ap session_in (finmap.get-empty nat_cmp n);
      idle = λ none n. ap (λ (o : Option RequestQueue). not (is_some o)) (finmap.get-empty nat_cmp n);
    };
    starts_primed = λ settings. record {
      none = λ none n. absurd (true≢false none);
      idle = λ none n. absurd (true≢false none);
    };
    plays = λ m events agrees quiet.
        quiet_of (play m events).after.world
        (plays_keep AgreeAndServed served_kept m events (agrees, of_quiet m.world quiet)).1;
  }
