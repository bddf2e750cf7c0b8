-- No small step ends the agreement: sessions, watches and waiting requests name open connections, no two connections
-- have one session, and a connection whose connect waits has none.
use Rattle.std.proofs.Common.{◌≡◌, ◌≢◌, inl, inr, ℕ, ◌+◌, ◌==◌, ℤ, pos, Bool, true, false, cond, not, ◌||◌, List, [], ◌∷◌, ◌++◌, Option, Some, None, refl, sym, ap, subst, ◌∙◌}
use Rattle.std.specs.Prelude.{is_some}
use Rattle.std.specs.Option.{unwrap_or}
use Rattle.std.specs.Ordering.{eq_by_cmp, nat_cmp, int_cmp}
use Rattle.std.specs.Cmp.{nat_cmp_total, int_cmp_total, eq_by_cmp_equiv}
use Rattle.std.proofs.lemmas.Bool.{cond_both}
use Rattle.std.specs.FinMap as finmap
use mathlib.Core.Bool.{true≢false}
use Rattle.jute.specs.declared.owned.Id.{Id}
use Rattle.sessions.specs.State.{SessionTable as Sessions, ConnectedClient as SessionConnection}
use Rattle.sessions.specs.Sessions.{session_in, session_of_connection, greatest_counter, connection_of, close_connection, session_response, refused_connect, give_session, name_session, ConnectResult, add_id}
use Rattle.sessions.specs.Credentials.{session_id_of}
use Rattle.sessions.specs.declared.request.SessionResponse.{SessionResponse}
use Rattle.sessions.specs.Agreement.{SessionsAgree, SessionsAreApart, AgreementIsKept}
use Rattle.forwarding.specs.declared.request.WriteKind.{WriteKind}
use Rattle.forwarding.specs.declared.request.PendingConnect.{PendingConnect}
use Rattle.forwarding.specs.declared.request.PendingRequest.TheVariants.{Connect, Write, Held}
use Rattle.forwarding.specs.Queue.{RequestQueue, waiting_connect, after_answer, ready_request, without_front_if}
use Rattle.forwarding.specs.State.{PendingTable, WaitingConnects}
use Rattle.forwarding.specs.Pending.{nothing_pending, queue_of, is_idle, is_full, connecting_to, push_connect, push_write, push_sync, unsettled_sync, hold_frame, touch_session, take_touched, answer_write, settle_first, settle_sync, take_ready, without_connect, drop_connection}
use Rattle.forwarding.specs.Agreement.{PendingAgrees}
use Rattle.forwarding.specs.Laws.{PendingAgreementIsKept}
use Rattle.watch_manager.specs.Pairs.{same_connection}
use Rattle.watch_manager.specs.Watching.{WatchTables}
use Rattle.watch_manager.specs.Kinds.{without_watch}
use Rattle.watch_manager.specs.Laws.{WatchersPass, OnlyWatchersAreTold, DroppedWatchesNothing}
use Rattle.world.specs.World.{OpenConnection, Clients, World}
use Rattle.world.specs.Clients.{is_open, with_connection, without_client, without_clients}
use Rattle.world.specs.Sending.{with_watches, with_sessions, with_pending, close_client_if_some}
use Rattle.client_service.specs.Serve.{with_watch}
use Rattle.observer_core.specs.Agreement.{ClientsAgree, OneSessionEach}
use Rattle.forwarding.proofs.Dropping.{none_waits as none_waits_then}
use Rattle.observer_core.proofs.Walking.{IsOpen, HasNone, NoConnect, IsWith, IsGround, given, with_connect}
use Rattle.observer_core.proofs.Answered.{unqueued, waits_busy}
use Rattle.observer_core.proofs.Passing.{KeysPass, inserted_passes, removed_passes, closed_passes, one_closed_passes, id_passes, given_passes, id_none, closed_none, given_none, fewer_without, put_passes, settled_passes, watchers_pass, watched_passes, unwatched_passes}

abbrev pub Agreeing : World → Type 0
Agreeing w = ClientsAgree w.clients

-- ---- no two connections have one session

-- The connection that has the session.
pub with_session : (o : Option SessionConnection) (session : ℤ) → session_in o ≡ Some session
    → (c : SessionConnection) × ((o ≡ Some c) × (c.session ≡ session))
with_session None session e = absurd (true≢false (sym (ap is_some e)))
with_session (Some c) session e = (c, (refl, ap (λ (x : Option ℤ). unwrap_or x session) e))

pub one_session_each : SessionsAreApart → OneSessionEach
one_session_each apart c a m n session at_m at_n =
    let first = with_session (finmap.get c.sessions.connections m) session at_m in
    let second = with_session (finmap.get c.sessions.connections n) session at_n in
    apart c.sessions a.sessions m n first.0 second.0 first.1.0 second.1.0 (first.1.1 ∙ sym second.1.1)

-- The connection of a session has it.
pub owner_has : (s : Sessions) (session : ℤ) (n : ℕ) → SessionsAgree s → connection_of s session ≡ Some n
    → session_of_connection s n ≡ Some session
owner_has s session n a e =
    let has = (a.connections session n e).1 in
    ap session_in has.0 ∙ ap Some has.1

-- ---- connections open

pub opened_agrees : (n : ℕ) (k : OpenConnection) (c : Clients) → ClientsAgree c → ClientsAgree (with_connection n k c)
opened_agrees n k c a = record {
  sessions = a.sessions;
  joined = λ m has. still m (a.joined m has);
  watching = watchers_pass (λ m. is_open m c) (λ m. is_open m (with_connection n k c)) c.watches still a.watching;
  pending = a.pending;
  waiting = λ m e. still m (a.waiting m e);
  connecting = a.connecting;
}
  where
    still : (m : ℕ) → is_open m c ≡ true → is_open m (with_connection n k c) ≡ true
    still m e =
        ap is_some (finmap.get-insert nat_cmp_total c.connections n k m)
        ∙ cond_both (eq_by_cmp nat_cmp m n) _ _ (λ (o : Option OpenConnection). is_some o ≡ true) (λ _. refl) (λ _. e)

-- ---- what waits changes

open_is : (b : Bool) → not b ≡ false → b ≡ true
open_is true e = refl
open_is false e = absurd (true≢false e)

waiters : (c : Clients) → ClientsAgree c → KeysPass (λ m. is_open m c) c.pending.queues
waiters c a n has = a.waiting n (ap not has)

pub none_waits : (test : ℕ → Bool) (n : ℕ) → is_idle nothing_pending n ≡ false → test n ≡ true
none_waits test n e =
    absurd (true≢false (sym (open_is (finmap.contains_key nothing_pending.queues n) e)
    ∙ ap is_some (finmap.get-empty nat_cmp n)))

-- Each connection that waits for a session has none.
abbrev Unjoined : Sessions → WaitingConnects → Type 0
Unjoined s connects = (session : ℤ) (n : ℕ) → finmap.get connects session ≡ Some n → finmap.get s.connections n ≡ None

-- The waiting connects are found by their sessions.
unjoined : (c : Clients) → ClientsAgree c → Unjoined c.sessions c.pending.connects
unjoined c a session n e = let f = a.pending.in_front session n e in a.connecting n f.0 f.1.0

unjoined_without : (s : Sessions) (connects : WaitingConnects) (o : Option PendingConnect) → Unjoined s connects
    → Unjoined s (without_connect connects o)
unjoined_without s connects o all session n e = all session n (fewer_without connects o session n e)

pub pending_agrees : (w : World) (p : PendingTable) → PendingAgrees p → KeysPass (λ m. is_open m w.clients) p.queues
    → Unjoined w.clients.sessions p.connects → Agreeing w → Agreeing (with_pending w p)
pending_agrees w p agrees pass none a = record {
  sessions = a.sessions;
  joined = a.joined;
  watching = a.watching;
  pending = agrees;
  waiting = λ n e. pass n (open_is (finmap.contains_key p.queues n) e);
  connecting = λ n connect e. none connect.session n (agrees.by_session n connect e);
}

-- ---- sessions change

pub sessions_agree : (w : World) (s : Sessions) → SessionsAgree s → KeysPass (λ m. is_open m w.clients) s.connections
    → ((m : ℕ) (connect : PendingConnect) → waiting_connect (queue_of w.clients.pending m) ≡ Some connect
    → finmap.get s.connections m ≡ None)
    → Agreeing w → Agreeing (with_sessions w s)
sessions_agree w s agrees pass none a = record {
  sessions = agrees;
  joined = pass;
  watching = a.watching;
  pending = a.pending;
  waiting = a.waiting;
  connecting = none;
}

-- ---- connections close

-- Each other connection is still open.
open_but : (n : ℕ) (c : Clients) (m : ℕ) → is_open m c ≡ true
    → (is_open m (without_client n c) || same_connection n m) ≡ true
open_but n c m e =
    (λ i. is_some (finmap.get-remove nat_cmp_total c.connections n m i) || (eq_by_cmp_equiv nat_cmp_total).symm n m i)
    ∙ by (eq_by_cmp nat_cmp m n) (finmap.get c.connections m) e
  where
    by : (b : Bool) (o : Option OpenConnection) → is_some o ≡ true → (is_some (cond b None o) || b) ≡ true
    by true o e = refl
    by false o e = ap (λ x. x || false) e

pub watches_agree : (w : World) (watches : WatchTables) → WatchersPass (λ m. is_open m w.clients) watches → Agreeing w
    → Agreeing (with_watches w watches)
watches_agree w watches pass a = record {
  sessions = a.sessions;
  joined = a.joined;
  watching = pass;
  pending = a.pending;
  waiting = a.waiting;
  connecting = a.connecting;
}

-- What the laws of the crates below say of each change.
pub record LowerLaws : Type 0 where
  pub kept : AgreementIsKept
  pub told : OnlyWatchersAreTold
  pub dropped : DroppedWatchesNothing
  pub queued : PendingAgreementIsKept

module _ (laws : LowerLaws) where
  pub closed_agrees : (n : ℕ) (c : Clients) → ClientsAgree c → ClientsAgree (without_client n c)
  closed_agrees n c a = record {
    sessions = laws.kept.closes c.sessions n a.sessions;
    joined = closed_passes left c.sessions n (λ m has. open_but n c m (a.joined m has));
    watching =
        laws.dropped left c.watches n
        (watchers_pass (λ m. is_open m c) (λ m. left m || same_connection n m) c.watches (open_but n c) a.watching);
    pending = dropped;
    waiting = λ m e. pass m (open_is (finmap.contains_key (drop_connection c.pending n).queues m) e);
    connecting = λ m connect e. closed_none c.sessions n m (none connect.session m (dropped.by_session m connect e));
  }
    where
      left : ℕ → Bool
      left m = is_open m (without_client n c)

      dropped : PendingAgrees (drop_connection c.pending n)
      dropped = laws.queued.drops c.pending n a.pending

      pass : KeysPass left (drop_connection c.pending n).queues
      pass = removed_passes left c.pending.queues n (λ m has. open_but n c m (waiters c a m has))

      none : Unjoined c.sessions (drop_connection c.pending n).connects
      none = unjoined_without c.sessions c.pending.connects (waiting_connect (queue_of c.pending n)) (unjoined c a)

  pub each_closed_agrees : (ns : List ℕ) (c : Clients) → ClientsAgree c → ClientsAgree (without_clients ns c)
  each_closed_agrees [] c a = a
  each_closed_agrees (n ∷ others) c a = each_closed_agrees others (without_client n c) (closed_agrees n c a)

  pub left_agrees : (w : World) (o : Option ℕ) → Agreeing w → Agreeing (close_client_if_some w o).after
  left_agrees w None a = a
  left_agrees w (Some n) a = closed_agrees n w.clients a

  -- ---- a connection's steps

  module _ (n : ℕ) where
    shown_agrees : (w : World) (id : Id) → IsOpen n w → Agreeing w
        → Agreeing (with_sessions w (add_id w.clients.sessions n id).after)
    shown_agrees w id here a =
        let s = w.clients.sessions in
        sessions_agree w (add_id s n id).after (laws.kept.shows s n id a.sessions)
        (id_passes (λ m. is_open m w.clients) s n here a.joined id)
        (λ m connect e. id_none s n id m (a.connecting m connect e)) a

    -- What waits changes, and no connect does.
    changed_agrees : (w : World) (p : PendingTable) → p.connects ≡ w.clients.pending.connects → PendingAgrees p
        → KeysPass (λ m. is_open m w.clients) p.queues → Agreeing w → Agreeing (with_pending w p)
    changed_agrees w p same agrees pass a =
        pending_agrees w p agrees pass (subst (Unjoined w.clients.sessions) (sym same) (unjoined w.clients a)) a

    touched_agrees : (w : World) (session : ℤ) → Agreeing w
        → Agreeing (with_pending w (touch_session w.clients.pending session))
    touched_agrees w session a =
        changed_agrees w (touch_session w.clients.pending session) refl
        (laws.queued.touches w.clients.pending session a.pending) (waiters w.clients a) a

    written_agrees : (w : World) (xid : ℤ) (kind : WriteKind) → is_full w.clients.pending n ≡ false → IsOpen n w
        → Agreeing w → Agreeing (with_pending w (push_write w.clients.pending n xid kind))
    written_agrees w xid kind room here a =
        let p = w.clients.pending in
        changed_agrees w (push_write p n xid kind) refl (laws.queued.pushes_write p n xid kind a.pending room)
        (inserted_passes (λ m. is_open m w.clients) p.queues n
        (queue_of p n ++ Write (record { xid = xid; kind = kind }) ∷ []) here (waiters w.clients a)) a

    synced_agrees : (w : World) (xid : ℤ) (path : List ℕ) → is_full w.clients.pending n ≡ false → IsOpen n w
        → Agreeing w → Agreeing (with_pending w (push_sync w.clients.pending n xid path))
    synced_agrees w xid path room here a =
        let p = w.clients.pending in
        changed_agrees w (push_sync p n xid path) refl (laws.queued.pushes_sync p n xid path a.pending room)
        (inserted_passes (λ m. is_open m w.clients) p.queues n (queue_of p n ++ unsettled_sync xid path ∷ []) here
        (waiters w.clients a)) a

    held_agrees : (w : World) (frame : List ℕ) → is_full w.clients.pending n ≡ false → IsOpen n w → Agreeing w
        → Agreeing (with_pending w (hold_frame w.clients.pending n frame))
    held_agrees w frame room here a =
        let p = w.clients.pending in
        changed_agrees w (hold_frame p n frame) refl (laws.queued.holds p n frame a.pending room)
        (inserted_passes (λ m. is_open m w.clients) p.queues n (queue_of p n ++ Held frame ∷ []) here
        (waiters w.clients a)) a

    -- ---- connects

    -- A connection is named a session, and doesn't have it yet.
    pub counted_agrees : (w : World) → HasNone n w → (w.clients.sessions.counter == greatest_counter) ≡ false → Agreeing w
        → Agreeing (with_sessions w (record w.clients.sessions { counter = w.clients.sessions.counter + 1 }))
    counted_agrees w none below a = sessions_agree w (record s { counter = s.counter + 1 }) agrees a.joined a.connecting a
      where
        s : Sessions
        s = w.clients.sessions

        named : SessionsAgree (name_session s (pos 0)).after
        named = laws.kept.connects s n false (record { time_out = pos 0; session_id = pos 0; password = None })
            a.sessions none

        chosen : (b : Bool) (x y : ConnectResult) → b ≡ false → SessionsAgree (cond b x y).after
            → SessionsAgree y.after
        chosen true x y e h = absurd (true≢false e)
        chosen false x y e h = h

        response : SessionResponse
        response = session_response s.terms (session_id_of s.terms.server_id (s.counter + 1)) (pos 0)

        agrees : SessionsAgree (record s { counter = s.counter + 1 })
        agrees = chosen (s.counter == greatest_counter) (refused_connect s)
            (record {
              connected = record { response = response; older = None };
              after = record s { counter = s.counter + 1 };
            }) below named

    pub given_agrees : (w : World) (session time_out : ℤ) → HasNone n w → NoConnect n w → IsOpen n w → Agreeing w
        → Agreeing (given n w session time_out).after
    given_agrees w session time_out none free here a =
        left_agrees (with_sessions w x.after) x.connected.older
        (sessions_agree w x.after (laws.kept.admits s n session time_out a.sessions none)
        (given_passes (λ m. is_open m w.clients) s n here a.joined session time_out)
        (λ m connect e. given_none s n session time_out m (apart m connect e) (a.connecting m connect e)) a)
      where
        s : Sessions
        s = w.clients.sessions

        x : ConnectResult
        x = give_session s n session time_out

        apart : (m : ℕ) (connect : PendingConnect) → waiting_connect (queue_of w.clients.pending m) ≡ Some connect
            → m ≢ n
        apart m connect e same =
            true≢false (sym (ap is_some e) ∙ ap (λ (k : ℕ). is_some (waiting_connect (queue_of w.clients.pending k))) same
            ∙ ap is_some free)

    asked_agrees : (w : World) (connect : PendingConnect) → HasNone n w → is_idle w.clients.pending n ≡ true
        → connecting_to w.clients.pending connect.session ≡ None → IsOpen n w → Agreeing w
        → Agreeing (with_connect n w connect)
    asked_agrees w connect none idle free here a =
        let p = w.clients.pending in
        pending_agrees w (push_connect p n connect) (laws.queued.pushes_connect p n connect a.pending idle free)
        (inserted_passes (λ m. is_open m w.clients) p.queues n (queue_of p n ++ Connect connect ∷ []) here
        (waiters w.clients a)) all a
      where
        all : Unjoined w.clients.sessions (push_connect w.clients.pending n connect).connects
        all other m e =
            by (eq_by_cmp int_cmp other connect.session)
            (sym (finmap.get-insert int_cmp_total w.clients.pending.connects connect.session n other) ∙ e)
          where
            by : (b : Bool) → cond b (Some n) (finmap.get w.clients.pending.connects other) ≡ Some m → HasNone m w
            by true is = subst (λ (k : ℕ). HasNone k w) (ap (λ (o : Option ℕ). unwrap_or o n) is) none
            by false is = unjoined w.clients a other m is

    -- A connection that has no session, and of which nothing waits, neither has this session nor waits for it.
    other_agrees : (w : World) (session : ℤ) (k : ℕ) → Agreeing w → HasNone n w → is_idle w.clients.pending n ≡ true
        → IsWith session k w → k ≢ n
    other_agrees w session k a none idle (inl has) same =
        true≢false (sym (ap is_some (owner_has w.clients.sessions session k a.sessions has))
        ∙ ap (λ (m : ℕ). is_some (session_of_connection w.clients.sessions m)) same
        ∙ ap (λ (o : Option SessionConnection). is_some (session_in o)) none)
    other_agrees w session k a none idle (inr waits) same =
        let f = a.pending.in_front session k waits in
        true≢false (sym idle ∙ ap (is_idle w.clients.pending) (sym same) ∙ waits_busy w.clients.pending k f.0 f.1.0)

    -- No two connects wait for one session.
    alone_agrees : (w : World) (session : ℤ) (k : ℕ) → Agreeing w → connecting_to w.clients.pending session ≡ Some k
        → connecting_to (drop_connection w.clients.pending k) session ≡ None
    alone_agrees w session k a waits = none_waits_then w.clients.pending session a.pending (Some k) waits

    pub agreeing_ground : IsGround n (Unit {0}) Agreeing
    agreeing_ground = record {
      closes = λ k w a. closed_agrees k w.clients a;
      watches = λ w watch here a.
          watches_agree w (with_watch n w.clients.watches watch)
          (watched_passes (λ m. is_open m w.clients) n (here tt) w.clients.watches watch a.watching) a;
      unwatches = λ w kind path a.
          watches_agree w (without_watch kind n path w.clients.watches)
          (unwatched_passes (λ m. is_open m w.clients) kind n path w.clients.watches a.watching) a;
      shows = λ w id here a. shown_agrees w id (here tt) a;
      touches = touched_agrees;
      opens = λ w k a. opened_agrees n k w.clients a;
      writes = λ w xid kind room here a. written_agrees w xid kind room (here tt) a;
      syncs = λ w xid path room here a. synced_agrees w xid path room (here tt) a;
      holds = λ w frame room busy a. held_agrees w frame room (a.waiting n busy) a;
      counts = counted_agrees;
      gives = λ w session time_out none free here a. given_agrees w session time_out (none tt) free (here tt) a;
      asks = λ w connect none idle free here a. asked_agrees w connect none idle (free tt) (here tt) a;
      others = λ w session k u a none idle with. other_agrees w session k a none idle with;
      alone = λ w session k u a waits. alone_agrees w session k a waits;
    }

    -- ---- answers

    pub taken_agrees : (w : World) → Agreeing w → Agreeing (with_pending w (take_ready w.clients.pending n).after)
    taken_agrees w a =
        let p = w.clients.pending in
        changed_agrees w (take_ready p n).after refl (laws.queued.takes p n a.pending)
        (put_passes (λ m. is_open m w.clients) p (waiters w.clients a) n
        (λ (q : RequestQueue). without_front_if (ready_request q) q) refl) a

    pub answered_agrees : (w : World) (xid txn_kind : ℤ) → Agreeing w
        → Agreeing (with_pending w (answer_write w.clients.pending n xid txn_kind).after)
    answered_agrees w xid txn_kind a =
        let p = w.clients.pending in
        changed_agrees w (answer_write p n xid txn_kind).after refl (laws.queued.answers p n xid txn_kind a.pending)
        (put_passes (λ m. is_open m w.clients) p (waiters w.clients a) n
        (λ (q : RequestQueue). after_answer q xid txn_kind) refl) a

    -- Nothing of the connection waits any more, and it has no session.
    pub unqueued_agrees : (w : World) → Agreeing w → Agreeing (unqueued n w)
    unqueued_agrees w a =
        let p = w.clients.pending in
        let s = w.clients.sessions in
        let v = with_pending w (drop_connection p n) in
        let b =
        pending_agrees w (drop_connection p n) (laws.queued.drops p n a.pending)
        (removed_passes (λ m. is_open m w.clients) p.queues n
        (λ m has. ap (λ b. b || same_connection n m) (waiters w.clients a m has)))
        (unjoined_without s p.connects (waiting_connect (queue_of p n)) (unjoined w.clients a)) a in
        sessions_agree v (close_connection s n) (laws.kept.closes s n a.sessions)
        (one_closed_passes (λ m. is_open m w.clients) s (Some n) a.joined)
        (λ m connect e. closed_none s n m (b.connecting m connect e)) b

  pub settled_agrees : (w : World) → Agreeing w → Agreeing (with_pending w (settle_sync w.clients.pending).after)
  settled_agrees w a =
      let p = w.clients.pending in
      changed_agrees 0 w (settle_sync p).after (same p p.syncs) (laws.queued.settles p a.pending)
      (settled_passes (λ m. is_open m w.clients) p (waiters w.clients a)) a
    where
      same : (p : PendingTable) (syncs : List (Option ℕ)) → (settle_first p syncs).after.connects ≡ p.connects
      same p [] = refl
      same p (None ∷ rest) = refl
      same p (Some n ∷ rest) = refl

  pub told_agrees : (w : World) (timeout_of : ℤ → Option ℤ) → Agreeing w
      → Agreeing (with_pending w (take_touched w.clients.pending timeout_of).after)
  told_agrees w timeout_of a =
      changed_agrees 0 w (take_touched w.clients.pending timeout_of).after refl
      (laws.queued.takes_touched w.clients.pending timeout_of a.pending) (waiters w.clients a) a
