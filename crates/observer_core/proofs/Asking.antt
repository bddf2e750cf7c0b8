-- What a client sends affects no other connection except an older one of its session.
use Rattle.std.proofs.Common.{◌≡◌, ◌⊎◌, inl, inr, ℕ, ◌+◌, ◌^◌, ◌<◌, ◌==◌, ℤ, pos, Bool, true, false, not, ◌&&◌, cond, List, [], ◌∷◌, ◌++◌, length, Option, Some, None, Result, Ok, Err, refl, sym, ap, subst, ◌∙◌, arith}
use Rattle.std.specs.Prelude.{is_some, nat_lt}
use Rattle.std.specs.Option.{unwrap_or}
use Rattle.std.specs.Ordering.{int_eq}
use Rattle.std.proofs.lemmas.Bool.{cond_both}
use Rattle.std.specs.FinMap as finmap
use mathlib.Core.Bool.{true≢false}
use Rattle.values.specs.declared.fault.Fault.{Fault}
use Rattle.jute.specs.Stream.{Items, place_at, items_in}
use Rattle.sessions.specs.Credentials.{session_id_of}
use Rattle.sessions.specs.State.{SessionTable as Sessions}
use Rattle.sessions.specs.Sessions.{session_in, session_of_connection, connection_of, new_connection, greatest_counter, has_password, is_valid, close_if_some, ConnectResult, session_response, refusal_response, refused_connect, give_session}
use Rattle.sessions.specs.Agreement.{SessionsAgree, OtherConnectionsStay, IsNewId, NewIdsAreNew, IsGivenOut}
use Rattle.sessions.specs.declared.request.SessionRequest.{SessionRequest}
use Rattle.settings.specs.Dialects.{reads_of}
use Rattle.sessions.specs.declared.request.SessionResponse.{SessionResponse}
use Rattle.watch_manager.specs.Laws.{OthersKeepWatches}
use Rattle.forwarding.specs.declared.request.PendingConnect.{PendingConnect}
use Rattle.forwarding.specs.declared.request.PendingRequest.TheVariants.{Connect, Held}
use Rattle.forwarding.specs.Queue.{waiting_connect}
use Rattle.forwarding.specs.State.{PendingTable, RequestQueues}
use Rattle.forwarding.specs.Agreement.{PendingAgrees}
use Rattle.forwarding.specs.Pending.{queue_in, queue_of, is_idle, is_full, connecting_to, push_connect, hold_frame, touch_session}
use Rattle.forwarding.specs.Laws.{OtherQueuesStay}
use Rattle.client_frames.specs.declared.connecting.Connecting.{Connecting}
use Rattle.client_frames.specs.Connect.{connecting_in, session_request_of}
use Rattle.four_letter.specs.Texts.{reply_text}
use Rattle.four_letter.specs.declared.word.Word.{Word}
use Rattle.world.specs.World.{OpenConnection, Clients, World}
use Rattle.world.specs.Steps.{StepResult, no_output, and_then, fold_steps}
use Rattle.world.specs.Clients.{is_open, heard_connection, without_client}
use Rattle.world.specs.Sending.{close_client, send_last, with_sessions, close_client_if_some, with_pending}
use Rattle.client_service.specs.Serve.{touched_as, send_connect_response, refuse_connect, ask_for_session, close_others, ask_about_session, claim_session, claim_or_refuse, is_claim, is_new_session, finish_connect, may_connect, is_live, call_of, handle_connect, serve_by, header_len, is_refused_frame, serve_frame, figures_of, word_at, is_unheard, with_waiting_bytes, wait_if_heard, wait_at, frames_of_client, tell_or_serve, take_client_bytes}
use Rattle.observer_core.specs.Apart.{WaitsForSession, HasOrAsks, completed_frames, Claims, IsClaimed, IsSessionOf, IsTakenUp, IsApart}
use Rattle.observer_core.specs.GivenIds.{IsGivenBetween}
use Rattle.observer_core.specs.Play.{is_serving_clients}
use Rattle.world.proofs.NatMaps.{get-inserted}
use Rattle.observer_core.proofs.Passing.{fewer_without}
use Rattle.observer_core.proofs.Walking.{HasNone, given, with_connect, new_connect, claiming, asked_for, first_false, first_true, no_session, none_if_closed, heard_open, send_last_makes}
use Rattle.observer_core.proofs.Sent.{word_shows}
use Rattle.observer_core.proofs.Answered.{closed_has_none}
use Rattle.observer_core.proofs.Plain.{Always, plain_ground}
use Rattle.observer_core.proofs.Agreeing.{owner_has}
use Rattle.observer_core.proofs.Taking.{none_or_some, HasIfOpen, closed_has, greet_has, call_in_has}
use Rattle.observer_core.proofs.Joined.{left_has, only_second}
use Rattle.observer_core.proofs.GivenIds.{IdsGrow, given_later, frames_grow, wait_grows, next_is_new}
use Rattle.observer_core.proofs.Apart.{then_apart, changes, stays_so, close_own, replies_apart, connection_alone, sessions_apart, touch_apart, hold_apart, greet_apart, call_in_apart, left_apart, given_apart, asked_apart, claimed_apart, wait_apart, Nobody, Only, NoSession, Had, wider}

-- What is known of a world before a client's bytes.
abbrev AgreeApart : World → Type 0
AgreeApart w = SessionsAgree w.clients.sessions × PendingAgrees w.clients.pending

-- ---- the states of a client's connection

-- The connection has no session, and a request of it waits.
record IsStuck (n : ℕ) (w : World) : Type 0 where
  none : session_of_connection w.clients.sessions n ≡ None
  busy : is_idle w.clients.pending n ≡ false

-- A connection that waits keeps waiting, if it is open.
record StaysStuck (n : ℕ) (w : World) (h : StepResult World) : Type 0 where
  apart : IsApart n NoSession Nobody w h
  stuck : is_open n h.after.clients ≡ true → IsStuck n h.after

-- A client that has a session keeps it, and closes no other connection.
record IsOwn (n : ℕ) (session : ℤ) (w : World) (h : StepResult World) : Type 0 where
  apart : IsApart n (Only session) Nobody w h
  has : HasIfOpen n session h.after.clients

-- The client has a session of its own, or waits for one, if it is open.
abbrev HasOwn : ℕ → (ℤ → Type 0) → World → Type 0
HasOwn n own w = (session : ℤ) × (own session × HasIfOpen n session w.clients)

abbrev Engaged : ℕ → (ℤ → Type 0) → World → Type 0
Engaged n own w = HasOwn n own w ⊎ (is_open n w.clients ≡ true → IsStuck n w)

-- A step of a client that has no session.
record IsFirst (n : ℕ) (own : ℤ → Type 0) (left : ℕ → Type 0) (w : World) (h : StepResult World) : Type 0 where
  apart : IsApart n own left w h
  engaged : Engaged n own h.after

-- The session is a new one, or one that the frame claims.
abbrev IsAskedBy : Bool → World → List ℕ → Clients → ℤ → Type 0
IsAskedBy serving w frame after session = IsGivenBetween w.clients after session ⊎ Claims serving w frame session

-- The connection had a session that the frame claims, or waited for it.
record IsDisplaced (serving : Bool) (w : World) (frame : List ℕ) (k : ℕ) : Type 0 where
  session : ℤ
  had : HasOrAsks k w.clients session
  claims : Claims serving w frame session

-- The first of the frames claims the session.
record FirstClaims (serving : Bool) (w : World) (fs : List (List ℕ)) (session : ℤ) : Type 0 where
  frame : List ℕ
  others : List (List ℕ)
  first : fs ≡ frame ∷ others
  claims : Claims serving w frame session

-- The session that the client had, or that the first of its frames asks for.
abbrev IsOfFrames : Bool → ℕ → World → List (List ℕ) → Clients → ℤ → Type 0
IsOfFrames serving n w fs after session =
    (session_of_connection w.clients.sessions n ≡ Some session)
    ⊎ ((session_of_connection w.clients.sessions n ≡ None)
    × (IsGivenBetween w.clients after session ⊎ FirstClaims serving w fs session))

record IsLeft (serving : Bool) (n : ℕ) (w : World) (fs : List (List ℕ)) (k : ℕ) : Type 0 where
  session : ℤ
  had : HasOrAsks k w.clients session
  none : session_of_connection w.clients.sessions n ≡ None
  claims : FirstClaims serving w fs session

second_true : (a b : Bool) → (a && b) ≡ true → b ≡ true
second_true true b e = e
second_true false b e = absurd (true≢false (sym e))

not_so : (b : Bool) → not b ≡ true → b ≡ false
not_so true e = sym e
not_so false e = refl

never_new : (b : Bool) → (b && false) ≡ false
never_new true = refl
never_new false = refl

-- The connections that have a session, and what waits of each, are the same.
had_before : (w v : World) (session : ℤ) → v.clients.sessions.connections ≡ w.clients.sessions.connections
    → v.clients.pending.queues ≡ w.clients.pending.queues → (k : ℕ) → Had v session k → Had w session k
had_before w v session same waiting k (inl has) = inl (ap (λ m. session_in (finmap.get m k)) (sym same) ∙ has)
had_before w v session same waiting k (inr asks) = inr (record {
  connect = asks.connect;
  waits = ap (λ (m : RequestQueues). waiting_connect (queue_in (finmap.get m k))) (sym waiting) ∙ asks.waits;
  same = asks.same;
})

-- A connect that waits after another connection closed waited before.
fewer_if_closed : (w : World) (o : Option ℕ) (session : ℤ) (k : ℕ)
    → connecting_to (close_client_if_some w o).after.clients.pending session ≡ Some k
    → connecting_to w.clients.pending session ≡ Some k
fewer_if_closed w None session k e = e
fewer_if_closed w (Some m) session k e =
    fewer_without w.clients.pending.connects (waiting_connect (queue_of w.clients.pending m)) session k e

-- The counter isn't the greatest, so there is a next one.
has_next : (k : ℕ) → k < 2 ^ 56 → (k == greatest_counter) ≡ false → k + 1 < 2 ^ 56
has_next k below other = room k below (λ (is : k ≡ greatest_counter).
    true≢false (sym (ap (λ (j : ℕ). j == greatest_counter) is) ∙ other))
  where
    room : (k : ℕ) → k < 2 ^ 56 → (k ≡ greatest_counter → ⊥) → k + 1 < 2 ^ 56
    room k below other = grind arith

module _ (stay : OtherConnectionsStay) (keep_watches : OthersKeepWatches) (queues : OtherQueuesStay)
    (new : NewIdsAreNew) (serving : Bool) (n : ℕ) where
  closes_own : (own : ℤ → Type 0) (left : ℕ → Type 0) (w : World) → IsApart n own left w (close_client n w)
  closes_own own left w = close_own own left stay keep_watches queues n w

  closed_not : (w : World) {X : Type 0} → is_open n (close_client n w).after.clients ≡ true → X
  closed_not w here = absurd (none_or_some (pos 0) (sym (ap session_in no) ∙ has))
    where
      has : session_of_connection (close_client n w).after.clients.sessions n ≡ Some (pos 0)
      has = closed_has n (pos 0) w.clients here

      no : finmap.get (close_client n w).after.clients.sessions.connections n ≡ None
      no = closed_has_none w.clients.sessions n

  -- ---- frames of a connection that has a session

  own_by : (session : ℤ) (w : World) (frame : List ℕ) (o : Option ℤ) → o ≡ Some session
      → session_of_connection w.clients.sessions n ≡ Some session → is_full w.clients.pending n ≡ false
      → IsOwn n session w (serve_by serving n w frame o)
  own_by session w frame None e has room = absurd (none_or_some session e)
  own_by session w frame (Some own) e has room = record {
    apart = call_in_apart (Only session) Nobody stay keep_watches queues n own w frame (call_of w frame) room
        (ap (λ (o : Option ℤ). unwrap_or o own) e);
    has = call_in_has n session own w frame (call_of w frame) room (λ _. has);
  }

  own_touched : (session : ℤ) (w : World) (frame : List ℕ) → session_of_connection w.clients.sessions n ≡ Some session
      → IsOwn n session w (cond (is_refused_frame n w frame) (close_client n w)
      (serve_by serving n w frame (session_of_connection w.clients.sessions n)))
  own_touched session w frame has =
      cond_both (is_refused_frame n w frame) _ _ (IsOwn n session w)
      (λ _. record { apart = closes_own (Only session) Nobody w; has = closed_has n session w.clients })
      (λ taken. own_by session w frame (session_of_connection w.clients.sessions n) has has
      (first_false (is_full w.clients.pending n) (nat_lt (length frame) header_len) taken))

  serve_own : (session : ℤ) (w : World) (frame : List ℕ) → session_of_connection w.clients.sessions n ≡ Some session
      → IsOwn n session w (serve_frame serving n w frame)
  serve_own session w frame has = by (session_of_connection w.clients.sessions n) has
    where
      by : (o : Option ℤ) → o ≡ Some session → let v = touched_as w o in
          IsOwn n session w (cond (is_refused_frame n v frame) (close_client n v)
          (serve_by serving n v frame (session_of_connection v.clients.sessions n)))
      by None e = own_touched session w frame has
      by (Some touched) e =
          let v = with_pending w (touch_session w.clients.pending touched) in
          let served = own_touched session v frame has in
          record {
            apart = then_apart (Only session) Nobody n w (no_output v)
                (λ u. cond (is_refused_frame n u frame) (close_client n u)
                (serve_by serving n u frame (session_of_connection u.clients.sessions n)))
                (touch_apart (Only session) Nobody stay keep_watches queues n w touched
                (ap (λ (o : Option ℤ). unwrap_or o touched) e)) served.apart;
            has = served.has;
          }

  all_own : (session : ℤ) (w : World) (fs : List (List ℕ)) → HasIfOpen n session w.clients
      → IsOwn n session w (fold_steps (is_unheard n) (serve_frame serving n) w fs)
  all_own session w [] has = record { apart = stays_so (Only session) Nobody n w; has = has }
  all_own session w (f ∷ fs) has =
      cond_both (is_unheard n w) _ _ (IsOwn n session w)
      (λ _. record { apart = stays_so (Only session) Nobody n w; has = has })
      (λ heard.
      let first = serve_own session w f (has (heard_open n w heard)) in
      let rest = all_own session (serve_frame serving n w f).after fs first.has in
      record {
        apart = then_apart (Only session) Nobody n w (serve_frame serving n w f)
            (λ v. fold_steps (is_unheard n) (serve_frame serving n) v fs) first.apart rest.apart;
        has = rest.has;
      })

  -- ---- frames of a connection that waits for a session

  stuck_by : (w : World) (frame : List ℕ) (o : Option ℤ) → o ≡ None → IsStuck n w
      → StaysStuck n w (serve_by serving n w frame o)
  stuck_by w frame (Some session) e s = absurd (none_or_some session (sym e))
  stuck_by w frame None e s =
      cond_both (is_idle w.clients.pending n) _ _ (StaysStuck n w)
      (λ idle. absurd (true≢false (sym idle ∙ s.busy)))
      (λ busy. record {
        apart = hold_apart NoSession Nobody stay keep_watches queues n w frame;
        stuck = λ here. record { none = s.none; busy = ap (λ o. not (is_some o)) held };
      })
    where
      held : finmap.get (hold_frame w.clients.pending n frame).queues n
          ≡ Some (queue_of w.clients.pending n ++ Held frame ∷ [])
      held = get-inserted w.clients.pending.queues n (queue_of w.clients.pending n ++ Held frame ∷ [])

  serve_stuck : (w : World) (frame : List ℕ) → IsStuck n w → StaysStuck n w (serve_frame serving n w frame)
  serve_stuck w frame s = by (session_of_connection w.clients.sessions n) s.none
    where
      by : (o : Option ℤ) → o ≡ None → let v = touched_as w o in
          StaysStuck n w (cond (is_refused_frame n v frame) (close_client n v)
          (serve_by serving n v frame (session_of_connection v.clients.sessions n)))
      by (Some session) e = absurd (none_or_some session (sym e))
      by None e =
          cond_both (is_refused_frame n w frame) _ _ (StaysStuck n w)
          (λ _. record { apart = closes_own NoSession Nobody w; stuck = λ here. closed_not w here })
          (λ _. stuck_by w frame (session_of_connection w.clients.sessions n) s.none s)

  all_stuck : (w : World) (fs : List (List ℕ)) → (is_open n w.clients ≡ true → IsStuck n w)
      → StaysStuck n w (fold_steps (is_unheard n) (serve_frame serving n) w fs)
  all_stuck w [] s = record { apart = stays_so NoSession Nobody n w; stuck = s }
  all_stuck w (f ∷ fs) s =
      cond_both (is_unheard n w) _ _ (StaysStuck n w)
      (λ _. record { apart = stays_so NoSession Nobody n w; stuck = s })
      (λ heard.
      let first = serve_stuck w f (s (heard_open n w heard)) in
      let rest = all_stuck (serve_frame serving n w f).after fs first.stuck in
      record {
        apart = then_apart NoSession Nobody n w (serve_frame serving n w f)
            (λ v. fold_steps (is_unheard n) (serve_frame serving n) v fs) first.apart rest.apart;
        stuck = rest.stuck;
      })

  -- ---- a frame of a connection that has no session and waits for nothing

  module _ (left : ℕ → Type 0) where
    close_first : (own : ℤ → Type 0) (w : World) → IsFirst n own left w (close_client n w)
    close_first own w = record { apart = closes_own own left w; engaged = inr (λ here. closed_not w here) }

    -- A refusal closes the connection.
    refuse_first : (own : ℤ → Type 0) (w : World) (has_byte : Bool) (response : SessionResponse)
        → int_eq response.session_id (pos 0) ≡ true
        → IsFirst n own left w (send_connect_response n has_byte response w)
    refuse_first own w has_byte response zero = record {
      apart = greet_apart own left stay keep_watches queues n has_byte response w;
      engaged = inr (cond_both (int_eq response.session_id (pos 0)) _ _
          (λ (h : StepResult World). is_open n h.after.clients ≡ true → IsStuck n h.after)
          (λ _ here. closed_not w here) (λ other. absurd (true≢false (sym zero ∙ other))));
    }

    -- The world changed first.
    after_first : (own : ℤ → Type 0) (w v : World) (h : StepResult World) → IsApart n own left w (no_output v)
        → IsFirst n own left v h → IsFirst n own left w h
    after_first own w v h changed first = record {
      apart = then_apart own left n w (no_output v) (λ u. h) changed first.apart;
      engaged = first.engaged;
    }

    -- The step leaves a connect of the client in front, which was idle and had no session.
    waits_first : (own : ℤ → Type 0) (w : World) (h : StepResult World) (u : World) (connect : PendingConnect)
        → session_of_connection u.clients.sessions n ≡ None → h.after ≡ with_connect n u connect
        → IsApart n own left w h → IsFirst n own left w h
    waits_first own w h u connect none is apart = record {
      apart = apart;
      engaged = inr (λ here.
          subst (IsStuck n) (sym is) (record { none = none; busy = ap (λ o. not (is_some o)) pushed }));
    }
      where
        p : PendingTable
        p = u.clients.pending

        pushed : finmap.get (push_connect p n connect).queues n ≡ Some (queue_of p n ++ Connect connect ∷ [])
        pushed = get-inserted p.queues n (queue_of p n ++ Connect connect ∷ [])

    -- The client takes up a session that lives.
    greet_first : (own : ℤ → Type 0) (w : World) (session time_out : ℤ) (has_byte : Bool) (response : SessionResponse)
        → SessionsAgree w.clients.sessions → own session → ((k : ℕ) → Had w session k → left k)
        → IsFirst n own left w (and_then (given n w session time_out) (send_connect_response n has_byte response))
    greet_first own w session time_out has_byte response agree mine may =
        let got = given n w session time_out in
        record {
          apart = then_apart own left n w got (send_connect_response n has_byte response)
              (given_apart own left stay keep_watches queues n w session time_out
              (λ j older. may j (inl (owner_has w.clients.sessions session j agree older))))
              (greet_apart own left stay keep_watches queues n has_byte response got.after);
          engaged = inl (
            session,
            (
              mine,
              greet_has n session has_byte response got.after
                  (λ _. left_has n session (with_sessions w x.after) x.connected.older
                  (ap session_in (get-inserted (close_if_some w.clients.sessions x.connected.older).connections n
                  (new_connection session x.connected.response.time_out)))),
            ),
          );
        }
      where
        x : ConnectResult
        x = give_session w.clients.sessions n session time_out

    given_first : (own : ℤ → Type 0) (w : World) (asked : Connecting) (session time_out : ℤ)
        → SessionsAgree w.clients.sessions → int_eq asked.request.session_id (pos 0) ≡ false → own session
        → ((k : ℕ) → Had w session k → left k)
        → IsFirst n own left w (finish_connect n w asked (give_session w.clients.sessions n session time_out))
    given_first own w asked session time_out agree other mine may =
        cond_both (is_new_session asked.request x.connected.response) _ _ (IsFirst n own left w)
        (λ new. absurd (true≢false (sym (first_true (int_eq asked.request.session_id (pos 0)) _ new) ∙ other)))
        (λ _. by (session_of_connection x.after n) has)
      where
        x : ConnectResult
        x = give_session w.clients.sessions n session time_out

        has : session_of_connection x.after n ≡ Some session
        has = ap session_in (get-inserted (close_if_some w.clients.sessions x.connected.older).connections n
            (new_connection session x.connected.response.time_out))

        greet : World → StepResult World
        greet = send_connect_response n asked.has_byte x.connected.response

        by : (o : Option ℤ) → o ≡ Some session → IsFirst n own left w
            (and_then (close_client_if_some (touched_as (with_sessions w x.after) o) x.connected.older) greet)
        by None e = absurd (none_or_some session e)
        by (Some touched) e =
            let v = with_pending w (touch_session w.clients.pending touched) in
            after_first own w v (and_then (given n v session time_out) greet)
            (touch_apart own left stay keep_watches queues n w touched
            (subst own (sym (ap (λ (o : Option ℤ). unwrap_or o touched) e)) mine))
            (greet_first own v session time_out asked.has_byte x.connected.response agree mine
            (λ k had. may k (had_before w v session refl refl k had)))

    -- The leader is asked about a session that the client claims, once the others that have it or wait for it are closed.
    claim_first : (own : ℤ → Type 0) (w : World) (has_byte : Bool) (response : SessionResponse) → AgreeApart w
        → session_of_connection w.clients.sessions n ≡ None → own response.session_id
        → ((k : ℕ) → Had w response.session_id k → left k)
        → IsFirst n own left w (claim_session n has_byte w response)
    claim_first own w has_byte response agree none mine may =
        waits_first own w (claim_session n has_byte w response) u (claiming session response.time_out has_byte) none_then
        refl
        (then_apart own left n w (close_others session w) (ask_about_session n has_byte response)
        (then_apart own left n w (close_client_if_some w holder)
        (λ x. close_client_if_some x (connecting_to x.clients.pending session))
        (left_apart own left stay keep_watches queues n w holder
        (λ k e. may k (inl (owner_has w.clients.sessions session k agree.0 e))))
        (left_apart own left stay keep_watches queues n v waiter
        (λ k e. may k (inr (waited_before k (fewer_if_closed w holder session k e))))))
        (claimed_apart own left stay keep_watches queues n u has_byte response mine))
      where
        session : ℤ
        session = response.session_id

        holder : Option ℕ
        holder = connection_of w.clients.sessions session

        v : World
        v = (close_client_if_some w holder).after

        waiter : Option ℕ
        waiter = connecting_to v.clients.pending session

        u : World
        u = (close_client_if_some v waiter).after

        has_none : HasNone n w
        has_none = no_session (finmap.get w.clients.sessions.connections n) none

        none_then : session_of_connection u.clients.sessions n ≡ None
        none_then = ap session_in (none_if_closed n v waiter (none_if_closed n w holder has_none))

        waited_before : (k : ℕ) → connecting_to w.clients.pending session ≡ Some k → WaitsForSession k w.clients session
        waited_before k e =
            let f = agree.1.in_front session k e in record { connect = f.0; waits = f.1.0; same = f.1.1 }

    -- The sessions that are the client's own, once the clients are these.
    module _ (own : Clients → ℤ → Type 0) where
      abbrev MeetsFirst : World → StepResult World → Type 0
      MeetsFirst w h = IsFirst n (own h.after.clients) left w h

      ask_first : (w : World) (has_byte : Bool) (response : SessionResponse)
          → session_of_connection w.clients.sessions n ≡ None
          → ((c : Clients) → c.sessions ≡ w.clients.sessions → own c response.session_id)
          → MeetsFirst w (ask_for_session n has_byte w response)
      ask_first w has_byte response none mine =
          cond_both (is_some (connecting_to w.clients.pending response.session_id)) _ _ (MeetsFirst w)
          (λ _. refuse_first (own (refuse_connect n has_byte w).after.clients) w has_byte refusal_response refl)
          (λ _. waits_first (own asked.after.clients) w asked w
          (new_connect response.session_id response.time_out has_byte) none refl
          (asked_apart (own asked.after.clients) left stay keep_watches queues n w response.session_id response.time_out
          has_byte (mine asked.after.clients refl)))
        where
          asked : StepResult World
          asked = asked_for n w response.session_id response.time_out has_byte

      -- The client is named a session, or refused.
      named_first : (w : World) (asked : Connecting) (response : SessionResponse) (s : Sessions)
          → s.connections ≡ w.clients.sessions.connections → session_of_connection w.clients.sessions n ≡ None
          → (is_new_session asked.request response ≡ false → int_eq response.session_id (pos 0) ≡ true)
          → (is_new_session asked.request response ≡ true → (c : Clients) → c.sessions ≡ s → own c response.session_id)
          → MeetsFirst w (finish_connect n w asked
          (record { connected = record { response = response; older = None }; after = s }))
      named_first w asked response s same none refused mine =
          cond_both (is_new_session asked.request response) _ _ (MeetsFirst w)
          (λ is_new. after_first (own (ask_for_session n asked.has_byte v response).after.clients) w v
          (ask_for_session n asked.has_byte v response)
          (named (own (ask_for_session n asked.has_byte v response).after.clients))
          (ask_first v asked.has_byte response none_yet (mine is_new)))
          (λ old. told old (session_of_connection s n) none_yet)
        where
          v : World
          v = with_sessions w s

          none_yet : session_of_connection s n ≡ None
          none_yet = ap (λ m. session_in (finmap.get m n)) same ∙ none

          named : (own : ℤ → Type 0) → IsApart n own left w (no_output v)
          named own =
              sessions_apart own left stay keep_watches queues n w s (λ k other. ap (λ m. finmap.get m k) same)

          told : is_new_session asked.request response ≡ false → (o : Option ℤ) → o ≡ None
              → MeetsFirst w (send_connect_response n asked.has_byte response (touched_as v o))
          told old (Some session) e = absurd (none_or_some session (sym e))
          told old None e =
              let h = send_connect_response n asked.has_byte response v in
              after_first (own h.after.clients) w v h (named (own h.after.clients))
              (refuse_first (own h.after.clients) v asked.has_byte response (refused old))

      refused_first : (w : World) (asked : Connecting) → session_of_connection w.clients.sessions n ≡ None
          → MeetsFirst w (finish_connect n w asked (refused_connect w.clients.sessions))
      refused_first w asked none =
          named_first w asked refusal_response w.clients.sessions refl none (λ old. refl)
          (λ is_new. absurd (true≢false (sym is_new ∙ never_new (int_eq asked.request.session_id (pos 0)))))

  -- ---- the first frame

  abbrev AsksFirst : World → List ℕ → StepResult World → Type 0
  AsksFirst w frame h = IsFirst n (IsAskedBy serving w frame h.after.clients) (IsDisplaced serving w frame) w h

  -- The id of the next counter is new.
  next_given : (s : Sessions) → SessionsAgree s → (s.counter == greatest_counter) ≡ false → (before after : Clients)
      → before.sessions ≡ s → after.sessions ≡ record s { counter = s.counter + 1 }
      → IsGivenBetween before after (session_id_of s.terms.server_id (s.counter + 1))
  next_given s agree below before after was is = (
    subst (λ (t : Sessions). IsNewId t named) (sym was)
        (next_is_new new s agree.server_id (has_next s.counter agree.counter below)),
    subst (λ (t : Sessions). IsGivenOut t.terms.server_id t.counter named) (sym is)
        (record { own = s.counter + 1; first = omega arith; last = omega arith; is = refl }),
  )
    where
      named : ℤ
      named = session_id_of s.terms.server_id (s.counter + 1)

  connect_first : (w : World) (frame : List ℕ) (c : Result Connecting Fault) → connecting_in frame ≡ c → AgreeApart w
      → session_of_connection w.clients.sessions n ≡ None → AsksFirst w frame (handle_connect serving n w c)
  connect_first w frame (Err e) reads agree none =
      close_first (IsDisplaced serving w frame) (IsAskedBy serving w frame (close_client n w).after.clients) w
  connect_first w frame (Ok asked) reads agree none =
      cond_both (may_connect serving w asked.request) _ _ Meets
      (λ may. cond_both (is_claim w asked.request) _ _ Meets
      (λ claim. cond_both (has_password s request) _ _ (λ o. Meets (claim_or_refuse n asked.has_byte w o))
      (λ password. by_claim (claims may
      (not_so (int_eq session (pos 0)) (second_true (reads_of w.settings.dialect).moved_sessions _ claim)) password
      (λ stay. absurd (true≢false (sym (first_true (reads_of w.settings.dialect).moved_sessions _ claim) ∙ stay)))))
      (λ _. refuse_first displaced (own (refuse_connect n asked.has_byte w)) w asked.has_byte refusal_response refl))
      (λ _. cond_both (int_eq session (pos 0)) _ _ Finishes
      (λ zero. cond_both (s.counter == greatest_counter) _ _ Finishes (λ _. refused)
      (λ below. named_first displaced (IsAskedBy serving w frame) w asked named (record s { counter = s.counter + 1 }) refl
      none (λ old. only_second (int_eq session (pos 0)) (int_eq named.session_id (pos 0)) zero old)
      (λ is_new after is. inl (next_given s agree.0 below w.clients after refl is))))
      (λ other. cond_both (is_valid s (is_live session w) request) _ _ Finishes
      (λ valid. by_given other (claims may other (second_true (is_live session w) _ valid)
      (λ _. first_true (is_live session w) _ valid)))
      (λ _. refused))))
      (λ _. close_first displaced (own (close_client n w)) w)
    where
      s : Sessions
      s = w.clients.sessions

      session : ℤ
      session = asked.request.session_id

      request : SessionRequest
      request = session_request_of asked.request

      named : SessionResponse
      named = session_response s.terms (session_id_of s.terms.server_id (s.counter + 1)) asked.request.time_out

      displaced : ℕ → Type 0
      displaced = IsDisplaced serving w frame

      own : StepResult World → ℤ → Type 0
      own h = IsAskedBy serving w frame h.after.clients

      Meets : StepResult World → Type 0
      Meets h = AsksFirst w frame h

      Finishes : ConnectResult → Type 0
      Finishes x = Meets (finish_connect n w asked x)

      refused : Meets (finish_connect n w asked (refused_connect s))
      refused = refused_first displaced (IsAskedBy serving w frame) w asked none

      claims : may_connect serving w asked.request ≡ true → int_eq session (pos 0) ≡ false
          → has_password s request ≡ true
          → ((reads_of w.settings.dialect).moved_sessions ≡ false → is_live session w ≡ true)
          → Claims serving w frame session
      claims may nonzero password lives = record {
        connect = asked;
        reads = reads;
        may = may;
        names = refl;
        nonzero = nonzero;
        password = password;
        lives = lives;
      }

      by_claim : Claims serving w frame session
          → Meets (claim_session n asked.has_byte w (session_response s.terms session asked.request.time_out))
      by_claim claimed =
          let response = session_response s.terms session asked.request.time_out in
          claim_first displaced (own (claim_session n asked.has_byte w response)) w asked.has_byte response agree none
          (inr claimed) (λ k had. record { session = session; had = had; claims = claimed })

      by_given : int_eq session (pos 0) ≡ false → Claims serving w frame session
          → Finishes (give_session s n session asked.request.time_out)
      by_given other claimed =
          let x = give_session s n session asked.request.time_out in
          given_first displaced (own (finish_connect n w asked x)) w asked session asked.request.time_out agree.0 other
          (inr claimed) (λ k had. record { session = session; had = had; claims = claimed })

  serve_first : (w : World) (frame : List ℕ) → AgreeApart w → session_of_connection w.clients.sessions n ≡ None
      → is_idle w.clients.pending n ≡ true → AsksFirst w frame (serve_frame serving n w frame)
  serve_first w frame agree none idle = by (session_of_connection w.clients.sessions n) none
    where
      served : (o : Option ℤ) → o ≡ None → AsksFirst w frame (serve_by serving n w frame o)
      served (Some session) e = absurd (none_or_some session (sym e))
      served None e =
          cond_both (is_idle w.clients.pending n) _ _ (AsksFirst w frame)
          (λ _. connect_first w frame (connecting_in frame) refl agree none)
          (λ busy. absurd (true≢false (sym idle ∙ busy)))

      by : (o : Option ℤ) → o ≡ None → let v = touched_as w o in
          AsksFirst w frame (cond (is_refused_frame n v frame) (close_client n v)
          (serve_by serving n v frame (session_of_connection v.clients.sessions n)))
      by (Some session) e = absurd (none_or_some session (sym e))
      by None e =
          cond_both (is_refused_frame n w frame) _ _ (AsksFirst w frame)
          (λ _. close_first (IsDisplaced serving w frame) (IsAskedBy serving w frame (close_client n w).after.clients) w)
          (λ _. served (session_of_connection w.clients.sessions n) none)

  -- ---- all frames

  abbrev TakesUp : World → List (List ℕ) → StepResult World → Type 0
  TakesUp w fs h = IsApart n (IsOfFrames serving n w fs h.after.clients) (IsLeft serving n w fs) w h

  nothing_apart : (w : World) (fs : List (List ℕ)) → TakesUp w fs (no_output w)
  nothing_apart w fs = stays_so (IsOfFrames serving n w fs w.clients) (IsLeft serving n w fs) n w

  -- The first frame asked for a session, and the others are served then.
  first_apart : (w : World) (f : List ℕ) (h : StepResult World) (fs : List (List ℕ))
      → session_of_connection w.clients.sessions n ≡ None → AsksFirst w f h
      → TakesUp w (f ∷ fs) (and_then h (λ v. fold_steps (is_unheard n) (serve_frame serving n) v fs))
  first_apart w f h fs none first =
      then_apart own left n w h others
      (wider n (IsAskedBy serving w f h.after.clients) own (IsDisplaced serving w f) left w h asked displaced first.apart)
      (by first.engaged)
    where
      others : World → StepResult World
      others v = fold_steps (is_unheard n) (serve_frame serving n) v fs

      all : StepResult World
      all = others h.after

      own : ℤ → Type 0
      own = IsOfFrames serving n w (f ∷ fs) all.after.clients

      left : ℕ → Type 0
      left = IsLeft serving n w (f ∷ fs)

      claimed : (session : ℤ) → Claims serving w f session → FirstClaims serving w (f ∷ fs) session
      claimed session claims = record { frame = f; others = fs; first = refl; claims = claims }

      asked : (session : ℤ) → IsAskedBy serving w f h.after.clients session → own session
      asked session (inl given) =
          let later = frames_grow serving n h.after fs in
          inr (none, inl (given.0, given_later h.after.clients all.after.clients session later.terms later.counter given.1))
      asked session (inr claims) = inr (none, inr (claimed session claims))

      displaced : (k : ℕ) → IsDisplaced serving w f k → left k
      displaced k d = record { session = d.session; had = d.had; none = none; claims = claimed d.session d.claims }

      by : Engaged n (IsAskedBy serving w f h.after.clients) h.after → IsApart n own left h.after all
      by (inl has) =
          wider n (Only has.0) own Nobody left h.after all (λ s is. subst own (sym is) (asked has.0 has.1.0))
          (λ k may. absurd may) (all_own has.0 h.after fs has.1.1).apart
      by (inr stuck) =
          wider n NoSession own Nobody left h.after all (λ s mine. absurd mine) (λ k may. absurd may)
          (all_stuck h.after fs stuck).apart

  frames_apart : (w : World) (fs : List (List ℕ)) → AgreeApart w
      → TakesUp w fs (fold_steps (is_unheard n) (serve_frame serving n) w fs)
  frames_apart w [] agree = nothing_apart w []
  frames_apart w (f ∷ fs) agree =
      by (session_of_connection w.clients.sessions n) refl (is_idle w.clients.pending n) refl
    where
      all : StepResult World
      all = fold_steps (is_unheard n) (serve_frame serving n) w (f ∷ fs)

      own : ℤ → Type 0
      own = IsOfFrames serving n w (f ∷ fs) all.after.clients

      left : ℕ → Type 0
      left = IsLeft serving n w (f ∷ fs)

      by : (o : Option ℤ) → session_of_connection w.clients.sessions n ≡ o → (b : Bool)
          → is_idle w.clients.pending n ≡ b → TakesUp w (f ∷ fs) all
      by (Some session) has b e =
          wider n (Only session) own Nobody left w all (λ s is. inl (has ∙ ap (λ (x : ℤ). Some x) (sym is)))
          (λ k may. absurd may) (all_own session w (f ∷ fs) (λ _. has)).apart
      by None none false busy =
          wider n NoSession own Nobody left w all (λ s mine. absurd mine) (λ k may. absurd may)
          (all_stuck w (f ∷ fs) (λ _. record { none = none; busy = busy })).apart
      by None none true idle =
          cond_both (is_unheard n w) _ _ (TakesUp w (f ∷ fs)) (λ _. nothing_apart w (f ∷ fs))
          (λ _. first_apart w f (serve_frame serving n w f) fs none (serve_first w f agree none idle))

  -- ---- bytes

  -- What the frames claim they claim also before the waiting bytes are taken out of the connection.
  claimed_before : (w : World) (c : OpenConnection) (fs : List (List ℕ)) (session : ℤ)
      → FirstClaims serving (with_waiting_bytes n w c []) fs session → FirstClaims serving w fs session
  claimed_before w c fs session first =
      let claims = first.claims in
      record {
        frame = first.frame;
        others = first.others;
        first = first.first;
        claims = record {
          connect = claims.connect;
          reads = claims.reads;
          may = claims.may;
          names = claims.names;
          nonzero = claims.nonzero;
          password = claims.password;
          lives = claims.lives;
        };
      }

  waited_apart : (w : World) (o : Option OpenConnection) (bytes : List ℕ) → AgreeApart w
      → TakesUp w (completed_frames o bytes) (take_client_bytes serving n w o bytes)
  waited_apart w None bytes agree = nothing_apart w []
  waited_apart w (Some c) bytes agree = by (word_at n w came)
    where
      came : List ℕ
      came = c.rest ++ bytes

      v : World
      v = with_waiting_bytes n w c []

      found : Items (Unit {0}) (List ℕ)
      found = items_in frames_of_client (place_at tt came)

      left : ℕ → Type 0
      left = IsLeft serving n w found.found

      -- The connection's waiting bytes are taken out of it first.
      at_hand : (own : ℤ → Type 0) → IsApart n own left w (no_output v)
      at_hand own = changes own left n w v.clients refl (connection_alone n w (record c { rest = [] }))

      was_left : (k : ℕ) → IsLeft serving n v found.found k → left k
      was_left k l = record {
        session = l.session;
        had = had_before w v l.session refl refl k l.had;
        none = l.none;
        claims = claimed_before w c found.found l.session l.claims;
      }

      was_own : (u x : World) → IdsGrow u x → (session : ℤ) → IsOfFrames serving n v found.found u.clients session
          → IsOfFrames serving n w found.found x.clients session
      was_own u x grows session (inl had) = inl had
      was_own u x grows session (inr (none, inl given)) =
          inr (none, inl (given.0, given_later u.clients x.clients session grows.terms grows.counter given.1))
      was_own u x grows session (inr (none, inr claims)) =
          inr (none, inr (claimed_before w c found.found session claims))

      by : (o : Option Word) → TakesUp w found.found (tell_or_serve serving n v came o)
      by None =
          let h = fold_steps (is_unheard n) (serve_frame serving n) v found.found in
          let there = heard_connection n h.after.clients in
          let last = (wait_if_heard n h.after there found.left.unread).after in
          let own = IsOfFrames serving n w found.found last.clients in
          then_apart own left n w (no_output v)
          (λ u. and_then (fold_steps (is_unheard n) (serve_frame serving n) u found.found)
          (wait_at n found.left.unread))
          (at_hand own)
          (then_apart own left n v h (wait_at n found.left.unread)
          (wider n (IsOfFrames serving n v found.found h.after.clients) own (IsLeft serving n v found.found) left v h
          (was_own h.after last (wait_grows n h.after there found.left.unread)) was_left
          (frames_apart v found.found agree))
          (wait_apart own left stay keep_watches queues n h.after there found.left.unread))
      by (Some word) =
          let figures = figures_of serving v in
          let frame = Some (reply_text word figures) in
          let own = IsOfFrames serving n w found.found (without_client n v.clients) in
          then_apart own left n w (no_output v) (λ u. send_last n u frame) (at_hand own)
          (send_last_makes n ⊥ Always (IsApart n own left) (plain_ground n)
          (replies_apart own left stay keep_watches queues n) v frame (word_shows v word figures) tt).is

module _ (stay : OtherConnectionsStay) (keep_watches : OthersKeepWatches) (queues : OtherQueuesStay)
    (new : NewIdsAreNew) (n : ℕ) (w : World) (bytes : List ℕ) where
  abbrev frames : List (List ℕ)
  frames = completed_frames (heard_connection n w.clients) bytes

  claimed_is : (session : ℤ) → FirstClaims (is_serving_clients w) w frames session → IsClaimed n w bytes session
  claimed_is session first =
      record { frame = first.frame; others = first.others; first = first.first; claims = first.claims }

  pub bytes_apart : AgreeApart w
      → let h = take_client_bytes (is_serving_clients w) n w (heard_connection n w.clients) bytes in
      IsApart n (IsSessionOf n w bytes h.after.clients) (IsTakenUp n w bytes) w h
  bytes_apart agree =
      wider n (IsOfFrames (is_serving_clients w) n w frames h.after.clients) (IsSessionOf n w bytes h.after.clients)
      (IsLeft (is_serving_clients w) n w frames) (IsTakenUp n w bytes) w h own left
      (waited_apart stay keep_watches queues new (is_serving_clients w) n w (heard_connection n w.clients) bytes agree)
    where
      h : StepResult World
      h = take_client_bytes (is_serving_clients w) n w (heard_connection n w.clients) bytes

      own : (session : ℤ) → IsOfFrames (is_serving_clients w) n w frames h.after.clients session
          → IsSessionOf n w bytes h.after.clients session
      own session (inl had) = inl had
      own session (inr (none, inl given)) = inr (none, inl given)
      own session (inr (none, inr claims)) = inr (none, inr (claimed_is session claims))

      left : (k : ℕ) → IsLeft (is_serving_clients w) n w frames k → IsTakenUp n w bytes k
      left k l =
          record { session = l.session; had = l.had; none = l.none; claimed = claimed_is l.session l.claims }
