-- A connection whose frame was served has a session, waits for one, or is closed: then it says no word.
use Rattle.std.proofs.Common.{◌≡◌, ◌⊎◌, inl, inr, ℕ, ◌+◌, ◌==◌, ℤ, pos, Bool, true, false, cond, not, ◌&&◌, List, [], ◌∷◌, ◌++◌, length, take, Option, Some, None, Result, Ok, Err, refl, sym, ap, ◌∙◌}
use Rattle.std.specs.Prelude.{is_some, nat_lt}
use Rattle.std.specs.Ordering.{eq_by_cmp, nat_cmp, int_eq}
use Rattle.std.specs.Cmp.{nat_cmp_total}
use Rattle.std.proofs.lemmas.Bool.{cond_both}
use Rattle.std.specs.FinMap as finmap
use mathlib.Core.Bool.{true≢false}
use Rattle.values.specs.declared.fault.Fault.{Fault}
use Rattle.four_letter.specs.Words.{word_of}
use Rattle.four_letter.specs.declared.word.Word.{Word}
use Rattle.sessions.specs.Credentials.{session_id_of}
use Rattle.sessions.specs.State.{SessionTable as Sessions, ConnectedClient as Joined}
use Rattle.sessions.specs.Sessions.{session_in, session_of_connection, new_connection, greatest_counter, is_valid, close_as, close_if_some, ConnectResult, session_response, claimed_session, refusal_response, refused_connect, give_session}
use Rattle.sessions.specs.declared.request.SessionResponse.{SessionResponse}
use Rattle.forwarding.specs.declared.request.PendingConnect.{PendingConnect}
use Rattle.forwarding.specs.declared.request.PendingRequest.TheVariants.{Connect, Held}
use Rattle.forwarding.specs.Queue.{RequestQueue}
use Rattle.forwarding.specs.State.{PendingTable, RequestQueues}
use Rattle.forwarding.specs.Pending.{is_full, is_idle, connecting_to, push_connect, hold_frame, queue_of, touch_session}
use Rattle.client_frames.specs.declared.connecting.Connecting.{Connecting}
use Rattle.client_frames.specs.Connect.{connecting_in, session_request_of}
use Rattle.world.specs.World.{Clients, World}
use Rattle.world.specs.Steps.{StepResult, and_then, fold_steps}
use Rattle.world.specs.Clients.{is_open, without_client}
use Rattle.world.specs.Sending.{close_client, with_sessions, with_pending, close_client_if_some}
use Rattle.client_service.specs.Serve.{touched_as, send_connect_response, refuse_connect, ask_for_session, close_others, claim_or_refuse, is_claim, is_new_session, finish_connect, may_connect, is_live, call_of, handle_connect, serve_as, serve_by, header_len, is_refused_frame, serve_frame, word_without_session, word_at, is_unheard}
use Rattle.world.proofs.NatMaps.{get-inserted}
use Rattle.observer_core.proofs.Keeping.{happening_keeps}
use Rattle.observer_core.proofs.Walking.{with_connect, new_connect, claiming, first_false, first_true}
use Rattle.observer_core.proofs.Taking.{HasIfOpen, closed_has, greet_has, call_in_has}

-- The connection has a session or a request that waits, if it is open.
abbrev pub IsEngaged : ℕ → World → Type 0
IsEngaged n w = is_open n w.clients ≡ true
    → (is_idle w.clients.pending n ≡ false) ⊎ (is_some (session_of_connection w.clients.sessions n) ≡ true)

has_one : (n : ℕ) (session : ℤ) (w : World) → HasIfOpen n session w.clients → IsEngaged n w
has_one n session w has here = inr (ap is_some (has here))

closed_one : (n : ℕ) (w : World) → IsEngaged n (close_client n w).after
closed_one n w = has_one n (pos 0) (close_client n w).after (closed_has n (pos 0) w.clients)

-- A request that is pushed waits.
pushed_one : (n : ℕ) (w : World) (p : PendingTable) (queues : RequestQueues) (q : RequestQueue)
    → p.queues ≡ finmap.insert queues n q → IsEngaged n (with_pending w p)
pushed_one n w p queues q is here =
    inl (ap (λ m. not (finmap.contains_key m n)) is ∙ ap (λ o. not (is_some o)) (get-inserted queues n q))

-- Where another connection closes, the session stays.
other_closed : (n j : ℕ) (session : ℤ) (c : Clients) → session_of_connection c.sessions n ≡ Some session
    → HasIfOpen n session (without_client j c)
other_closed n j session c has = by (eq_by_cmp nat_cmp n j) refl
  where
    is_left : (b : Bool) → eq_by_cmp nat_cmp n j ≡ b
        → is_open n (without_client j c) ≡ is_some (cond b None (finmap.get c.connections n))
    is_left b e =
        ap is_some (finmap.get-remove nat_cmp_total c.connections j n
        ∙ ap (λ (x : Bool). cond x None (finmap.get c.connections n)) e)

    stays : eq_by_cmp nat_cmp n j ≡ false → (o : Option Joined)
        → session_of_connection (close_as c.sessions j o) n ≡ Some session
    stays other None = has
    stays other (Some k) =
        ap session_in (finmap.get-remove nat_cmp_total c.sessions.connections j n
        ∙ ap (λ (x : Bool). cond x None (finmap.get c.sessions.connections n)) other)
        ∙ has

    by : (b : Bool) → eq_by_cmp nat_cmp n j ≡ b → HasIfOpen n session (without_client j c)
    by true same here = absurd (true≢false (sym here ∙ is_left true same))
    by false other here = stays other (finmap.get c.sessions.connections j)

pub left_has : (n : ℕ) (session : ℤ) (w : World) (left : Option ℕ)
    → session_of_connection w.clients.sessions n ≡ Some session
    → HasIfOpen n session (close_client_if_some w left).after.clients
left_has n session w None has = λ _. has
left_has n session w (Some j) has = other_closed n j session w.clients has

-- ---- connects

pub only_second : (a b : Bool) → a ≡ true → (a && not b) ≡ false → b ≡ true
only_second true true is e = refl
only_second true false is e = absurd (true≢false e)
only_second false b is e = absurd (true≢false (sym is))

-- After a response that refuses, the connection is closed.
greet_one : (n : ℕ) (session : ℤ) (has_byte : Bool) (response : SessionResponse) (w : World)
    → (int_eq response.session_id (pos 0) ≡ false → HasIfOpen n session w.clients)
    → IsEngaged n (send_connect_response n has_byte response w).after
greet_one n session has_byte response w has =
    has_one n session (send_connect_response n has_byte response w).after (greet_has n session has_byte response w has)

refuse_one : (n : ℕ) (has_byte : Bool) (w : World) → IsEngaged n (refuse_connect n has_byte w).after
refuse_one n has_byte w = greet_one n (pos 0) has_byte refusal_response w (λ other. absurd (true≢false other))

waits_one : (n : ℕ) (w : World) (connect : PendingConnect) → IsEngaged n (with_connect n w connect)
waits_one n w connect =
    let p = w.clients.pending in
    pushed_one n w (push_connect p n connect) p.queues (queue_of p n ++ Connect connect ∷ []) refl

-- The connection claims a session, or is closed.
claimed_one : (n : ℕ) (has_byte : Bool) (w : World) (o : Option SessionResponse)
    → IsEngaged n (claim_or_refuse n has_byte w o).after
claimed_one n has_byte w None = refuse_one n has_byte w
claimed_one n has_byte w (Some response) =
    waits_one n (close_others response.session_id w).after (claiming response.session_id response.time_out has_byte)

ask_one : (n : ℕ) (has_byte : Bool) (w : World) (response : SessionResponse)
    → IsEngaged n (ask_for_session n has_byte w response).after
ask_one n has_byte w response =
    cond_both (is_some (connecting_to w.clients.pending response.session_id)) _ _
    (λ (h : StepResult World). IsEngaged n h.after) (λ _. refuse_one n has_byte w)
    (λ _. waits_one n w (new_connect response.session_id response.time_out has_byte))

-- The connection asks for a session, or is closed.
named_one : (n : ℕ) (w : World) (asked : Connecting) (response : SessionResponse) (s : Sessions)
    → (is_new_session asked.request response ≡ false → int_eq response.session_id (pos 0) ≡ true)
    → IsEngaged n (finish_connect n w asked
    (record { connected = record { response = response; older = None }; after = s })).after
named_one n w asked response s refused =
    cond_both (is_new_session asked.request response) _ _ (λ (h : StepResult World). IsEngaged n h.after)
    (λ _. ask_one n asked.has_byte (with_sessions w s) response)
    (λ old. greet_one n (pos 0) asked.has_byte response
    (touched_as (with_sessions w s) (session_of_connection s n))
    (λ other. absurd (true≢false (sym (refused old) ∙ other))))

refused_one : (n : ℕ) (w : World) (asked : Connecting)
    → IsEngaged n (finish_connect n w asked (refused_connect w.clients.sessions)).after
refused_one n w asked = named_one n w asked refusal_response w.clients.sessions (λ old. refl)

given_one : (n : ℕ) (w : World) (asked : Connecting) (session time_out : ℤ)
    → int_eq asked.request.session_id (pos 0) ≡ false
    → IsEngaged n (finish_connect n w asked (give_session w.clients.sessions n session time_out)).after
given_one n w asked session time_out other =
    cond_both (is_new_session asked.request x.connected.response) _ _ (λ (h : StepResult World). IsEngaged n h.after)
    (λ new. absurd (true≢false (sym (first_true (int_eq asked.request.session_id (pos 0)) _ new) ∙ other)))
    (λ _. by (session_of_connection x.after n))
  where
    x : ConnectResult
    x = give_session w.clients.sessions n session time_out

    has : session_of_connection x.after n ≡ Some session
    has = ap session_in (get-inserted (close_if_some w.clients.sessions x.connected.older).connections n
        (new_connection session x.connected.response.time_out))

    greet : World → StepResult World
    greet = send_connect_response n asked.has_byte x.connected.response

    by : (o : Option ℤ)
        → IsEngaged n (and_then (close_client_if_some (touched_as (with_sessions w x.after) o) x.connected.older)
        greet).after
    by None =
        greet_one n session asked.has_byte x.connected.response
        (close_client_if_some (with_sessions w x.after) x.connected.older).after
        (λ _. left_has n session (with_sessions w x.after) x.connected.older has)
    by (Some touched) =
        let v = with_sessions (with_pending w (touch_session w.clients.pending touched)) x.after in
        greet_one n session asked.has_byte x.connected.response
        (close_client_if_some v x.connected.older).after (λ _. left_has n session v x.connected.older has)

join_one : (serving : Bool) (n : ℕ) (w : World) (c : Result Connecting Fault)
    → IsEngaged n (handle_connect serving n w c).after
join_one serving n w (Err e) = closed_one n w
join_one serving n w (Ok asked) =
    cond_both (may_connect serving w asked.request) _ _ (λ (h : StepResult World). IsEngaged n h.after)
    (λ _. cond_both (is_claim w asked.request) _ _ (λ (h : StepResult World). IsEngaged n h.after)
    (λ _. claimed_one n asked.has_byte w (claimed_session s (session_request_of asked.request)))
    (λ _. cond_both (int_eq session (pos 0)) _ _ Joins
    (λ zero. cond_both (s.counter == greatest_counter) _ _ Joins (λ _. refused_one n w asked)
    (λ _. named_one n w asked named (record s { counter = s.counter + 1 }) (λ old. only_second _ _ zero old)))
    (λ other. cond_both (is_valid s (is_live session w) (session_request_of asked.request)) _ _ Joins
    (λ _. given_one n w asked session asked.request.time_out other) (λ _. refused_one n w asked))))
    (λ _. closed_one n w)
  where
    s : Sessions
    s = w.clients.sessions

    session : ℤ
    session = asked.request.session_id

    named : SessionResponse
    named = session_response s.terms (session_id_of s.terms.server_id (s.counter + 1)) asked.request.time_out

    Joins : ConnectResult → Type 0
    Joins x = IsEngaged n (finish_connect n w asked x).after

-- ---- frames

module _ (serving : Bool) (n : ℕ) where
  served_one : (w : World) (frame : List ℕ)
      → IsEngaged n (cond (is_refused_frame n w frame) (close_client n w)
      (serve_by serving n w frame (session_of_connection w.clients.sessions n))).after
  served_one w frame =
      cond_both (is_refused_frame n w frame) _ _ (λ (h : StepResult World). IsEngaged n h.after)
      (λ _. closed_one n w)
      (λ taken. by (session_of_connection w.clients.sessions n) refl
      (first_false (is_full w.clients.pending n) (nat_lt (length frame) header_len) taken))
    where
      by : (o : Option ℤ) → session_of_connection w.clients.sessions n ≡ o → is_full w.clients.pending n ≡ false
          → IsEngaged n (serve_by serving n w frame o).after
      by None none room =
          cond_both (is_idle w.clients.pending n) _ _ (λ (h : StepResult World). IsEngaged n h.after)
          (λ _. join_one serving n w (connecting_in frame))
          (λ busy. let p = w.clients.pending in
          pushed_one n w (hold_frame p n frame) p.queues (queue_of p n ++ Held frame ∷ []) refl)
      by (Some session) has room =
          has_one n session (serve_as n session w frame (call_of w frame)).after
          (call_in_has n session session w frame (call_of w frame) room (λ _. has))

  serve_one : (w : World) (frame : List ℕ) → IsEngaged n (serve_frame serving n w frame).after
  serve_one w frame = by (session_of_connection w.clients.sessions n)
    where
      by : (o : Option ℤ) → let v = touched_as w o in
          IsEngaged n (cond (is_refused_frame n v frame) (close_client n v)
          (serve_by serving n v frame (session_of_connection v.clients.sessions n))).after
      by None = served_one w frame
      by (Some session) = served_one (with_pending w (touch_session w.clients.pending session)) frame

  frames_engaged : (w : World) (f : List ℕ) (fs : List (List ℕ))
      → IsEngaged n (fold_steps (is_unheard n) (serve_frame serving n) w (f ∷ fs)).after
      ⊎ (is_unheard n w ≡ true)
  frames_engaged w f fs =
      cond_both (is_unheard n w) _ _ (λ (h : StepResult World). IsEngaged n h.after ⊎ (is_unheard n w ≡ true))
      (λ unheard. inr unheard)
      (λ _. inl (happening_keeps (IsEngaged n) (is_unheard n) (serve_frame serving n)
      (λ v frame _ _. serve_one v frame) (serve_frame serving n w f).after fs (serve_one w f)))

  -- A connection that is heard says no word after a frame of it was served.
  pub frames_one : (w : World) (f : List ℕ) (fs : List (List ℕ)) (bytes : List ℕ) → is_unheard n w ≡ false
      → let v = (fold_steps (is_unheard n) (serve_frame serving n) w (f ∷ fs)).after in
      is_open n v.clients ≡ true → word_at n v bytes ≡ None
  frames_one w f fs bytes heard here = by (frames_engaged w f fs)
    where
      v : World
      v = (fold_steps (is_unheard n) (serve_frame serving n) w (f ∷ fs)).after

      said : (idle : Bool) (session : Option ℤ) (word : Option Word)
          → (idle ≡ false) ⊎ (is_some session ≡ true)
          → cond idle (word_without_session session word) None ≡ None
      said false session word e = refl
      said true (Some session) word e = refl
      said true None word (inl e) = absurd (true≢false e)
      said true None word (inr e) = absurd (true≢false (sym e))

      by : IsEngaged n v ⊎ (is_unheard n w ≡ true) → word_at n v bytes ≡ None
      by (inl engaged) =
          said (is_idle v.clients.pending n) (session_of_connection v.clients.sessions n) (word_of (take 4 bytes))
          (engaged here)
      by (inr unheard) = absurd (true≢false (sym unheard ∙ heard))
