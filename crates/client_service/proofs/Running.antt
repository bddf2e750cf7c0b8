-- Reads that wait for their answers are answered as if at once.
use Rattle.std.proofs.Common.{◌≡◌, ◌≢◌, ℕ, ℤ, List, [], ◌∷◌, ◌++◌, map, take, drop, Option, Some, None, Result, Ok, Err, Bool, true, false, cond, refl, sym, ap, subst, ◌∙◌, append_assoc}
use Rattle.std.specs.Prelude.{is_some, not, nat_lt, length, ◌||◌, if◌then◌else◌}
use Rattle.std.specs.Option.{unwrap_or}
use Rattle.std.specs.FinMap as finmap
use Rattle.std.specs.Ordering.{eq_by_cmp, nat_cmp}
use Rattle.std.specs.Cmp.{nat_cmp_total}
use Rattle.std.proofs.lemmas.Map.Lookups.{exact_unsigned}
use Rattle.std.proofs.lemmas.List.{append-nil}
use mathlib.Core.Bool.{true≢false}
use Rattle.values.specs.declared.fault.Fault.{Fault}
use Rattle.jute.specs.Stream.{Items, with_first, no_items, place_at, items_in}
use Rattle.sessions.specs.State.{ConnectedClient}
use Rattle.sessions.specs.Sessions.{session_in, session_of_connection, ids_in, ids_of}
use Rattle.sessions.specs.Agreement.{OtherConnectionsStay}
use Rattle.four_letter.specs.Words.{word_of}
use Rattle.four_letter.specs.declared.word.Word.{Word}
use Rattle.watch_manager.specs.Watching.{WatchTables}
use Rattle.read_processor.specs.declared.shown.Look.{Look}
use Rattle.read_processor.specs.Look.{look_at_state}
use Rattle.read_processor.specs.Watch.{watch_of}
use Rattle.read_processor.specs.Reply.{reply_frame}
use Rattle.client_frames.specs.declared.call.Call.{Call}
use Rattle.client_frames.specs.declared.call.CallBody.TheVariants as bodies
use Rattle.client_frames.specs.declared.call.LocalCall.TheVariants as locals
use Rattle.forwarding.specs.Queue.{RequestQueue, pending_limit}
use Rattle.forwarding.specs.Pending.{queue_in, is_idle, hold_frame}
use Rattle.replica.specs.Replica.{Replica}
use Rattle.values.specs.declared.fault.NoMemory.{NoMemory}
use Rattle.world.specs.declared.output.Output.{Output}
use Rattle.client_frames.specs.Call.{call_in}
use Rattle.world.specs.declared.world.Settings.{Settings}
use Rattle.world.specs.World.{OpenConnection, OpenConnections, World}
use Rattle.world.specs.Steps.{StepResult, prepend_outputs, no_output, and_then}
use Rattle.world.specs.Clients.{is_open, heard_in, heard_connection, is_heard, without_client}
use Rattle.world.specs.Sending.{close_client, send_or_close, with_watches, send_reply, with_pending}
use Rattle.client_service.specs.Serve.{with_watch_if, answer_read, touch_client, call_of, header_len, is_refused_frame, serve_by, serve_as, serve_frame, serve_all, wait_if_heard, wait_at, word_without_session, word_at, tell_or_serve, take_client_bytes, frames_of_client}
use Rattle.world.specs.Clients.{rest_at, with_rest}
use Rattle.client_service.specs.Inner.{world_with_rest, stage_with_rest, call_of_session, session_call, read_of_session, IsReadIn, close_if_heard, tell_if_heard}
use Rattle.client_service.specs.declared.request.SessionCall.{SessionCall}
use Rattle.world.specs.Results.{MeetsStep, SoFar}
use Rattle.client_service.specs.Runs.{MeetsOwing, MakesOwing, AskedRead, answer_asked, answer_all_asked, look_asked, show_asked, show_all_asked, serve_if_heard, RunsAreReads}
use Rattle.world.proofs.NatMaps.{same_key, eq_is, get-removed, get-kept}
use Rattle.world.proofs.Heard.{heard_open, heard_still}
use Rattle.client_service.proofs.Touching.{with_touched, touch_is}
use Rattle.client_service.proofs.Headers.{has_header}
use Rattle.world.proofs.Steps.{behind_behind, happening_on, begins, then_meets, stops, same_left}
use Rattle.client_service.proofs.Serving.{none_of, served_first, all_passed_over, none_whole, bad_length, not_heard, at_heard}

-- ---- what answers leave

absent : (b : Bool) (o : Option OpenConnection) → heard_in o ≡ None → heard_in (cond b None o) ≡ None
absent true o none = refl
absent false o none = none

-- Answers leave the replica, and of each connection that is still open its waiting bytes, its ids, its session and its
-- requests.
pub record IsKept (v w : World) : Type 0 where
  pub settings : v.settings ≡ w.settings
  pub replica : v.replica ≡ w.replica
  pub connections : (k : ℕ) → is_open k v.clients ≡ true
      → finmap.get v.clients.connections k ≡ finmap.get w.clients.connections k
  pub sessions : (k : ℕ) → is_open k v.clients ≡ true
      → finmap.get v.clients.sessions.connections k ≡ finmap.get w.clients.sessions.connections k
  pub pending : (k : ℕ) → is_open k v.clients ≡ true
      → finmap.get v.clients.pending.queues k ≡ finmap.get w.clients.pending.queues k

module _ (stay : OtherConnectionsStay) where
  closed_kept : (n : ℕ) (v w : World) (ws : WatchTables) → IsKept v w
      → IsKept (record v { clients = without_client n (record v.clients { watches = ws }) }) w
  closed_kept n v w ws kept = record {
    settings = kept.settings;
    replica = kept.replica;
    connections = λ k here.
        let stays = get-kept v.clients.connections n k (other k here) in
        stays ∙ kept.connections k (sym (ap is_some stays) ∙ here);
    sessions = λ k here.
        stay.closes v.clients.sessions n k (other k here)
        ∙ kept.sessions k (sym (ap is_some (get-kept v.clients.connections n k (other k here))) ∙ here);
    pending = λ k here.
        get-kept v.clients.pending.queues n k (other k here)
        ∙ kept.pending k (sym (ap is_some (get-kept v.clients.connections n k (other k here))) ∙ here);
  }
    where
      other : (k : ℕ) → finmap.contains_key (finmap.remove v.clients.connections n) k ≡ true → k ≢ n
      other k here same = true≢false (sym here
          ∙ ap (λ (j : ℕ). finmap.contains_key (finmap.remove v.clients.connections n) j) same
          ∙ ap is_some (get-removed v.clients.connections n))

  sent_kept : (n : ℕ) (v w : World) (ws : WatchTables) (frame : Option (List ℕ)) → IsKept v w
      → IsKept (send_or_close n (with_watches v ws) frame).after w
  sent_kept n v w ws None kept = closed_kept n v w ws kept
  sent_kept n v w ws (Some bytes) kept = record {
    settings = kept.settings;
    replica = kept.replica;
    connections = kept.connections;
    sessions = kept.sessions;
    pending = kept.pending;
  }

  touched_kept : (n : ℕ) (v w : World) → IsKept v w → IsKept (touch_client n v) w
  touched_kept n v w kept = subst (λ (u : World). IsKept u w) (sym (touch_is n v)) (record {
    settings = kept.settings;
    replica = kept.replica;
    connections = kept.connections;
    sessions = kept.sessions;
    pending = kept.pending;
  })

  shown_kept : (v w : World) (a : AskedRead) (seen : Look) → IsKept v w → IsKept (show_asked v a seen).after w
  shown_kept v w a seen kept = by (is_open a.number v.clients)
    where
      touched : World
      touched = touch_client a.number v

      next : World
      next = with_watches touched (with_watch_if a.number v.clients.watches (watch_of a.request seen.error))

      by : (b : Bool) → IsKept (cond b (send_reply a.number next a.xid seen) (no_output v)).after w
      by true = sent_kept a.number touched w (with_watch_if a.number v.clients.watches (watch_of a.request seen.error))
          (reply_frame a.xid touched.replica.learner.last_zxid seen) (touched_kept a.number v w kept)
      by false = kept

  look_same : (v w : World) (a : AskedRead) → IsKept v w → is_open a.number v.clients ≡ true
      → look_asked v a ≡ look_asked w a
  look_same v w a kept here =
      ap (λ (r : Replica). look_at_state r.tree (ids_of v.clients.sessions a.number) a.request) kept.replica
      ∙ ap (λ (o : Option ConnectedClient). look_at_state w.replica.tree (ids_in o) a.request)
      (kept.sessions a.number here)

  one_shown : (v w : World) (a : AskedRead) → IsKept v w → answer_asked v a ≡ show_asked v a (look_asked w a)
  one_shown v w a kept = by (is_open a.number v.clients) refl
    where
      show : World → Look → StepResult World
      show u seen = send_reply a.number
          (with_watches u (with_watch_if a.number v.clients.watches (watch_of a.request seen.error))) a.xid seen

      by : (b : Bool) → is_open a.number v.clients ≡ b
          → cond b (answer_read a.number (touch_client a.number v) a.xid a.request) (no_output v)
          ≡ cond b (show (touch_client a.number v) (look_asked w a)) (no_output v)
      by true here =
          ap (λ (u : World). answer_read a.number u a.xid a.request) (touch_is a.number v)
          ∙ ap (show (with_touched a.number v)) (look_same v w a kept here)
          ∙ ap (λ (u : World). show u (look_asked w a)) (sym (touch_is a.number v))
      by false here = refl

  each_shown : (asked : List AskedRead) (v w : World) → IsKept v w
      → answer_all_asked asked v ≡ show_all_asked asked (map (look_asked w) asked) v
  each_shown [] v w kept = refl
  each_shown (a ∷ asked) v w kept =
      let seen = look_asked w a in
      let first = show_asked v a seen in
      ap (λ (h : StepResult World). and_then h (answer_all_asked asked)) (one_shown v w a kept)
      ∙ ap (prepend_outputs first.outputs) (each_shown asked first.after w (shown_kept v w a seen kept))

  pub answered_kept : (asked : List AskedRead) (v w : World) → IsKept v w → IsKept (answer_all_asked asked v).after w
  answered_kept [] v w kept = kept
  answered_kept (a ∷ asked) v w kept =
      answered_kept asked (answer_asked v a).after w
      (subst (λ (h : StepResult World). IsKept h.after w) (sym (one_shown v w a kept))
      (shown_kept v w a (look_asked w a) kept))

pub kept_itself : (w : World) → IsKept w w
kept_itself w = record {
  settings = refl;
  replica = refl;
  connections = λ k here. refl;
  sessions = λ k here. refl;
  pending = λ k here. refl;
}

-- What a frame asks stays the same while reads that wait are answered, if its connection is still heard.
pub call_kept : OtherConnectionsStay → (n : ℕ) (frame : List ℕ) (asked : List AskedRead) (old new : StepResult World)
    (request : Option SessionCall) → prepend_outputs old.outputs (answer_all_asked asked old.after) ≡ new
    → request ≡ session_call n old.after frame → is_heard n new.after.clients ≡ true
    → request ≡ session_call n new.after frame
call_kept stay n frame asked old new request made is heard =
    let after : (answer_all_asked asked old.after).after ≡ new.after = ap (λ (h : StepResult World). h.after) made in
    let kept = answered_kept stay asked old.after old.after (kept_itself old.after) in
    let there = open_if (finmap.get (answer_all_asked asked old.after).after.clients.connections n)
    (ap (λ (u : World). is_heard n u.clients) after ∙ heard) in
    is
    ∙ sym (ap (λ (o : Option ConnectedClient). call_of_session (call_of old.after frame) (session_in o))
    (kept.sessions n there))
    ∙ sym (ap (λ (settings : Settings). call_of_session (call_in settings.dialect frame)
    (session_of_connection (answer_all_asked asked old.after).after.clients.sessions n)) kept.settings)
    ∙ ap (λ (u : World). session_call n u frame) after
  where
    open_if : (o : Option OpenConnection) → is_some (heard_in o) ≡ true → is_some o ≡ true
    open_if None heard = heard
    open_if (Some c) heard = refl

-- A connection that isn't heard stays unheard.

unheard_then : (n k : ℕ) (w : World) (frame : Option (List ℕ)) → is_heard n w.clients ≡ false
    → is_heard n (send_or_close k w frame).after.clients ≡ false
unheard_then n k w (Some bytes) unheard = unheard
unheard_then n k w None unheard =
    ap (λ (o : Option OpenConnection). is_some (heard_in o)) (finmap.get-remove nat_cmp_total w.clients.connections k n)
    ∙ ap is_some (absent (eq_by_cmp nat_cmp n k) (finmap.get w.clients.connections n)
    (none_of (heard_connection n w.clients) unheard))

unheard_after_one : (n : ℕ) (w : World) (a : AskedRead) → is_heard n w.clients ≡ false
    → is_heard n (answer_asked w a).after.clients ≡ false
unheard_after_one n w a unheard = by (is_open a.number w.clients)
  where
    answered : World → StepResult World
    answered u = answer_read a.number u a.xid a.request

    by : (b : Bool) → is_heard n (cond b (answered (touch_client a.number w)) (no_output w)).after.clients ≡ false
    by true =
        let seen = look_asked w a in
        ap (λ (u : World). is_heard n (answered u).after.clients) (touch_is a.number w)
        ∙ unheard_then n a.number
        (with_watches (with_touched a.number w) (with_watch_if a.number w.clients.watches (watch_of a.request seen.error)))
        (reply_frame a.xid w.replica.learner.last_zxid seen) unheard
    by false = unheard

pub unheard_after : (n : ℕ) (asked : List AskedRead) (w : World) → is_heard n w.clients ≡ false
    → is_heard n (answer_all_asked asked w).after.clients ≡ false
unheard_after n [] w unheard = unheard
unheard_after n (a ∷ asked) w unheard =
    unheard_after n asked (answer_asked w a).after (unheard_after_one n w a unheard)

-- ---- bytes that are kept

-- What is asked of a connection has the same answer with other bytes.
same_as : (is : Option OpenConnection → Bool) (m : OpenConnections) (n k : ℕ) (o : Option OpenConnection) (rest : List ℕ)
    → heard_in (finmap.get m n) ≡ o
    → ((c : OpenConnection) → heard_in (finmap.get m n) ≡ Some c
    → is (Some (record c { rest = rest })) ≡ is (finmap.get m n))
    → is (finmap.get (with_rest m n o rest) k) ≡ is (finmap.get m k)
same_as is m n k None rest at same = refl
same_as is m n k (Some c) rest at same =
    ap is (finmap.get-insert nat_cmp_total m n (record c { rest = rest }) k)
    ∙ by (eq_by_cmp nat_cmp k n) refl
  where
    by : (b : Bool) → eq_by_cmp nat_cmp k n ≡ b
        → is (cond b (Some (record c { rest = rest })) (finmap.get m k)) ≡ is (finmap.get m k)
    by true here = same c at ∙ sym (ap is (ap (finmap.get m) (exact_unsigned k n (eq_is (nat_cmp k n) here))))
    by false differ = refl

open_as : (m : OpenConnections) (n k : ℕ) (o : Option OpenConnection) (rest : List ℕ) → heard_in (finmap.get m n) ≡ o
    → finmap.contains_key (with_rest m n o rest) k ≡ finmap.contains_key m k
open_as m n k o rest at = same_as is_some m n k o rest at
    (λ c here. sym (ap is_some (heard_open (finmap.get m n) c here)))

pub heard_with : (m : OpenConnections) (n k : ℕ) (o : Option OpenConnection) (rest : List ℕ)
    → heard_in (finmap.get m n) ≡ o
    → is_some (heard_in (finmap.get (with_rest m n o rest) k)) ≡ is_some (heard_in (finmap.get m k))
heard_with m n k o rest at = same_as (λ (o : Option OpenConnection). is_some (heard_in o)) m n k o rest at
    (λ c here. ap is_some (heard_still (finmap.get m n) c rest here) ∙ sym (ap is_some here))

-- Removed before or after an insertion of another key.
swapped : (x y : Bool) (v o : Option OpenConnection) → (x ≡ true → y ≡ false)
    → cond x None (cond y v o) ≡ cond y v (cond x None o)
swapped true true v o apart = absurd (true≢false (apart refl))
swapped true false v o apart = refl
swapped false y v o apart = refl

gone : (x : Bool) (v o : Option OpenConnection) → cond x None (cond x v o) ≡ cond x None o
gone true v o = refl
gone false v o = refl

-- The bytes of one connection are kept, and one connection is removed.
rest_removed : (m : OpenConnections) (n k : ℕ) (o : Option OpenConnection) (rest : List ℕ)
    → heard_in (finmap.get m n) ≡ o
    → finmap.remove (with_rest m n o rest) k
    ≡ with_rest (finmap.remove m k) n (heard_in (finmap.get (finmap.remove m k) n)) rest
rest_removed m n k None rest at =
    ap (λ (o : Option OpenConnection). with_rest (finmap.remove m k) n o rest)
    (sym (ap heard_in (finmap.get-remove nat_cmp_total m k n) ∙ absent (eq_by_cmp nat_cmp n k) (finmap.get m n) at))
rest_removed m n k (Some c) rest at = by (eq_by_cmp nat_cmp n k) refl
  where
    new : OpenConnection
    new = record c { rest = rest }

    by : (b : Bool) → eq_by_cmp nat_cmp n k ≡ b
        → finmap.remove (finmap.insert m n new) k
        ≡ with_rest (finmap.remove m k) n (heard_in (finmap.get (finmap.remove m k) n)) rest
    by true same =
        let is : n ≡ k = exact_unsigned n k (eq_is (nat_cmp n k) same) in
        subst (λ (j : ℕ). finmap.remove (finmap.insert m n new) j
        ≡ with_rest (finmap.remove m j) n (heard_in (finmap.get (finmap.remove m j) n)) rest) is
        (finmap.same_map nat_cmp_total exact_unsigned _ _ (λ q.
        finmap.get-remove nat_cmp_total (finmap.insert m n new) n q
        ∙ ap (cond (eq_by_cmp nat_cmp q n) None) (finmap.get-insert nat_cmp_total m n new q)
        ∙ gone (eq_by_cmp nat_cmp q n) (Some new) (finmap.get m q)
        ∙ sym (finmap.get-remove nat_cmp_total m n q))
        ∙ ap (λ (o : Option OpenConnection). with_rest (finmap.remove m n) n (heard_in o) rest) (sym (get-removed m n)))
    by false differ =
        let other : n ≢ k = λ is. true≢false (sym (same_key n) ∙ ap (eq_by_cmp nat_cmp n) is ∙ differ) in
        finmap.same_map nat_cmp_total exact_unsigned _ _ (λ q.
        finmap.get-remove nat_cmp_total (finmap.insert m n new) k q
        ∙ ap (cond (eq_by_cmp nat_cmp q k) None) (finmap.get-insert nat_cmp_total m n new q)
        ∙ swapped (eq_by_cmp nat_cmp q k) (eq_by_cmp nat_cmp q n) (Some new) (finmap.get m q)
        (λ at_k. not_both q other at_k (eq_by_cmp nat_cmp q n) refl)
        ∙ sym (ap (cond (eq_by_cmp nat_cmp q n) (Some new)) (finmap.get-remove nat_cmp_total m k q))
        ∙ sym (finmap.get-insert nat_cmp_total (finmap.remove m k) n new q))
        ∙ ap (λ (o : Option OpenConnection). with_rest (finmap.remove m k) n o rest)
        (sym (ap heard_in (get-kept m k n other) ∙ at))
      where
        not_both : (q : ℕ) → n ≢ k → eq_by_cmp nat_cmp q k ≡ true → (b : Bool) → eq_by_cmp nat_cmp q n ≡ b
            → eq_by_cmp nat_cmp q n ≡ false
        not_both q other at_k true at_n = absurd (other (sym (exact_unsigned q n (eq_is (nat_cmp q n) at_n))
            ∙ exact_unsigned q k (eq_is (nat_cmp q k) at_k)))
        not_both q other at_k false at_n = at_n

-- Keeping bytes is a step without outputs.
pub waiting_is : (n : ℕ) (rest : List ℕ) (w : World) → wait_at n (Ok rest) w ≡ no_output (world_with_rest n rest w)
waiting_is n rest w = by (heard_connection n w.clients)
  where
    by : (o : Option OpenConnection) → wait_if_heard n w o (Ok rest) ≡ no_output
        (record w { clients = record w.clients { connections = with_rest w.clients.connections n o rest } })
    by None = refl
    by (Some c) = refl

module _ (n : ℕ) (rest : List ℕ) where
  sent_rested : (k : ℕ) (w : World) (frame : Option (List ℕ))
      → send_or_close k (world_with_rest n rest w) frame ≡ stage_with_rest n rest (send_or_close k w frame)
  sent_rested k w (Some bytes) = refl
  sent_rested k w None =
      ap (λ (m : OpenConnections).
      let c = without_client k w.clients in
      record {
        outputs = (send_or_close k w None).outputs;
        after = record w { clients = record c { connections = m } };
      }) (rest_removed w.clients.connections n k (heard_connection n w.clients) rest refl)

  one_rested : (w : World) (a : AskedRead) → answer_asked (world_with_rest n rest w) a ≡ stage_with_rest n rest (answer_asked w a)
  one_rested w a =
      ap (λ b. cond b (answered (touch_client a.number (world_with_rest n rest w))) (no_output (world_with_rest n rest w)))
      (open_as w.clients.connections n a.number (heard_connection n w.clients) rest refl)
      ∙ by (is_open a.number w.clients)
    where
      answered : World → StepResult World
      answered u = answer_read a.number u a.xid a.request

      by : (b : Bool)
          → cond b (answered (touch_client a.number (world_with_rest n rest w))) (no_output (world_with_rest n rest w))
          ≡ stage_with_rest n rest (cond b (answered (touch_client a.number w)) (no_output w))
      by false = refl
      by true =
          let seen = look_asked w a in
          ap answered (touch_is a.number (world_with_rest n rest w))
          ∙ sent_rested a.number
          (with_watches (with_touched a.number w) (with_watch_if a.number w.clients.watches (watch_of a.request seen.error)))
          (reply_frame a.xid w.replica.learner.last_zxid seen)
          ∙ ap (λ (u : World). stage_with_rest n rest (answered u)) (sym (touch_is a.number w))

  pub answered_rested : (asked : List AskedRead) (w : World)
      → answer_all_asked asked (world_with_rest n rest w) ≡ stage_with_rest n rest (answer_all_asked asked w)
  answered_rested [] w = refl
  answered_rested (a ∷ asked) w =
      ap (λ (h : StepResult World). and_then h (answer_all_asked asked)) (one_rested w a)
      ∙ ap (prepend_outputs (answer_asked w a).outputs) (answered_rested asked (answer_asked w a).after)

  -- Bytes that are kept after the answers may be kept before them.
  pub kept_before : (asked : List AskedRead) (w : World)
      → and_then (answer_all_asked asked w) (λ u. no_output (world_with_rest n rest u))
      ≡ answer_all_asked asked (world_with_rest n rest w)
  kept_before asked w =
      let h = answer_all_asked asked w in
      ap (λ (os : List Output). record { outputs = os; after = world_with_rest n rest h.after }) (append-nil h.outputs)
      ∙ sym (answered_rested asked w)

  answers_rest : (asked : List AskedRead) (w : World)
      → and_then (wait_at n (Ok rest) w) (answer_all_asked asked)
      ≡ and_then (answer_all_asked asked w) (wait_at n (Ok rest))
  answers_rest asked w =
      let h = answer_all_asked asked w in
      ap (λ (h : StepResult World). and_then h (answer_all_asked asked)) (waiting_is n rest w)
      ∙ sym (kept_before asked w)
      ∙ ap (prepend_outputs h.outputs) (sym (waiting_is n rest h.after))

-- ---- a frame

-- Two steps and a third are a step and two.
in_turn : {R S T : Type 0} (h : StepResult R) (f : R → StepResult S) (g : S → StepResult T)
    → and_then h (λ u. and_then (f u) g) ≡ and_then (and_then h f) g
in_turn h f g = let one = f h.after in behind_behind h.outputs one.outputs (g one.after)

-- A read that waits is answered after those that wait already.
one_more : (asked : List AskedRead) (w : World) (a : AskedRead)
    → and_then (answer_all_asked asked w) (λ u. answer_asked u a) ≡ answer_all_asked (asked ++ a ∷ []) w
one_more asked w a =
    let h = answer_all_asked asked w in
    let one = answer_asked h.after a in
    ap (λ (os : List Output). prepend_outputs h.outputs (record { outputs = os; after = one.after }))
    (sym (append-nil one.outputs))
    ∙ sym (happening_on (λ (w : World). false) answer_asked w asked (a ∷ []))

-- A connection without requests isn't in the map.
none_idle : (o : Option RequestQueue) → not (is_some o) ≡ true → o ≡ None
none_idle None idle = refl
none_idle (Some q) idle = absurd (true≢false (sym idle))

module _ (serving : Bool) (frame : List ℕ) where
  -- The first frame is served, and then the others.
  pub frame_first : (n : ℕ) (others : Items (Unit {0}) (List ℕ)) (u : World)
      → serve_all serving n u (with_first frame others)
      ≡ and_then (serve_if_heard serving n frame u) (λ v. serve_all serving n v others)
  frame_first n others u = by (is_heard n u.clients) refl
    where
      by : (b : Bool) → is_heard n u.clients ≡ b
          → serve_all serving n u (with_first frame others)
          ≡ and_then (cond b (serve_frame serving n u frame) (no_output u)) (λ v. serve_all serving n v others)
      by true here = served_first serving n u (with_first frame others) frame others refl here
      by false closed =
          all_passed_over serving n u (with_first frame others) closed
          ∙ sym (all_passed_over serving n u others closed)

  -- The frame of a read is served by answering it, if its connection has a session and no request.
  read_served : (u : World) (a : AskedRead) (session : ℤ) → finmap.get u.clients.pending.queues a.number ≡ None
      → session_of_connection u.clients.sessions a.number ≡ Some session
      → call_of u frame ≡ Ok (record { xid = a.xid; body = bodies.Local (locals.Read a.request) })
      → serve_frame serving a.number u frame ≡ answer_read a.number (touch_client a.number u) a.xid a.request
  read_served u a session none joined reads =
      ap serve_on (touch_is a.number u)
      ∙ ap (λ (o : Option RequestQueue).
      if not (nat_lt (length (queue_in o)) pending_limit) || nat_lt (length frame) header_len
      then close_client a.number v
      else serve_by serving a.number v frame (session_of_connection v.clients.sessions a.number)) none
      ∙ ap (λ (b : Bool).
      if b
      then close_client a.number v
      else serve_by serving a.number v frame (session_of_connection v.clients.sessions a.number))
      (has_header u.settings.dialect frame (record { xid = a.xid; body = bodies.Local (locals.Read a.request) }) reads)
      ∙ ap (serve_by serving a.number v frame) joined
      ∙ ap (serve_as a.number session v frame) reads
      ∙ ap (λ (o : Option RequestQueue).
      if not (is_some o)
      then answer_read a.number v a.xid a.request
      else no_output (with_pending v (hold_frame v.clients.pending a.number frame))) none
      ∙ ap (λ (v : World). answer_read a.number v a.xid a.request) (sym (touch_is a.number u))
    where
      v : World
      v = with_touched a.number u

      -- What is done once the session is touched.
      serve_on : World → StepResult World
      serve_on v =
          if is_refused_frame a.number v frame then close_client a.number v
          else serve_by serving a.number v frame (session_of_connection v.clients.sessions a.number)

  -- A read may wait with those asked before it.
  pub read_waits : OtherConnectionsStay → (asked : List AskedRead) (w : World) (a : AskedRead) (session : ℤ)
      → is_heard a.number w.clients ≡ true
      → session_of_connection w.clients.sessions a.number ≡ Some session → is_idle w.clients.pending a.number ≡ true
      → call_of w frame ≡ Ok (record { xid = a.xid; body = bodies.Local (locals.Read a.request) })
      → and_then (answer_all_asked asked w) (serve_if_heard serving a.number frame)
      ≡ answer_all_asked (asked ++ a ∷ []) w
  read_waits stay asked w a session heard joined idle reads =
      ap (prepend_outputs h.outputs) (by (is_open a.number u.clients) refl) ∙ one_more asked w a
    where
      h : StepResult World
      h = answer_all_asked asked w

      u : World
      u = h.after

      kept : IsKept u w
      kept = answered_kept stay asked w w (kept_itself w)

      by : (b : Bool) → is_open a.number u.clients ≡ b
          → serve_if_heard serving a.number frame u
          ≡ cond b (answer_read a.number (touch_client a.number u) a.xid a.request) (no_output u)
      by true here =
          ap (λ (b : Bool). cond b (serve_frame serving a.number u frame) (no_output u))
          (ap (λ (o : Option OpenConnection). is_some (heard_in o)) (kept.connections a.number here) ∙ heard)
          ∙ read_served u a session
          (kept.pending a.number here ∙ none_idle (finmap.get w.clients.pending.queues a.number) idle)
          (ap session_in (kept.sessions a.number here) ∙ joined)
          (ap (λ (settings : Settings). call_in settings.dialect frame) kept.settings ∙ reads)
      by false closed =
          ap (λ (o : Option OpenConnection). cond (is_some (heard_in o)) (serve_frame serving a.number u frame) (no_output u))
          (none_of (finmap.get u.clients.connections a.number) closed)

  -- So may the read of a frame that others follow.
  frame_waits : OtherConnectionsStay → (asked : List AskedRead) (w : World) (a : AskedRead) (session : ℤ)
      (others : Items (Unit {0}) (List ℕ)) → is_heard a.number w.clients ≡ true
      → session_of_connection w.clients.sessions a.number ≡ Some session
      → is_idle w.clients.pending a.number ≡ true
      → call_of w frame ≡ Ok (record { xid = a.xid; body = bodies.Local (locals.Read a.request) })
      → and_then (answer_all_asked asked w) (λ u. serve_all serving a.number u (with_first frame others))
      ≡ and_then (answer_all_asked (asked ++ a ∷ []) w) (λ u. serve_all serving a.number u others)
  frame_waits stay asked w a session others heard joined idle reads =
      let h = answer_all_asked asked w in
      ap (prepend_outputs h.outputs) (frame_first a.number others h.after)
      ∙ in_turn h (serve_if_heard serving a.number frame) (λ u. serve_all serving a.number u others)
      ∙ ap (λ (g : StepResult World). and_then g (λ u. serve_all serving a.number u others))
      (read_waits stay asked w a session heard joined idle reads)

pub runs_are_reads : OtherConnectionsStay → RunsAreReads
runs_are_reads stay = record {
  looks = λ asked w. each_shown stay asked w w (kept_itself w);
  rests = λ asked n rest w. answers_rest n rest asked w;
  waits = λ serving asked w n session frame others xid r heard joined idle reads. frame_waits serving frame stay asked
      w (record { number = n; xid = xid; request = r }) session others heard joined idle reads;
}

-- A call of a session is that of the frame, and the session is the connection's.
asked_in : (o : Option ℤ) (call read : Result Call Fault) → read_of_session (call_of_session call o) ≡ Some read
    → (session : ℤ) × ((o ≡ Some session) × (call ≡ read))
asked_in None call read e = absurd (true≢false (sym (ap is_some e)))
asked_in (Some s) call read e = (s, (refl, ap (λ (o : Option (Result Call Fault)). unwrap_or o read) e))

-- The read of a frame was gathered.
pub gathered : OtherConnectionsStay → (serving : Bool) (n : ℕ) (frame : List ℕ) (h : StepResult World)
    (asked : List AskedRead) (request : Option SessionCall) (read : AskedRead) (left : List AskedRead)
    → is_heard n h.after.clients ≡ true → request ≡ session_call n h.after frame → IsReadIn n h.after request read
    → left ≡ asked ++ read ∷ [] → MakesOwing (Ok tt) h asked (serve_if_heard serving n frame) h left
gathered stay serving n frame h asked request read left heard is reads added =
    let asks = asked_in (session_of_connection h.after.clients.sessions n) (call_of h.after frame) _
    (ap read_of_session (sym is) ∙ reads.asked) in
    same_left _ _ _ _ _
    (ap (λ (k : ℕ). and_then (answer_all_asked asked h.after) (serve_if_heard serving k frame)) (sym reads.number)
    ∙ read_waits serving frame stay asked h.after read asks.0 (rw reads.number heard) (rw reads.number asks.1.0)
    (rw reads.number reads.idle) asks.1.1
    ∙ ap (λ (reads : List AskedRead). answer_all_asked reads h.after) (sym added))
    (begins h.outputs (and_then (answer_all_asked asked h.after) (serve_if_heard serving n frame)))

-- ---- a connection's frames, after the reads that wait

module _ (serving : Bool) (n : ℕ) (asked : List AskedRead) (w : World) (found : Items (Unit {0}) (List ℕ)) where
  abbrev h : StepResult World
  h = answer_all_asked asked w

  -- What the frames do after the answers.
  abbrev all_after : StepResult World
  all_after = and_then h (λ u. serve_all serving n u found)

  pub one_frame : (frame : List ℕ) (others : Items (Unit {0}) (List ℕ)) → found ≡ with_first frame others
      → all_after ≡ and_then (and_then h (serve_if_heard serving n frame)) (λ u. serve_all serving n u others)
  one_frame frame others is =
      ap (λ (fs : Items (Unit {0}) (List ℕ)). and_then h (λ u. serve_all serving n u fs)) is
      ∙ ap (prepend_outputs h.outputs) (frame_first serving frame n others h.after)
      ∙ in_turn h (serve_if_heard serving n frame) (λ u. serve_all serving n u others)

  pub none_complete : (bytes : List ℕ) → found ≡ no_items (place_at tt bytes)
      → all_after ≡ answer_all_asked asked (world_with_rest n bytes w)
  none_complete bytes is =
      ap (prepend_outputs h.outputs) (none_whole serving n h.after found bytes is) ∙ kept_before n bytes asked w

  pub none_taken : is_heard n w.clients ≡ false → all_after ≡ h
  none_taken unheard =
      ap (prepend_outputs h.outputs) (all_passed_over serving n h.after found (unheard_after n asked w unheard))
      ∙ ap (λ (os : List Output). record { outputs = os; after = h.after }) (append-nil h.outputs)

  pub bad_after : (e : Fault) → found ≡ no_items (record { phase = tt; unread = Err e })
      → all_after ≡ and_then h (close_if_heard n)
  bad_after e is = ap (prepend_outputs h.outputs) (by (is_heard n h.after.clients) refl)
    where
      by : (b : Bool) → is_heard n h.after.clients ≡ b
          → serve_all serving n h.after found ≡ cond b (close_client n h.after) (no_output h.after)
      by true here = bad_length serving n h.after found e is here
      by false unheard = all_passed_over serving n h.after found unheard

-- ---- a connection's bytes, after the reads that wait

module _ (serving : Bool) (n : ℕ) (asked : List AskedRead) (w : World) (bytes : List ℕ) where
  -- What the bytes do after the answers.
  abbrev pub bytes_after : StepResult World
  bytes_after = and_then (answer_all_asked asked w)
      (λ u. take_client_bytes serving n u (heard_connection n u.clients) bytes)

  abbrev v : World
  v = world_with_rest n [] w

  -- The bytes of a connection that isn't heard are ignored.
  pub none_waiting : None ≡ rest_at (heard_connection n w.clients) → bytes_after ≡ answer_all_asked asked v
  none_waiting was =
      let u = (answer_all_asked asked w).after in
      ap (prepend_outputs (answer_all_asked asked w).outputs)
      (not_heard serving n u (heard_connection n u.clients) bytes
      (ap rest_at (none_of (heard_connection n u.clients)
      (unheard_after n asked w (unheard_if (heard_connection n w.clients) was)))))
      ∙ kept_before n [] asked w
    where
      unheard_if : (o : Option OpenConnection) → None ≡ rest_at o → is_some o ≡ false
      unheard_if None e = refl
      unheard_if (Some c) e = absurd (true≢false (sym (ap is_some e)))

  module _ (stay : OtherConnectionsStay) (waiting : List ℕ) (was : Some waiting ≡ rest_at (heard_connection n w.clients)) where
    abbrev came : List ℕ
    came = waiting ++ bytes

    -- The waiting bytes are taken out before the answers, and what comes is told or served after them.
    abbrev then_done : World → StepResult World
    then_done u = if is_heard n u.clients then tell_or_serve serving n u came (word_at n v came) else no_output u

    one_taken : let u = (answer_all_asked asked w).after in
        take_client_bytes serving n u (heard_connection n u.clients) bytes
        ≡ then_done (world_with_rest n [] u)
    one_taken = by (heard_connection n u.clients) refl
      where
        u : World
        u = (answer_all_asked asked w).after

        kept : IsKept u w
        kept = answered_kept stay asked w w (kept_itself w)

        with_open : Option OpenConnection → World
        with_open o =
            record u { clients = record u.clients { connections = with_rest u.clients.connections n o [] } }

        -- The word at the front, as far as the queue and the session of the connection let it be one.
        word_by : Option RequestQueue → Option ConnectedClient → Option Word
        word_by q j = if not (is_some q) then word_without_session (session_in j) (word_of (take 4 came)) else None

        by : (o : Option OpenConnection) → heard_connection n u.clients ≡ o
            → take_client_bytes serving n u o bytes ≡ then_done (with_open o)
        by None none =
            ap (λ (b : Bool). cond b (tell_or_serve serving n u came (word_at n v came)) (no_output u))
            (sym (ap is_some none))
        by (Some c) some =
            let here : is_open n u.clients ≡ true = ap is_some (heard_open (finmap.get u.clients.connections n) c some) in
            at_heard serving n u (Some c) bytes waiting
            (ap rest_at (sym some ∙ ap heard_in (kept.connections n here)) ∙ sym was)
            ∙ ap (tell_or_serve serving n (with_open (Some c)) came)
            (ap (λ (q : Option RequestQueue). word_by q (finmap.get u.clients.sessions.connections n)) (kept.pending n here)
            ∙ ap (word_by (finmap.get w.clients.pending.queues n)) (kept.sessions n here))
            ∙ ap (λ (b : Bool). cond b (tell_or_serve serving n (with_open (Some c)) came (word_at n v came))
            (no_output (with_open (Some c))))
            (sym (heard_with u.clients.connections n n (Some c) [] some ∙ ap is_some some))

    bytes_taken : bytes_after ≡ and_then (answer_all_asked asked v) then_done
    bytes_taken =
        ap (prepend_outputs (answer_all_asked asked w).outputs) one_taken
        ∙ ap (λ (h : StepResult World). and_then h then_done) (sym (answered_rested n [] asked w))

    pub word_taken : (word : Word) → Some word ≡ word_at n v came
        → bytes_after ≡ and_then (answer_all_asked asked v) (tell_if_heard serving n word)
    word_taken word is =
        let u = (answer_all_asked asked v).after in
        bytes_taken
        ∙ ap (λ (o : Option Word). prepend_outputs (answer_all_asked asked v).outputs
        (cond (is_heard n u.clients) (tell_or_serve serving n u came o) (no_output u))) (sym is)

    pub frames_taken : None ≡ word_at n v came
        → bytes_after ≡ and_then (answer_all_asked asked v)
        (λ u. serve_all serving n u (items_in frames_of_client (place_at tt came)))
    frames_taken is =
        bytes_taken
        ∙ ap (λ (o : Option Word). prepend_outputs (answer_all_asked asked v).outputs
        (cond (is_heard n u.clients) (tell_or_serve serving n u came o) (no_output u))) (sym is)
        ∙ ap (prepend_outputs (answer_all_asked asked v).outputs) (by (is_heard n u.clients) refl)
      where
        u : World
        u = (answer_all_asked asked v).after

        all : World → StepResult World
        all u = serve_all serving n u (items_in frames_of_client (place_at tt came))

        by : (b : Bool) → is_heard n u.clients ≡ b → cond b (all u) (no_output u) ≡ all u
        by true here = refl
        by false unheard = sym (all_passed_over serving n u (items_in frames_of_client (place_at tt came)) unheard)

-- ---- what is still owed

-- All that waited was answered, and then a step was tried.
pub settled_first : (r : Result (Unit {0}) NoMemory) (old mid new : List Output) (h : StepResult World)
    (next : World → StepResult World) (left : World) (asked : List AskedRead) (after : World)
    → prepend_outputs old h ≡ record { outputs = mid; after = left } → asked ≡ []
    → MeetsStep r mid (next left) new after → MeetsOwing r old (and_then h next) new asked after
settled_first (Ok u) old mid new h next left asked after made none m =
    let whole = and_then h next in
    let all = then_meets (Ok tt) old mid new h next left after made m in
    record {
      front = whole.outputs;
      put = sym (ap (λ (g : StepResult World). g.outputs) all);
      leads =
          ap (λ (asked : List AskedRead). prepend_outputs whole.outputs (answer_all_asked asked after)) none
          ∙ ap (λ (os : List Output). record { outputs = os; after = after }) (append-nil whole.outputs)
          ∙ ap (λ (g : StepResult World). record { outputs = whole.outputs; after = g.after }) (sym all);
    }
settled_first (Err e) old mid new h next left asked after made none m =
    then_meets (Err e) old mid new h next left after made m

-- A step was made but for what is owed after it, and others follow it.
pub steps_owing : {R S : Type 0} (old : List Output) (whole : StepResult S) (now new : List Output)
    (h owed : StepResult R) (next : R → StepResult S) (left : StepResult S) → left ≡ and_then h next
    → SoFar now h new owed → SoFar old whole now left → SoFar old whole new (and_then owed next)
steps_owing old whole now new h owed next left is made s = record {
  front = s.front ++ made.front;
  put = made.put ∙ ap (λ (os : List Output). os ++ made.front) s.put ∙ append_assoc old s.front made.front;
  leads =
      sym (behind_behind s.front made.front (and_then owed next))
      ∙ ap (prepend_outputs s.front) (behind_behind made.front owed.outputs (next owed.after)
      ∙ ap (λ (g : StepResult _). and_then g next) made.leads ∙ sym is)
      ∙ s.leads;
}

-- The last step was tried, and leaves something owed.
pub ends_owing : (r : Result (Unit {0}) NoMemory) (old : List Output) (whole : StepResult World)
    (now new : List Output) (left last : StepResult World) (asked : List AskedRead) (after : World)
    → left ≡ last → MeetsOwing r now last new asked after → SoFar old whole now left
    → MeetsOwing r old whole new asked after
ends_owing (Ok u) old whole now new left last asked after is made s = record {
  front = s.front ++ made.front;
  put = made.put ∙ ap (λ (os : List Output). os ++ made.front) s.put ∙ append_assoc old s.front made.front;
  leads =
      sym (behind_behind s.front made.front (answer_all_asked asked after))
      ∙ ap (prepend_outputs s.front) (made.leads ∙ sym is) ∙ s.leads;
}
ends_owing (Err e) old whole now new left last asked after is m s =
    stops old whole now new last m (same_left old whole now left last is s)

-- One frame was taken of a connection's bytes, and what is left completes what was to be done.
pub frame_taken : {old : List Output} {whole : StepResult World} (serving : Bool) (n : ℕ) (now new : StepResult World)
    (asked left : List AskedRead) (bytes shown rest frame : List ℕ) (used : ℕ)
    → shown ≡ bytes
    → items_in frames_of_client (place_at tt shown)
    ≡ with_first frame (items_in frames_of_client (place_at tt (drop used shown)))
    → rest ≡ drop used bytes
    → SoFar now.outputs (and_then (answer_all_asked asked now.after) (serve_if_heard serving n frame)) new.outputs
    (answer_all_asked left new.after)
    → SoFar old whole now.outputs (all_after serving n asked now.after (items_in frames_of_client (place_at tt bytes)))
    → SoFar old whole new.outputs (all_after serving n left new.after (items_in frames_of_client (place_at tt rest)))
frame_taken {old = old} {whole = whole} serving n now new asked left bytes shown rest frame used seen first left_is made so_far =
    let items : List ℕ → Items (Unit {0}) (List ℕ) = λ bytes. items_in frames_of_client (place_at tt bytes) in
    let is : items bytes ≡ with_first frame (items rest) =
    ap items (sym seen) ∙ first
    ∙ ap (λ (b : List ℕ). with_first frame (items b)) (ap (drop used) seen ∙ sym left_is) in
    steps_owing old whole now.outputs new.outputs
    (and_then (answer_all_asked asked now.after) (serve_if_heard serving n frame)) (answer_all_asked left new.after)
    (λ (u : World). serve_all serving n u (items rest)) (all_after serving n asked now.after (items bytes))
    (one_frame serving n asked now.after (items bytes) frame (items rest) is) made so_far
