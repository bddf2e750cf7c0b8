-- What a connection's small steps keep, its frames keep.
use Rattle.std.proofs.Common.{◌≡◌, ◌≢◌, inl, inr, ℕ, ◌==◌, ℤ, pos, negsuc, Bool, true, false, cond, not, ◌&&◌, List, [], ◌∷◌, ◌++◌, length, Option, Some, None, Result, Ok, Err, refl, sym, ap, ◌∙◌}
use Rattle.std.specs.Prelude.{is_some, nat_lt}
use Rattle.std.specs.Ordering.{int_eq}
use Rattle.std.proofs.lemmas.Bool.{cond_both}
use Rattle.std.specs.Option.{unwrap_or}
use Rattle.std.specs.FinMap as finmap
use mathlib.Core.Bool.{true≢false}
use Rattle.values.specs.declared.fault.Fault.{Fault}
use Rattle.jute.specs.Stream.{Unread, items_in, place_at}
use Rattle.jute.specs.declared.owned.Id.{Id}
use Rattle.jute.specs.declared.codes.TheConstants.{BAD_ARGUMENTS}
use Rattle.client_records.specs.declared.codes.TheConstants.{NO_WATCHER, OK, UNIMPLEMENTED, AUTH_FAILED, NOT_READ_ONLY, PING_XID, NOTIFICATION_XID}
use Rattle.client_records.specs.declared.request.AuthPacket.{AuthPacket}
use Rattle.client_frames.specs.declared.call.Call.{Call}
use Rattle.client_frames.specs.declared.call.CallBody.{CallBody}
use Rattle.client_frames.specs.declared.call.CallBody.TheVariants as bodies
use Rattle.client_frames.specs.declared.call.LocalCall.{LocalCall}
use Rattle.client_frames.specs.declared.call.LocalCall.TheVariants as locals
use Rattle.client_frames.specs.declared.connecting.Connecting.{Connecting}
use Rattle.client_frames.specs.Connect.{connecting_in, session_request_of, answer_to_connect}
use Rattle.sessions.specs.State.{SessionTable as Sessions}
use Rattle.sessions.specs.Credentials.{digest_id}
use Rattle.sessions.specs.Sessions.{session_of_connection, connection_of, ids_of, greatest_counter, claimed_session, is_valid, ConnectResult, session_response, refusal_response, refused_connect, give_session, name_session, connect_session, AuthResult, add_id, super_id, is_super_digest, add_digest, digest_text, auth_by, add_auth}
use Rattle.sessions.specs.declared.request.SessionResponse.{SessionResponse}
use Rattle.forwarding.specs.declared.request.WriteKind.{WriteKind}
use Rattle.forwarding.specs.Queue.{is_close}
use Rattle.forwarding.specs.State.{PendingTable}
use Rattle.forwarding.specs.Pending.{is_idle, is_full, connecting_to, push_write, hold_frame, touch_session}
use Rattle.settings.specs.Dialects.{reads_of}
use Rattle.read_processor.specs.declared.watch.Watch.{Watch}
use Rattle.read_processor.specs.declared.renewal.Renewal.{Renewal}
use Rattle.read_processor.specs.Look.{look_at_state, without_body}
use Rattle.read_processor.specs.Watch.{watch_of, watch_to_add, look_of_added, watch_sought}
use Rattle.read_processor.specs.Renewal.{renew_watches, renew_all_watches}
use Rattle.read_processor.specs.LaterReads.{look_at_ids, look_of_sasl}
use Rattle.watch_manager.specs.Kinds.{without_watch}
use Rattle.read_processor.specs.declared.watch.SoughtWatch.{SoughtWatch}
use Rattle.read_processor.specs.Reply.{reply_frame}
use Rattle.read_processor.specs.Events.{look_of_event}
use Rattle.watch_manager.specs.declared.event.Event.{Event}
use Rattle.four_letter.specs.Texts.{reply_text}
use Rattle.four_letter.specs.declared.word.Word.{Word}
use Rattle.world.specs.World.{OpenConnection, World}
use Rattle.world.specs.Steps.{StepResult, no_output, and_then, fold_steps}
use Rattle.world.specs.Clients.{heard_in, heard_connection, sent_to, notice_to, notices_to}
use Rattle.world.specs.Sending.{close_client, send_or_close, send_last, send_reply, with_watches, with_sessions, with_pending, close_client_if_some}
use Rattle.client_service.specs.LaterReads.{answer_sasl, unreadable_error, answer_unreadable, unknown_zxid}
use Rattle.client_service.specs.Serve.{with_watch, with_watch_if, with_each_watch, answer_set_watches, answer_add_watch, has_sought_watch, look_of_sought, answer_check_watches, answer_remove_watches, answer_auth, touched_as, touch_client, send_auth_result, send_connect_response, close_others, ask_about_session, claim_session, claim_or_refuse, is_claim, is_new_session, finish_connect, may_connect, is_live, call_of, handle_connect, handle_local, forward_frame, with_leaving, handle_call, serve_as, serve_by, header_len, is_refused_frame, serve_frame, figures_of, word_at, is_unheard, with_waiting_bytes, wait_if_heard, wait_at, frames_of_client, tell_or_serve, take_client_bytes}
use Rattle.world.proofs.NatMaps.{get-inserted, get-kept}
use Rattle.observer_core.proofs.Passing.{closed_none}
pub use Rattle.observer_core.proofs.Idle.{first_false, first_true, none_is, no_session, idle_queue, idle_connect, idle_if_closed, heard_there}
use Rattle.observer_core.specs.Shown.{TreeRead, OfRequest, OfParts, OfEphemerals, OfNumber, look_in, OfError, OfAdded, OfIds, OfSasl, is_plain, IsLastOrNone}
use Rattle.observer_core.proofs.Sent.{read_reply, plain_reply, error_reply, unknown_named, unreadable_plain, sought_plain, notice_shows, connect_shows, word_shows}
pub use Rattle.observer_core.proofs.Stepping.{IsOpen, Steps, HasNone, NoConnect, given, counted, next_id, with_connect, new_connect, claiming, asked_for, IsWith, SessionsMove, IsGround, HoldsOfReplies, HoldsOfCalls, HoldsOfConnects, Makes, ShowsNow, MaySend, sent_bytes, HoldsOfTxn}

-- ---- connections that are open

pub heard_open : (n : ℕ) (w : World) → is_unheard n w ≡ false → IsOpen n w
heard_open n w e = by (finmap.get w.clients.connections n) e
  where
    by : (o : Option OpenConnection) → not (is_some (heard_in o)) ≡ false → is_some o ≡ true
    by None e = absurd (true≢false e)
    by (Some c) e = refl

-- ---- other connections close

pub none_if_closed : (n : ℕ) (w : World) (o : Option ℕ) → HasNone n w → HasNone n (close_client_if_some w o).after
none_if_closed n w None none = none
none_if_closed n w (Some k) none = closed_none w.clients.sessions k n none

pub open_if_closed : (n : ℕ) (w : World) (o : Option ℕ) → ((k : ℕ) → o ≡ Some k → k ≢ n) → IsOpen n w
    → IsOpen n (close_client_if_some w o).after
open_if_closed n w None other here = here
open_if_closed n w (Some k) other here =
    ap is_some (get-kept w.clients.connections k n (λ same. other k refl (sym same))) ∙ here

-- ---- replies

module _ (n : ℕ) (Strict : Type 0) (A : World → Type 0) (Q : Steps) (ground : IsGround n Strict A)
    (r : HoldsOfReplies n A Q) where
  pub then_makes : (w : World) (h : StepResult World) (next : World → StepResult World) → Makes A Q w h
      → (A h.after → Makes A Q h.after (next h.after)) → Makes A Q w (and_then h next)
  then_makes w h next first second =
      let rest = second first.keeps in record { keeps = rest.keeps; is = r.thens w h next first.is rest.is }

  pub stay_makes : (w : World) → A w → Makes A Q w (no_output w)
  stay_makes w a = record { keeps = a; is = r.stays w }

  pub close_makes : (w : World) → A w → Makes A Q w (close_client n w)
  close_makes w a = record { keeps = ground.closes n w a; is = r.closes w a }

  pub send_makes : (w : World) (frame : Option (List ℕ)) → MaySend w frame → A w → Makes A Q w (send_or_close n w frame)
  send_makes w None may a = close_makes w a
  send_makes w (Some bytes) may a = record { keeps = a; is = r.sends w bytes (may bytes refl) }

  pub send_last_makes : (w : World) (frame : Option (List ℕ)) → MaySend w frame → A w → Makes A Q w (send_last n w frame)
  send_last_makes w frame may a =
      then_makes w (send_or_close n w frame) (close_client n) (send_makes w frame may a)
      (close_makes (send_or_close n w frame).after)

  -- ---- watches

  watch_makes : (w : World) (watch : Watch) → (Strict → IsOpen n w) → A w
      → Makes A Q w (no_output (with_watches w (with_watch n w.clients.watches watch)))
  watch_makes w watch here a = record { keeps = ground.watches w watch here a; is = r.watches w watch a }

  watch_each_makes : (w : World) (watches : List Watch) → (Strict → IsOpen n w) → A w
      → Makes A Q w (no_output (with_watches w (with_each_watch n w.clients.watches watches)))
  watch_each_makes w [] here a = stay_makes w a
  watch_each_makes w (watch ∷ others) here a =
      let v = with_watches w (with_watch n w.clients.watches watch) in
      then_makes w (no_output v)
      (λ u. no_output (with_watches u (with_each_watch n u.clients.watches others))) (watch_makes w watch here a)
      (watch_each_makes v others here)

  watch_if_makes : (w : World) (watch : Option Watch) → (Strict → IsOpen n w) → A w
      → Makes A Q w (no_output (with_watches w (with_watch_if n w.clients.watches watch)))
  watch_if_makes w None here a = stay_makes w a
  watch_if_makes w (Some watch) here a = watch_makes w watch here a

  -- A reply that has only an error, or none.
  error_makes : (w : World) (xid zxid error : ℤ) → is_plain (OfError error) ≡ true → IsLastOrNone w.replica zxid → A w
      → Makes A Q w (send_or_close n w (reply_frame xid zxid (without_body error)))
  error_makes w xid zxid error plain named a =
      send_makes w (reply_frame xid zxid (without_body error)) (error_reply w xid zxid error plain named) a

  last_error_makes : (w : World) (xid zxid error : ℤ) → is_plain (OfError error) ≡ true → IsLastOrNone w.replica zxid
      → A w
      → Makes A Q w (send_last n w (reply_frame xid zxid (without_body error)))
  last_error_makes w xid zxid error plain named a =
      send_last_makes w (reply_frame xid zxid (without_body error)) (error_reply w xid zxid error plain named) a

  -- A request whose body can't be read.
  unread_makes : (w : World) (xid : ℤ) → A w → Makes A Q w (answer_unreadable n w xid)
  unread_makes w xid a =
      error_makes w xid w.replica.learner.last_zxid (unreadable_error w.settings.dialect)
      (unreadable_plain w.settings.dialect) (inl refl) a

  checked_makes : (w : World) (xid : ℤ) (o : Option SoughtWatch) → A w
      → Makes A Q w (answer_check_watches n w xid o)
  checked_makes w xid None a = unread_makes w xid a
  checked_makes w xid (Some sought) a =
      let is_there = has_sought_watch n w sought in
      error_makes w xid w.replica.learner.last_zxid (cond is_there OK NO_WATCHER) (sought_plain is_there)
      (inl refl) a

  removed_makes : (w : World) (xid : ℤ) (o : Option SoughtWatch) → A w
      → Makes A Q w (answer_remove_watches n w xid o)
  removed_makes w xid None a = unread_makes w xid a
  removed_makes w xid (Some sought) a =
      let is_there = has_sought_watch n w sought in
      let zxid = w.replica.learner.last_zxid in
      let v = with_watches w (without_watch sought.kind n sought.path w.clients.watches) in
      then_makes w (no_output v) (λ u. send_or_close n u (reply_frame xid zxid (look_of_sought is_there)))
      (record {
        keeps = ground.unwatches w sought.kind sought.path a;
        is = r.unwatches w sought.kind sought.path a;
      })
      (error_makes v xid zxid (cond is_there OK NO_WATCHER) (sought_plain is_there) (inl refl))

  notice_makes : (w : World) (event : Event) → A w → Makes A Q w (record { outputs = notice_to n event; after = w })
  notice_makes w event a = by frame (notice_shows w event)
    where
      frame : Option (List ℕ)
      frame = reply_frame NOTIFICATION_XID (negsuc 0) (look_of_event event)

      by : (frame : Option (List ℕ)) → MaySend w frame → Makes A Q w (record { outputs = sent_to n frame; after = w })
      by None may = stay_makes w a
      by (Some bytes) may = send_makes w (Some bytes) may a

  notices_make : (w : World) (events : List Event) → A w
      → Makes A Q w (record { outputs = notices_to n events; after = w })
  notices_make w [] a = stay_makes w a
  notices_make w (event ∷ others) a =
      then_makes w (record { outputs = notice_to n event; after = w })
      (λ u. record { outputs = notices_to n others; after = u }) (notice_makes w event a) (notices_make w others)

  renewed_makes : (w : World) (xid : ℤ) (r : Option Renewal) → (Strict → IsOpen n w) → A w
      → Makes A Q w (answer_set_watches n w xid r)
  renewed_makes w xid None here a = error_makes w xid w.replica.learner.last_zxid BAD_ARGUMENTS refl (inl refl) a
  renewed_makes w xid (Some r) here a =
      let zxid = w.replica.learner.last_zxid in
      let frame = reply_frame xid zxid (without_body OK) in
      let v = with_watches w (with_each_watch n w.clients.watches r.watches) in
      then_makes w (record { outputs = notices_to n r.events; after = w })
      (λ u. and_then (no_output (with_watches u (with_each_watch n u.clients.watches r.watches)))
      (λ x. send_or_close n x frame))
      (notices_make w r.events a)
      (λ b. then_makes w (no_output v) (λ x. send_or_close n x frame) (watch_each_makes w r.watches here b)
      (error_makes v xid zxid OK refl (inl refl)))

  added_makes : (w : World) (xid : ℤ) (o : Option Watch) → (Strict → IsOpen n w) → A w
      → Makes A Q w (answer_add_watch n w xid o)
  added_makes w xid None here a = unread_makes w xid a
  added_makes w xid (Some watch) here a =
      let zxid = w.replica.learner.last_zxid in
      let frame = reply_frame xid zxid (look_of_added w.settings.dialect) in
      let v = with_watches w (with_watch n w.clients.watches watch) in
      then_makes w (no_output v) (λ u. send_or_close n u frame) (watch_makes w watch here a)
      (send_makes v frame (plain_reply v xid zxid (OfAdded w.settings.dialect) refl (inl refl)))

  read_makes : (w : World) (watch : Option Watch) (frame : Option (List ℕ)) → MaySend w frame → (Strict → IsOpen n w)
      → A w → Makes A Q w (send_or_close n (with_watches w (with_watch_if n w.clients.watches watch)) frame)
  read_makes w watch frame may here a =
      let v = with_watches w (with_watch_if n w.clients.watches watch) in
      then_makes w (no_output v) (λ u. send_or_close n u frame) (watch_if_makes w watch here a)
      (send_makes v frame may)

  -- ---- ids

  pub id_makes : (w : World) (id : Id) → (Strict → IsOpen n w) → A w
      → Makes A Q w (no_output (with_sessions w (add_id w.clients.sessions n id).after))
  id_makes w id here a = record { keeps = ground.shows w id here a; is = r.shows w id a }

  abbrev MakesShown : World → AuthResult → Type 0
  MakesShown w shown = Makes A Q w (no_output (with_sessions w shown.after))

  -- The id of the super user comes first, where the digest is that user's.
  digest_makes : (w : World) (digest : Id) → (Strict → IsOpen n w) → A w
      → MakesShown w (add_digest w.clients.sessions n digest)
  digest_makes w digest here a =
      let first = add_id w.clients.sessions n super_id in
      let v = with_sessions w first.after in
      cond_both (is_super_digest w.clients.sessions.terms.super_digest digest.id) _ _ (MakesShown w)
      (λ _. cond_both first.is_accepted _ _ (MakesShown w)
      (λ _. then_makes w (no_output v) (λ u. no_output (with_sessions u (add_id u.clients.sessions n digest).after))
      (id_makes w super_id here a) (id_makes v digest here))
      (λ _. id_makes w super_id here a))
      (λ _. id_makes w digest here a)

  text_makes : (w : World) (text : Option (List ℕ)) → (Strict → IsOpen n w) → A w
      → MakesShown w (auth_by w.clients.sessions n text)
  text_makes w None here a = stay_makes w a
  text_makes w (Some text) here a = digest_makes w (digest_id text) here a

  shown_makes : (w : World) (xid : ℤ) (packet : AuthPacket) → (Strict → IsOpen n w) → A w
      → Makes A Q w (send_auth_result n w xid (add_auth w.clients.sessions n packet.scheme packet.auth))
  shown_makes w xid packet here a =
      then_makes w (no_output v) (λ u. answered u shows.is_accepted)
      (text_makes w (digest_text packet.scheme packet.auth) here a) (by shows.is_accepted)
    where
      shows : AuthResult
      shows = add_auth w.clients.sessions n packet.scheme packet.auth

      v : World
      v = with_sessions w shows.after

      answered : World → Bool → StepResult World
      answered u b = cond b (send_or_close n u (reply_frame xid (pos 0) (without_body OK)))
          (send_last n u (reply_frame xid (pos 0) (without_body AUTH_FAILED)))

      by : (b : Bool) → A v → Makes A Q v (answered v b)
      by true b = error_makes v xid (pos 0) OK refl (inr (inl refl)) b
      by false b = last_error_makes v xid (pos 0) AUTH_FAILED refl (inr (inl refl)) b

  auth_makes : (w : World) (xid : ℤ) (o : Option AuthPacket) → (Strict → IsOpen n w) → A w
      → Makes A Q w (answer_auth n w xid o)
  auth_makes w xid None here a = unread_makes w xid a
  auth_makes w xid (Some packet) here a = shown_makes w xid packet here a

  -- ---- requests that are answered here

  look_makes : (w : World) (xid : ℤ) (read : TreeRead) → A w
      → Makes A Q w (send_reply n w xid (look_in w.replica.tree read))
  look_makes w xid read a =
      send_makes w (reply_frame xid w.replica.learner.last_zxid (look_in w.replica.tree read)) (read_reply w xid read) a

  pub local_makes : (w : World) (xid : ℤ) (c : LocalCall) → (Strict → IsOpen n w) → A w
      → Makes A Q w (handle_local n w xid c)
  local_makes w xid (locals.Read r) here a =
      let ids = ids_of w.clients.sessions n in
      let seen = look_at_state w.replica.tree ids r in
      read_makes w (watch_of r seen.error) (reply_frame xid w.replica.learner.last_zxid seen)
      (read_reply w xid (OfRequest ids r)) here a
  local_makes w xid (locals.SetWatches r) here a =
      renewed_makes w xid (renew_watches w.settings.dialect w.replica.tree r) here a
  local_makes w xid (locals.SetWatches2 r) here a =
      renewed_makes w xid (Some (renew_all_watches w.replica.tree r)) here a
  local_makes w xid (locals.AddWatch r) here a = added_makes w xid (watch_to_add w.settings.dialect r) here a
  local_makes w xid (locals.CheckWatches r) here a = checked_makes w xid (watch_sought r) a
  local_makes w xid (locals.RemoveWatches r) here a = removed_makes w xid (watch_sought r) a
  local_makes w xid (locals.MultiRead parts) here a =
      look_makes w xid (OfParts (ids_of w.clients.sessions n) parts) a
  local_makes w xid (locals.GetEphemerals r) here a =
      let session = unwrap_or (session_of_connection w.clients.sessions n) (pos 0) in
      look_makes w xid (OfEphemerals session r.path) a
  local_makes w xid (locals.GetAllChildrenNumber r) here a =
      look_makes w xid (OfNumber (ids_of w.clients.sessions n) r.path) a
  local_makes w xid locals.WhoAmI here a =
      let ids = ids_of w.clients.sessions n in
      let zxid = w.replica.learner.last_zxid in
      send_makes w (reply_frame xid zxid (look_at_ids ids)) (plain_reply w xid zxid (OfIds ids) refl (inl refl)) a
  local_makes w xid (locals.Sasl r) here a = by r.token
    where
      by : (token : Option (List ℕ)) → Makes A Q w (answer_sasl n w xid token)
      by None = close_makes w a
      by (Some token) =
          send_makes w (reply_frame xid (pos 0) look_of_sasl) (plain_reply w xid (pos 0) OfSasl refl (inr (inl refl))) a
  local_makes w xid locals.InvalidPath here a =
      error_makes w xid w.replica.learner.last_zxid BAD_ARGUMENTS refl (inl refl) a
  local_makes w xid locals.Unreadable here a = unread_makes w xid a
  local_makes w xid locals.Ping here a =
      error_makes w PING_XID w.replica.learner.last_zxid OK refl (inl refl) a
  local_makes w xid locals.Refused here a =
      error_makes w xid w.replica.learner.last_zxid NOT_READ_ONLY refl (inl refl) a
  local_makes w xid locals.Unknown here a =
      let zxid = unknown_zxid w.settings.dialect w.replica.learner.last_zxid in
      last_error_makes w xid zxid UNIMPLEMENTED refl (unknown_named w w.settings.dialect) a

  pub greet_makes : (w : World) (has_byte : Bool) (response : SessionResponse) → A w
      → Makes A Q w (send_connect_response n has_byte response w)
  greet_makes w has_byte response a =
      let frame = Some (answer_to_connect response has_byte) in
      let may = connect_shows w response has_byte in
      cond_both (int_eq response.session_id (pos 0)) _ _ (Makes A Q w) (λ _. send_last_makes w frame may a)
      (λ _. send_makes w frame may a)

  -- ---- requests for the leader

  module _ (Own : ℤ → Type 0) (q : HoldsOfCalls n A Own Q) where
    abbrev HasRoom : World → Type 0
    HasRoom w = is_full w.clients.pending n ≡ false

    push_makes : (w : World) (session : ℤ) (frame : List ℕ) (xid : ℤ) (kind : WriteKind) → Own session → HasRoom w
        → (Strict → IsOpen n w) → A w
        → Makes A Q w (forward_frame n session w frame (push_write w.clients.pending n xid kind))
    push_makes w session frame xid kind own room here a =
        record { keeps = ground.writes w xid kind room here a; is = q.writes w session frame xid kind own a }

    write_makes : (w : World) (session : ℤ) (frame : List ℕ) (xid : ℤ) (kind : WriteKind) → Own session → HasRoom w
        → (Strict → IsOpen n w) → A w → Makes A Q w (handle_call n session w frame xid (bodies.Forward kind))
    write_makes w session frame xid kind own room here a = by (is_close kind)
      where
        p : PendingTable
        p = push_write w.clients.pending n xid kind

        leaves : (o : Option OpenConnection) → finmap.get w.clients.connections n ≡ o
            → Makes A Q w (forward_frame n session (with_leaving n w o) frame p)
        leaves None e = push_makes w session frame xid kind own room here a
        leaves (Some k) e =
            let v = with_leaving n w (Some k) in
            then_makes w (no_output v)
            (λ u. forward_frame n session u frame (push_write u.clients.pending n xid kind))
            (record { keeps = ground.opens w (record k { is_leaving = true }) a; is = q.leaves w k e a })
            (push_makes v session frame xid kind own room
            (λ strict. ap is_some (get-inserted w.clients.connections n (record k { is_leaving = true }))))

        by : (b : Bool) → Makes A Q w
            (forward_frame n session (cond b (with_leaving n w (finmap.get w.clients.connections n)) w) frame p)
        by true = leaves (finmap.get w.clients.connections n) refl
        by false = push_makes w session frame xid kind own room here a

    hold_makes : (w : World) (frame : List ℕ) → HasRoom w → is_idle w.clients.pending n ≡ false → A w
        → Makes A Q w (no_output (with_pending w (hold_frame w.clients.pending n frame)))
    hold_makes w frame room busy a =
        record { keeps = ground.holds w frame room busy a; is = q.holds w frame busy a }

    call_makes : (w : World) (session : ℤ) (frame : List ℕ) (xid : ℤ) (b : CallBody) → Own session → HasRoom w
        → (Strict → IsOpen n w) → A w → Makes A Q w (handle_call n session w frame xid b)
    call_makes w session frame xid (bodies.Forward kind) own room here a =
        write_makes w session frame xid kind own room here a
    call_makes w session frame xid (bodies.Sync path) own room here a =
        record { keeps = ground.syncs w xid path room here a; is = q.syncs w session frame xid path own a }
    call_makes w session frame xid (bodies.Auth packet) own room here a = auth_makes w xid packet here a
    call_makes w session frame xid (bodies.Local c) own room here a =
        cond_both (is_idle w.clients.pending n) _ _ (Makes A Q w) (λ _. local_makes w xid c here a)
        (λ busy. hold_makes w frame room busy a)

    -- A frame of a connection that has a session.
    pub serve_as_makes : (w : World) (session : ℤ) (frame : List ℕ) (c : Result Call Fault) → Own session → HasRoom w
        → (Strict → IsOpen n w) → A w → Makes A Q w (serve_as n session w frame c)
    serve_as_makes w session frame (Ok c) own room here a = call_makes w session frame c.xid c.body own room here a
    serve_as_makes w session frame (Err e) own room here a = close_makes w a

    -- ---- connects

    module _ (May : World → ℤ → Type 0) (c : HoldsOfConnects n A Own May Q) where
      touch_makes : (w : World) (session : ℤ) → A w
          → Makes A Q w (no_output (with_pending w (touch_session w.clients.pending session)))
      touch_makes w session a =
          record { keeps = ground.touches w session a; is = q.touches w session (c.own session) a }

      -- A connection is served after its session was touched.
      touched_first : (w : World) (next : World → StepResult World)
          → ((p : PendingTable) → p.queues ≡ w.clients.pending.queues → A (with_pending w p)
          → Makes A Q (with_pending w p) (next (with_pending w p)))
          → A w → Makes A Q w (next (touch_client n w))
      touched_first w next then a = by (session_of_connection w.clients.sessions n)
        where
          by : (o : Option ℤ) → Makes A Q w (next (touched_as w o))
          by None = then w.clients.pending refl a
          by (Some session) =
              let p = touch_session w.clients.pending session in
              then_makes w (no_output (with_pending w p)) next (touch_makes w session a) (then p refl)

      pub give_makes : (w : World) (session time_out : ℤ) → (Strict → HasNone n w) → NoConnect n w
          → (Strict → IsOpen n w) → May w session → A w → Makes A Q w (given n w session time_out)
      give_makes w session time_out none free here may a = record {
        keeps = ground.gives w session time_out none free here a;
        is = c.gives w session time_out free may a;
      }

      -- The client is told, whichever session it has then.
      told_makes : (w : World) (asked : Connecting) (response : SessionResponse) → A w
          → Makes A Q w (send_connect_response n asked.has_byte response (touch_client n w))
      told_makes w asked response a =
          touched_first w (λ u. send_connect_response n asked.has_byte response u)
          (λ p _ b. greet_makes (with_pending w p) asked.has_byte response b) a

      -- A refusal names no session.
      refused_makes : (w : World) (asked : Connecting) → A w
          → Makes A Q w (finish_connect n w asked (refused_connect w.clients.sessions))
      refused_makes w asked a =
          cond_both (is_new_session asked.request refusal_response) _ _ (Makes A Q w)
          (λ new. absurd (true≢false (sym new ∙ never (int_eq asked.request.session_id (pos 0)))))
          (λ _. told_makes w asked refusal_response a)
        where
          never : (b : Bool) → (b && false) ≡ false
          never true = refl
          never false = refl

      -- No connection gets a session at once that the leader has to create first.
      name_makes : (w : World) (asked : Connecting) (time_out : ℤ) → HasNone n w
          → is_idle w.clients.pending n ≡ true → (Strict → IsOpen n w) → A w
          → Makes A Q w (finish_connect n w asked (name_session w.clients.sessions time_out))
      name_makes w asked time_out none idle here a =
          cond_both (s.counter == greatest_counter) _ _ (λ (x : ConnectResult). Makes A Q w (finish_connect n w asked x))
          (λ _. refused_makes w asked a)
          (λ below. let b = ground.counts w none below a in
          cond_both (is_new_session asked.request response) _ _ (Makes A Q w)
          (λ _. cond_both (is_some waits) _ _ (Makes A Q w)
          (λ _. after_count b (send_connect_response n asked.has_byte refusal_response)
          (greet_makes v asked.has_byte refusal_response b))
          (λ free. record {
            keeps = ground.asks v (new_connect (next_id w) response.time_out asked.has_byte) none idle
                (λ _. none_is waits free) here b;
            is = c.asks w response.time_out asked.has_byte none idle a b;
          }))
          (λ _. after_count b (λ u. send_connect_response n asked.has_byte response (touch_client n u))
          (told_makes v asked response b)))
        where
          s : Sessions
          s = w.clients.sessions

          v : World
          v = counted w

          waits : Option ℕ
          waits = connecting_to v.clients.pending (next_id w)

          response : SessionResponse
          response = session_response s.terms (next_id w) time_out

          after_count : A v → (next : World → StepResult World) → Makes A Q v (next v) → Makes A Q w (next v)
          after_count b next then =
              then_makes w (no_output v) next (record { keeps = b; is = c.counts w none a }) (λ _. then)

      -- A session that lives is taken up at once.
      reconnect_makes : (w : World) (asked : Connecting) (session time_out : ℤ)
          → int_eq asked.request.session_id (pos 0) ≡ false → HasNone n w → is_idle w.clients.pending n ≡ true
          → (Strict → IsOpen n w) → is_live session w ≡ true → A w
          → Makes A Q w (finish_connect n w asked (give_session w.clients.sessions n session time_out))
      reconnect_makes w asked session time_out other none idle here live a =
          cond_both (is_new_session asked.request x.connected.response) _ _ (Makes A Q w)
          (λ new. absurd (true≢false (sym (first_true (int_eq asked.request.session_id (pos 0)) _ new) ∙ other)))
          (λ _. by (session_of_connection x.after n))
        where
          x : ConnectResult
          x = give_session w.clients.sessions n session time_out

          greet : World → StepResult World
          greet = send_connect_response n asked.has_byte x.connected.response

          by : (o : Option ℤ)
              → Makes A Q w (and_then (close_client_if_some (touched_as (with_sessions w x.after) o) x.connected.older) greet)
          by None =
              then_makes w (given n w session time_out) greet
              (give_makes w session time_out (λ _. none) (idle_connect w.clients.pending n idle) here
              (c.may w session live) a)
              (greet_makes (given n w session time_out).after asked.has_byte x.connected.response)
          by (Some touched) =
              let v = with_pending w (touch_session w.clients.pending touched) in
              then_makes w (no_output v)
              (λ u. and_then (given n u session time_out) greet) (touch_makes w touched a)
              (λ b. then_makes v (given n v session time_out) greet
              (give_makes v session time_out (λ _. none) (idle_connect w.clients.pending n idle) here
              (c.may v session live) b)
              (greet_makes (given n v session time_out).after asked.has_byte x.connected.response))

      finish_makes : (w : World) (asked : Connecting) → HasNone n w → is_idle w.clients.pending n ≡ true
          → (Strict → IsOpen n w) → A w
          → Makes A Q w (finish_connect n w asked
          (connect_session w.clients.sessions n (is_live asked.request.session_id w) (session_request_of asked.request)))
      finish_makes w asked none idle here a =
          cond_both (int_eq session (pos 0)) _ _ Finishes
          (λ _. name_makes w asked asked.request.time_out none idle here a)
          (λ other. cond_both (is_valid s (is_live session w) (session_request_of asked.request)) _ _ Finishes
          (λ valid. reconnect_makes w asked session asked.request.time_out other none idle here
          (first_true (is_live session w) _ valid) a)
          (λ _. refused_makes w asked a))
        where
          s : Sessions
          s = w.clients.sessions

          session : ℤ
          session = asked.request.session_id

          Finishes : ConnectResult → Type 0
          Finishes x = Makes A Q w (finish_connect n w asked x)

      -- ---- claims

      -- Another connection closes, or none.
      displace_makes : (w : World) (session : ℤ) (o : Option ℕ) → ((k : ℕ) → o ≡ Some k → IsWith session k w) → A w
          → Makes A Q w (close_client_if_some w o)
      displace_makes w session None with a = stay_makes w a
      displace_makes w session (Some k) with a =
          record { keeps = ground.closes k w a; is = c.displaces w session k (with k refl) a }

      others_make : (w : World) (session : ℤ) → A w → Makes A Q w (close_others session w)
      others_make w session a =
          then_makes w (close_client_if_some w (connection_of w.clients.sessions session))
          (λ v. close_client_if_some v (connecting_to v.clients.pending session))
          (displace_makes w session (connection_of w.clients.sessions session) (λ k e. inl e) a)
          (displace_makes (close_client_if_some w (connection_of w.clients.sessions session)).after session _ (λ k e. inr e))

      claim_makes : (w : World) (has_byte : Bool) (response : SessionResponse) → SessionsMove w → HasNone n w
          → is_idle w.clients.pending n ≡ true → (Strict → IsOpen n w) → A w
          → Makes A Q w (claim_session n has_byte w response)
      claim_makes w has_byte response move none idle here a =
          then_makes w (close_others session w) (ask_about_session n has_byte response) (others_make w session a)
          (λ b. record {
            keeps = ground.asks u (claiming session response.time_out has_byte) none_then idle_then
                (λ strict. free_after v strict first.keeps) (λ strict. open_after strict) b;
            is = c.claims u has_byte response (moves_after w session move) none_then idle_then b;
          })
        where
          session : ℤ
          session = response.session_id

          holder : Option ℕ
          holder = connection_of w.clients.sessions session

          v : World
          v = (close_client_if_some w holder).after

          waiter : Option ℕ
          waiter = connecting_to v.clients.pending session

          u : World
          u = (close_client_if_some v waiter).after

          first : Makes A Q w (close_client_if_some w holder)
          first = displace_makes w session holder (λ k e. inl e) a

          none_then : HasNone n u
          none_then = none_if_closed n v waiter (none_if_closed n w holder none)

          idle_then : is_idle u.clients.pending n ≡ true
          idle_then = idle_if_closed n v waiter (idle_if_closed n w holder idle)

          free_after : (v : World) → Strict → A v
              → connecting_to (close_client_if_some v (connecting_to v.clients.pending session)).after.clients.pending session
              ≡ None
          free_after v strict b = by (connecting_to v.clients.pending session) refl
            where
              by : (o : Option ℕ) → connecting_to v.clients.pending session ≡ o
                  → connecting_to (close_client_if_some v o).after.clients.pending session ≡ None
              by None e = e
              by (Some k) e = ground.alone v session k strict b e

          open_after : Strict → IsOpen n u
          open_after strict =
              open_if_closed n v waiter
              (λ k e. ground.others v session k strict first.keeps (none_if_closed n w holder none)
              (idle_if_closed n w holder idle) (inr e))
              (open_if_closed n w holder (λ k e. ground.others w session k strict a none idle (inl e)) (here strict))

          moves_after : (w : World) (session : ℤ) → SessionsMove w → SessionsMove (close_others session w).after
          moves_after w session move = second (close_client_if_some w (connection_of w.clients.sessions session)).after
              (one w (connection_of w.clients.sessions session) move)
            where
              one : (w : World) (o : Option ℕ) → SessionsMove w → SessionsMove (close_client_if_some w o).after
              one w None move = move
              one w (Some k) move = move

              second : (v : World) → SessionsMove v
                  → SessionsMove (close_client_if_some v (connecting_to v.clients.pending session)).after
              second v move = one v (connecting_to v.clients.pending session) move

      claimed_makes : (w : World) (asked : Connecting) (o : Option SessionResponse) → SessionsMove w → HasNone n w
          → is_idle w.clients.pending n ≡ true → (Strict → IsOpen n w) → A w
          → Makes A Q w (claim_or_refuse n asked.has_byte w o)
      claimed_makes w asked None move none idle here a = greet_makes w asked.has_byte refusal_response a
      claimed_makes w asked (Some response) move none idle here a =
          claim_makes w asked.has_byte response move none idle here a

      connect_makes : (serving : Bool) (w : World) (r : Result Connecting Fault) → HasNone n w
          → is_idle w.clients.pending n ≡ true → (Strict → IsOpen n w) → A w
          → Makes A Q w (handle_connect serving n w r)
      connect_makes serving w (Err e) none idle here a = close_makes w a
      connect_makes serving w (Ok asked) none idle here a =
          cond_both (may_connect serving w asked.request) _ _ (Makes A Q w)
          (λ _. cond_both (is_claim w asked.request) _ _ (Makes A Q w)
          (λ claims. claimed_makes w asked (claimed_session w.clients.sessions (session_request_of asked.request))
          (first_true (reads_of w.settings.dialect).moved_sessions _ claims) none idle here a)
          (λ _. finish_makes w asked none idle here a))
          (λ _. close_makes w a)

      -- ---- frames

      serve_by_makes : (serving : Bool) (w : World) (frame : List ℕ) (o : Option ℤ)
          → session_of_connection w.clients.sessions n ≡ o → HasRoom w → (Strict → IsOpen n w) → A w
          → Makes A Q w (serve_by serving n w frame o)
      serve_by_makes serving w frame None e room here a =
          cond_both (is_idle w.clients.pending n) _ _ (Makes A Q w)
          (λ idle. connect_makes serving w (connecting_in frame)
          (no_session (finmap.get w.clients.sessions.connections n) e) idle here a)
          (λ busy. hold_makes w frame room busy a)
      serve_by_makes serving w frame (Some session) e room here a =
          serve_as_makes w session frame (call_of w frame) (c.own session) room here a

      after_touch_makes : (serving : Bool) (w : World) (frame : List ℕ) → (Strict → IsOpen n w) → A w
          → Makes A Q w (cond (is_refused_frame n w frame) (close_client n w)
          (serve_by serving n w frame (session_of_connection w.clients.sessions n)))
      after_touch_makes serving w frame here a =
          cond_both (is_refused_frame n w frame) _ _ (Makes A Q w) (λ _. close_makes w a)
          (λ taken. serve_by_makes serving w frame (session_of_connection w.clients.sessions n) refl
          (first_false (is_full w.clients.pending n) (nat_lt (length frame) header_len) taken) here a)

      pub serve_makes : (serving : Bool) (w : World) (frame : List ℕ) → (Strict → IsOpen n w) → A w
          → Makes A Q w (serve_frame serving n w frame)
      serve_makes serving w frame here a =
          touched_first w
          (λ v. cond (is_refused_frame n v frame) (close_client n v)
          (serve_by serving n v frame (session_of_connection v.clients.sessions n)))
          (λ p _ b. after_touch_makes serving (with_pending w p) frame here b) a

      pub frames_make : (serving : Bool) (w : World) (fs : List (List ℕ)) → A w
          → Makes A Q w (fold_steps (is_unheard n) (serve_frame serving n) w fs)
      frames_make serving w [] a = stay_makes w a
      frames_make serving w (f ∷ fs) a =
          cond_both (is_unheard n w) _ _ (Makes A Q w) (λ _. stay_makes w a)
          (λ heard. then_makes w (serve_frame serving n w f)
          (λ v. fold_steps (is_unheard n) (serve_frame serving n) v fs)
          (serve_makes serving w f (λ _. heard_open n w heard) a)
          (λ b. frames_make serving (serve_frame serving n w f).after fs b))

      -- ---- bytes

      module _ (rests : (w : World) (k : OpenConnection) (rest : List ℕ) → A w
          → Q w (no_output (with_waiting_bytes n w k rest))) where
        rest_makes : (w : World) (k : OpenConnection) (rest : List ℕ) → A w
            → Makes A Q w (no_output (with_waiting_bytes n w k rest))
        rest_makes w k rest a = record { keeps = ground.opens w (record k { rest = rest }) a; is = rests w k rest a }

        wait_makes : (w : World) (o : Option OpenConnection) (left : Unread) → A w
            → Makes A Q w (wait_if_heard n w o left)
        wait_makes w None left a = stay_makes w a
        wait_makes w (Some k) (Ok rest) a = rest_makes w k rest a
        wait_makes w (Some k) (Err f) a = close_makes w a

        pub client_makes : (serving : Bool) (w : World) (o : Option OpenConnection) (bytes : List ℕ) → A w
            → Makes A Q w (take_client_bytes serving n w o bytes)
        client_makes serving w None bytes a = stay_makes w a
        client_makes serving w (Some k) bytes a =
            then_makes w (no_output v) (λ u. tell_or_serve serving n u came (word_at n w came)) (rest_makes w k [] a)
            (by (word_at n w came))
          where
            came : List ℕ
            came = k.rest ++ bytes

            v : World
            v = with_waiting_bytes n w k []

            by : (o : Option Word) → A v → Makes A Q v (tell_or_serve serving n v came o)
            by None b =
                let found = items_in frames_of_client (place_at tt came) in
                let h = fold_steps (is_unheard n) (serve_frame serving n) v found.found in
                then_makes v h (wait_at n found.left.unread) (frames_make serving v found.found b)
                (wait_makes h.after (heard_connection n h.after.clients) found.left.unread)
            by (Some word) b =
                let figures = figures_of serving v in
                send_last_makes v (Some (reply_text word figures)) (word_shows v word figures) b
