-- A connection whose waiting bytes were taken out: no frame leaves any with it.
use Rattle.std.proofs.Common.{◌≡◌, ℕ, ℤ, pos, List, [], ◌∷◌, Option, Some, None, Result, Ok, Err, Bool, true, false, cond, refl, sym, ap, ◌∙◌}
use Rattle.std.specs.Prelude.{is_some, if◌then◌else◌, OnOk}
use Rattle.std.specs.Option.{unwrap_or}
use Rattle.std.specs.FinMap as finmap
use Rattle.std.specs.Ordering.{eq_by_cmp, nat_cmp, int_eq}
use Rattle.std.specs.Cmp.{nat_cmp_total}
use mathlib.Core.Bool.{true≢false}
use Rattle.values.specs.declared.fault.Fault.{Fault}
use Rattle.values.specs.declared.fault.NoMemory.{NoMemory}
use Rattle.jute.specs.Stream.{place_at, items_in}
use Rattle.jute.specs.declared.codes.TheConstants.{BAD_ARGUMENTS}
use Rattle.client_records.specs.declared.codes.TheConstants.{OK, UNIMPLEMENTED, AUTH_FAILED, NOT_READ_ONLY, PING_XID}
use Rattle.sessions.specs.Sessions.{session_of_connection, connection_of, ids_of, connect_session, claimed_session, refusal_response, add_auth}
use Rattle.sessions.specs.declared.request.Connected.{Connected}
use Rattle.sessions.specs.declared.request.SessionResponse.{SessionResponse}
use Rattle.watch_manager.specs.Kinds.{without_watch}
use Rattle.read_processor.specs.declared.watch.SoughtWatch.{SoughtWatch}
use Rattle.read_processor.specs.declared.watch.Watch.{Watch}
use Rattle.read_processor.specs.declared.renewal.Renewal.{Renewal}
use Rattle.read_processor.specs.declared.shown.Look.{Look}
use Rattle.read_processor.specs.Look.{look_at_state, without_body}
use Rattle.read_processor.specs.MultiReads.{look_at_parts}
use Rattle.read_processor.specs.LaterReads.{look_at_ephemerals, look_below, look_at_ids, look_of_sasl}
use Rattle.read_processor.specs.Watch.{watch_of, watch_to_add, look_of_added, watch_sought}
use Rattle.read_processor.specs.Renewal.{renew_watches, renew_all_watches}
use Rattle.read_processor.specs.Reply.{reply_frame}
use Rattle.client_frames.specs.declared.call.Call.{Call}
use Rattle.client_frames.specs.declared.call.CallBody.{CallBody}
use Rattle.client_frames.specs.declared.call.CallBody.TheVariants as bodies
use Rattle.client_frames.specs.declared.call.LocalCall.{LocalCall}
use Rattle.client_frames.specs.declared.call.LocalCall.TheVariants as locals
use Rattle.client_frames.specs.declared.connecting.Connecting.{Connecting}
use Rattle.client_frames.specs.Connect.{connecting_in, session_request_of, answer_to_connect}
use Rattle.forwarding.specs.declared.request.WriteKind.{WriteKind}
use Rattle.forwarding.specs.Queue.{is_close}
use Rattle.forwarding.specs.Pending.{is_idle, connecting_to, hold_frame}
use Rattle.world.specs.World.{OpenConnection, OpenConnections, World}
use Rattle.world.specs.Steps.{StepResult, prepend_outputs, no_output, and_then}
use Rattle.world.specs.Clients.{heard_in, is_open, heard_connection, is_heard, rest_at, with_rest}
use Rattle.world.specs.Sending.{close_client, send_or_close, send_last, send_reply, close_client_if_some, with_watches, with_sessions, with_pending}
use Rattle.world.specs.Results.{MeetsStep}
use Rattle.world.proofs.NatMaps.{same_key, insert-same}
use Rattle.world.proofs.Heard.{heard_open}
use Rattle.client_service.specs.Serve.{with_watch, with_each_watch, with_watch_if, answer_read, answer_set_watches, answer_add_watch, has_sought_watch, look_of_sought, answer_check_watches, answer_remove_watches, touched_as, touch_client, send_connect_response, answer_connect, refuse_connect, ask_for_session, close_others, ask_about_session, claim_or_refuse, is_claim, is_new_session, finish_connect, may_connect, is_live, connect_client, call_of, handle_connect, handle_local, with_leaving, leave_if_closing, handle_call, serve_as, serve_by, is_refused_frame, serve_frame, serve_all, frames_of_client}
use Rattle.client_service.specs.LaterReads.{answer_sasl, unreadable_error, answer_unreadable, unknown_zxid}
use Rattle.client_service.specs.Runs.{AskedRead, answer_asked, answer_all_asked, serve_if_heard}
use Rattle.client_service.specs.Inner.{waiting_bytes, world_with_rest}
use Rattle.client_service.proofs.Serving.{nothing_found}
use Rattle.client_service.proofs.Running.{heard_with, none_complete}

abbrev waits : Option OpenConnection → List ℕ
waits o = unwrap_or (rest_at (heard_in o)) []

none_leaving : (b : Bool) (c : OpenConnection) → unwrap_or (rest_at (cond b None (Some (record c { rest = [] })))) [] ≡ []
none_leaving true c = refl
none_leaving false c = refl

module _ (n : ℕ) where
  abbrev NoneWait : World → Type 0
  NoneWait w = waiting_bytes n w ≡ []

  either : (b : Bool) (x y : StepResult World) → NoneWait x.after → NoneWait y.after → NoneWait (cond b x y).after
  either true x y first second = first
  either false x y first second = second

  -- ---- what is sent

  closed : (k : ℕ) (w : World) → NoneWait w → NoneWait (close_client k w).after
  closed k w none =
      ap waits (finmap.get-remove nat_cmp_total w.clients.connections k n) ∙ by (eq_by_cmp nat_cmp n k)
    where
      by : (b : Bool) → waits (cond b None (finmap.get w.clients.connections n)) ≡ []
      by true = refl
      by false = none

  sent : (k : ℕ) (w : World) (frame : Option (List ℕ)) → NoneWait w → NoneWait (send_or_close k w frame).after
  sent k w None none = closed k w none
  sent k w (Some bytes) none = none

  sent_last : (k : ℕ) (w : World) (frame : Option (List ℕ)) → NoneWait w → NoneWait (send_last k w frame).after
  sent_last k w frame none = closed k (send_or_close k w frame).after (sent k w frame none)

  replied : (k : ℕ) (w : World) (xid : ℤ) (seen : Look) → NoneWait w → NoneWait (send_reply k w xid seen).after
  replied k w xid seen none = sent k w (reply_frame xid w.replica.learner.last_zxid seen) none

  touched : (k : ℕ) (w : World) → NoneWait w → NoneWait (touch_client k w)
  touched k w none = by (session_of_connection w.clients.sessions k)
    where
      by : (o : Option ℤ) → NoneWait (touched_as w o)
      by None = none
      by (Some session) = none

  -- ---- a frame of a connection without a session

  responded : (k : ℕ) (has_byte : Bool) (response : SessionResponse) (w : World) → NoneWait w
      → NoneWait (send_connect_response k has_byte response w).after
  responded k has_byte response w none =
      let frame = Some (answer_to_connect response has_byte) in
      either (int_eq response.session_id (pos 0)) (send_last k w frame) (send_or_close k w frame)
      (sent_last k w frame none) none

  closed_if_some : (o : Option ℕ) (w : World) → NoneWait w → NoneWait (close_client_if_some w o).after
  closed_if_some None w none = none
  closed_if_some (Some k) w none = closed k w none

  answered : (k : ℕ) (has_byte : Bool) (w : World) (connected : Connected) → NoneWait w
      → NoneWait (answer_connect k has_byte w connected).after
  answered k has_byte w connected none =
      responded k has_byte connected.response (close_client_if_some w connected.older).after
      (closed_if_some connected.older w none)

  session_asked : (k : ℕ) (has_byte : Bool) (w : World) (response : SessionResponse) → NoneWait w
      → NoneWait (ask_for_session k has_byte w response).after
  session_asked k has_byte w response none =
      either (is_some (connecting_to w.clients.pending response.session_id)) (refuse_connect k has_byte w) _
      (responded k has_byte refusal_response w none) none

  others_closed : (session : ℤ) (w : World) → NoneWait w → NoneWait (close_others session w).after
  others_closed session w none =
      let v = (close_client_if_some w (connection_of w.clients.sessions session)).after in
      closed_if_some (connecting_to v.clients.pending session) v
      (closed_if_some (connection_of w.clients.sessions session) w none)

  claimed : (k : ℕ) (has_byte : Bool) (w : World) (o : Option SessionResponse) → NoneWait w
      → NoneWait (claim_or_refuse k has_byte w o).after
  claimed k has_byte w None none = responded k has_byte refusal_response w none
  claimed k has_byte w (Some response) none = others_closed response.session_id w none

  connected : (serving : Bool) (k : ℕ) (w : World) (r : Result Connecting Fault) → NoneWait w
      → NoneWait (handle_connect serving k w r).after
  connected serving k w (Err e) none = closed k w none
  connected serving k w (Ok c) none =
      let got = connect_session w.clients.sessions k (is_live c.request.session_id w) (session_request_of c.request) in
      let v = with_sessions w got.after in
      let claim = claimed_session w.clients.sessions (session_request_of c.request) in
      either (may_connect serving w c.request) (connect_client k w c) (close_client k w)
      (either (is_claim w c.request) (claim_or_refuse k c.has_byte w claim) (finish_connect k w c got)
      (claimed k c.has_byte w claim none)
      (either (is_new_session c.request got.connected.response)
      (ask_for_session k c.has_byte v got.connected.response)
      (answer_connect k c.has_byte (touch_client k v) got.connected)
      (session_asked k c.has_byte v got.connected.response none)
      (answered k c.has_byte (touch_client k v) got.connected (touched k v none))))
      (closed k w none)

  held : (k : ℕ) (w : World) (frame : List ℕ) (h : StepResult World) → NoneWait w → NoneWait h.after
      → NoneWait (if is_idle w.clients.pending k then h
      else no_output (with_pending w (hold_frame w.clients.pending k frame))).after
  held k w frame h none done =
      either (is_idle w.clients.pending k) h (no_output (with_pending w (hold_frame w.clients.pending k frame))) done none

  -- ---- a frame of a session

  renewed : (k : ℕ) (w : World) (xid : ℤ) (o : Option Renewal) → NoneWait w
      → NoneWait (answer_set_watches k w xid o).after
  renewed k w xid None none = replied k w xid (without_body BAD_ARGUMENTS) none
  renewed k w xid (Some r) none =
      replied k (with_watches w (with_each_watch k w.clients.watches r.watches)) xid (without_body OK) none

  not_read : (k : ℕ) (w : World) (xid : ℤ) → NoneWait w → NoneWait (answer_unreadable k w xid).after
  not_read k w xid none = replied k w xid (without_body (unreadable_error w.settings.dialect)) none

  local_answered : (k : ℕ) (w : World) (xid : ℤ) (call : LocalCall) → NoneWait w
      → NoneWait (handle_local k w xid call).after
  local_answered k w xid (locals.Read r) none =
      let seen = look_at_state w.replica.tree (ids_of w.clients.sessions k) r in
      replied k (with_watches w (with_watch_if k w.clients.watches (watch_of r seen.error))) xid seen none
  local_answered k w xid (locals.SetWatches r) none =
      renewed k w xid (renew_watches w.settings.dialect w.replica.tree r) none
  local_answered k w xid (locals.SetWatches2 r) none =
      renewed k w xid (Some (renew_all_watches w.replica.tree r)) none
  local_answered k w xid (locals.AddWatch r) none = by (watch_to_add w.settings.dialect r)
    where
      by : (o : Option Watch) → NoneWait (answer_add_watch k w xid o).after
      by None = not_read k w xid none
      by (Some watch) =
          replied k (with_watches w (with_watch k w.clients.watches watch)) xid (look_of_added w.settings.dialect) none
  local_answered k w xid (locals.CheckWatches r) none = by (watch_sought r)
    where
      by : (o : Option SoughtWatch) → NoneWait (answer_check_watches k w xid o).after
      by None = not_read k w xid none
      by (Some sought) = replied k w xid (look_of_sought (has_sought_watch k w sought)) none
  local_answered k w xid (locals.RemoveWatches r) none = by (watch_sought r)
    where
      by : (o : Option SoughtWatch) → NoneWait (answer_remove_watches k w xid o).after
      by None = not_read k w xid none
      by (Some sought) =
          replied k (with_watches w (without_watch sought.kind k sought.path w.clients.watches)) xid
          (look_of_sought (has_sought_watch k w sought)) none
  local_answered k w xid (locals.MultiRead parts) none =
      replied k w xid (look_at_parts w.replica.tree (ids_of w.clients.sessions k) parts) none
  local_answered k w xid (locals.GetEphemerals r) none =
      let session = unwrap_or (session_of_connection w.clients.sessions k) (pos 0) in
      replied k w xid (look_at_ephemerals w.replica.tree session r.path) none
  local_answered k w xid (locals.GetAllChildrenNumber r) none =
      replied k w xid (look_below w.replica.tree (ids_of w.clients.sessions k) r.path) none
  local_answered k w xid locals.WhoAmI none = replied k w xid (look_at_ids (ids_of w.clients.sessions k)) none
  local_answered k w xid (locals.Sasl r) none = by r.token
    where
      by : (token : Option (List ℕ)) → NoneWait (answer_sasl k w xid token).after
      by None = closed k w none
      by (Some token) = sent k w (reply_frame xid (pos 0) look_of_sasl) none
  local_answered k w xid locals.InvalidPath none = replied k w xid (without_body BAD_ARGUMENTS) none
  local_answered k w xid locals.Unreadable none = not_read k w xid none
  local_answered k w xid locals.Ping none = replied k w PING_XID (without_body OK) none
  local_answered k w xid locals.Refused none = replied k w xid (without_body NOT_READ_ONLY) none
  local_answered k w xid locals.Unknown none =
      let zxid = unknown_zxid w.settings.dialect w.replica.learner.last_zxid in
      sent_last k w (reply_frame xid zxid (without_body UNIMPLEMENTED)) none

  left : (k : ℕ) (kind : WriteKind) (w : World) → NoneWait w → NoneWait (leave_if_closing k kind w)
  left k kind w none = by (is_close kind)
    where
      leaving : (o : Option OpenConnection) → NoneWait (with_leaving k w o)
      leaving None = none
      leaving (Some c) =
          ap waits (finmap.get-insert nat_cmp_total w.clients.connections k (record c { is_leaving = true }) n)
          ∙ there (eq_by_cmp nat_cmp n k)
        where
          there : (b : Bool)
              → waits (cond b (Some (record c { is_leaving = true })) (finmap.get w.clients.connections n)) ≡ []
          there true = refl
          there false = none

      by : (b : Bool) → NoneWait (cond b (with_leaving k w (finmap.get w.clients.connections k)) w)
      by true = leaving (finmap.get w.clients.connections k)
      by false = none

  called : (k : ℕ) (session : ℤ) (w : World) (frame : List ℕ) (xid : ℤ) (body : CallBody) → NoneWait w
      → NoneWait (handle_call k session w frame xid body).after
  called k session w frame xid (bodies.Forward kind) none = left k kind w none
  called k session w frame xid (bodies.Sync path) none = none
  called k session w frame xid (bodies.Auth None) none = not_read k w xid none
  called k session w frame xid (bodies.Auth (Some packet)) none =
      let shows = add_auth w.clients.sessions k packet.scheme packet.auth in
      let v = with_sessions w shows.after in
      let refused = reply_frame xid (pos 0) (without_body AUTH_FAILED) in
      either shows.is_accepted (send_or_close k v (reply_frame xid (pos 0) (without_body OK))) (send_last k v refused)
      (sent k v (reply_frame xid (pos 0) (without_body OK)) none) (sent_last k v refused none)
  called k session w frame xid (bodies.Local call) none =
      held k w frame (handle_local k w xid call) none (local_answered k w xid call none)

  read_as : (k : ℕ) (session : ℤ) (w : World) (frame : List ℕ) (r : Result Call Fault) → NoneWait w
      → NoneWait (serve_as k session w frame r).after
  read_as k session w frame (Ok c) none = called k session w frame c.xid c.body none
  read_as k session w frame (Err e) none = closed k w none

  -- ---- frames, and reads that wait

  pub none_after_frame : (serving : Bool) (k : ℕ) (w : World) (frame : List ℕ) → NoneWait w
      → NoneWait (serve_frame serving k w frame).after
  none_after_frame serving k w frame none =
      let v = touch_client k w in
      either (is_refused_frame k v frame) (close_client k v)
      (serve_by serving k v frame (session_of_connection v.clients.sessions k))
      (closed k v (touched k w none)) (by v (session_of_connection v.clients.sessions k) (touched k w none))
    where
      by : (v : World) (o : Option ℤ) → NoneWait v → NoneWait (serve_by serving k v frame o).after
      by v None none = held k v frame (handle_connect serving k v (connecting_in frame)) none
          (connected serving k v (connecting_in frame) none)
      by v (Some session) none = read_as k session v frame (call_of v frame) none

  none_if_heard : (serving : Bool) (k : ℕ) (frame : List ℕ) (w : World) → NoneWait w
      → NoneWait (serve_if_heard serving k frame w).after
  none_if_heard serving k frame w none =
      either (is_heard k w.clients) (serve_frame serving k w frame) (no_output w) (none_after_frame serving k w frame none)
      none

  none_after_reads : (asked : List AskedRead) (w : World) → NoneWait w → NoneWait (answer_all_asked asked w).after
  none_after_reads [] w none = none
  none_after_reads (a ∷ asked) w none = none_after_reads asked (answer_asked w a).after
      (either (is_open a.number w.clients) (answer_read a.number (touch_client a.number w) a.xid a.request) (no_output w)
      (local_answered a.number (touch_client a.number w) a.xid (locals.Read a.request) (touched a.number w none)) none)

  -- ---- taken out, and put back

  -- Where no bytes wait, nothing has to be put back.
  nothing_to_keep : (w : World) → NoneWait w → world_with_rest n [] w ≡ w
  nothing_to_keep w none =
      ap (λ (m : OpenConnections). record w { clients = record w.clients { connections = m } })
      (by (heard_connection n w.clients) refl)
    where
      by : (o : Option OpenConnection) → heard_connection n w.clients ≡ o
          → with_rest w.clients.connections n o [] ≡ w.clients.connections
      by None e = refl
      by (Some c) e =
          let empty : c.rest ≡ [] = sym (ap (λ (o : Option OpenConnection). unwrap_or (rest_at o) []) e) ∙ none in
          insert-same w.clients.connections n (record c { rest = [] })
          (heard_open (finmap.get w.clients.connections n) c e
          ∙ ap (λ (rest : List ℕ). Some (record c { rest = rest })) empty)

  -- No byte is left, and none has to be put back.
  pub nothing_left : (serving : Bool) (asked : List AskedRead) (w : World) (bytes : List ℕ) → bytes ≡ [] → NoneWait w
      → and_then (answer_all_asked asked w)
      (λ u. serve_all serving n u (items_in frames_of_client (place_at tt bytes))) ≡ answer_all_asked asked w
  nothing_left serving asked w bytes empty none =
      none_complete serving n asked w (items_in frames_of_client (place_at tt bytes)) []
      (ap (λ (b : List ℕ). items_in frames_of_client (place_at tt b)) empty ∙ nothing_found)
      ∙ ap (answer_all_asked asked) (nothing_to_keep w none)

  pub none_if_taken : (w : World) → NoneWait (world_with_rest n [] w)
  none_if_taken w = by (heard_connection n w.clients) refl
    where
      by : (o : Option OpenConnection) → heard_connection n w.clients ≡ o
          → waits (finmap.get (with_rest w.clients.connections n o []) n) ≡ []
      by None e = ap (λ (o : Option OpenConnection). unwrap_or (rest_at o) []) e
      by (Some c) e =
          ap waits (finmap.get-insert nat_cmp_total w.clients.connections n (record c { rest = [] }) n)
          ∙ ap (λ (b : Bool). waits (cond b (Some (record c { rest = [] })) (finmap.get w.clients.connections n)))
          (same_key n)
          ∙ none_leaving c.is_leaving c

  pub heard_if_taken : (w : World) (waiting : List ℕ) → Some waiting ≡ rest_at (heard_connection n w.clients)
      → is_heard n (world_with_rest n [] w).clients ≡ true
  heard_if_taken w waiting was =
      heard_with w.clients.connections n n (heard_connection n w.clients) [] refl
      ∙ by (heard_connection n w.clients) was
    where
      by : (o : Option OpenConnection) → Some waiting ≡ rest_at o → is_some o ≡ true
      by None was = absurd (true≢false (ap is_some was))
      by (Some c) was = refl

  -- A step that was made leaves no bytes where the whole step leaves none.
  pub none_if_made : (r : Result (Unit {0}) NoMemory) (old new : StepResult World) (h : StepResult World)
      → MeetsStep r old.outputs h new.outputs new.after → NoneWait h.after → OnOk r (NoneWait new.after)
  none_if_made (Ok u) old new h made none = ap (λ (g : StepResult World). waiting_bytes n g.after) (sym made) ∙ none
  none_if_made (Err e) old new h made none = tt

  -- Reads that wait are answered, and a frame is served after them.
  pub none_if_settled : (r : Result (Unit {0}) NoMemory) (serving : Bool) (k : ℕ) (frame : List ℕ)
      (asked : List AskedRead) (old mid new : StepResult World)
      → prepend_outputs old.outputs (answer_all_asked asked old.after) ≡ mid
      → MeetsStep r mid.outputs (serve_if_heard serving k frame mid.after) new.outputs new.after → NoneWait old.after
      → OnOk r (NoneWait new.after)
  none_if_settled r serving k frame asked old mid new made served none =
      none_if_made r mid new (serve_if_heard serving k frame mid.after) served
      (none_if_heard serving k frame mid.after
      (sym (ap (λ (h : StepResult World). waiting_bytes n h.after) made) ∙ none_after_reads asked old.after none))
