-- A connection has its session for as long as it is open.
use Rattle.std.proofs.Common.{◌≡◌, ◌≢◌, ℕ, ℤ, pos, Bool, true, false, cond, List, Option, Some, None, Result, Ok, Err, sym, ap, ◌∙◌}
use Rattle.std.specs.Prelude.{is_some}
use Rattle.std.specs.List.{list_any}
use Rattle.std.specs.Ordering.{eq_by_cmp, nat_cmp, int_eq}
use Rattle.std.specs.Cmp.{nat_cmp_total}
use Rattle.std.proofs.lemmas.Bool.{cond_both}
use Rattle.std.specs.FinMap as finmap
use mathlib.Core.Bool.{true≢false}
use Rattle.values.specs.declared.fault.Fault.{Fault}
use Rattle.jute.specs.Stream.{Unread}
use Rattle.jute.specs.declared.owned.Id.{Id}
use Rattle.sessions.specs.State.{SessionTable as Sessions, ConnectedClient as Joined}
use Rattle.sessions.specs.Sessions.{session_in, session_of_connection, close_as, close_if_some, close_connection, are_within_limits, is_same_id, with_id, AuthResult, show_in, add_id}
use Rattle.sessions.specs.declared.request.SessionResponse.{SessionResponse}
use Rattle.forwarding.specs.Pending.{is_full}
use Rattle.client_frames.specs.declared.call.Call.{Call}
use Rattle.client_frames.specs.Connect.{answer_to_connect}
use Rattle.world.specs.World.{OpenConnection, Clients, World}
use Rattle.world.specs.Steps.{StepResult}
use Rattle.world.specs.Clients.{is_open, heard_connection, without_client}
use Rattle.world.specs.Sending.{send_or_close, send_last}
use Rattle.client_service.specs.Serve.{send_connect_response, serve_as, wait_if_heard}
use Rattle.world.proofs.NatMaps.{get-inserted, get-removed}
use Rattle.observer_core.proofs.Walking.{Steps, HoldsOfReplies, HoldsOfCalls, serve_as_makes, heard_there}
use Rattle.observer_core.proofs.Answered.{closed_has_none}
use Rattle.observer_core.proofs.Plain.{Always, plain_ground}

pub none_or_some : {A : Type 0} (a : A) → None ≢ Some a
none_or_some a e = true≢false (sym (ap is_some e))

-- ---- what sessions keep

module _ (s : Sessions) (n : ℕ) where
  -- Adding an id leaves the session.
  show_keeps : (id : Id) (session : ℤ) (o : Option Joined) → session_in o ≡ Some session
      → session_of_connection s n ≡ Some session
      → session_of_connection (show_in s n id o).after n ≡ Some session
  show_keeps id session None none has = has
  show_keeps id session (Some c) is has =
      cond_both (list_any (λ shown. is_same_id shown id) c.ids) _ _
      (λ (x : AuthResult). session_of_connection x.after n ≡ Some session) (λ _. has)
      (λ _. cond_both (are_within_limits (with_id c id).ids) _ _
      (λ (x : AuthResult). session_of_connection x.after n ≡ Some session)
      (λ _. ap session_in (get-inserted s.connections n (with_id c id)) ∙ is) (λ _. has))

  id_keeps : (id : Id) (session : ℤ) → session_of_connection s n ≡ Some session
      → session_of_connection (add_id s n id).after n ≡ Some session
  id_keeps id session has = show_keeps id session (finmap.get s.connections n) has has

-- ---- sessions of the connections that are left

still_some : (b : Bool) (o : Option Joined) (session : ℤ) → session_in (cond b None o) ≡ Some session
    → session_in o ≡ Some session
still_some true o session e = absurd (true≢false (sym (ap is_some e)))
still_some false o session e = e

-- A connection that has a session after another closed had it before.
pub closed_fewer : (s : Sessions) (n m : ℕ) (session : ℤ) → session_of_connection (close_connection s n) m ≡ Some session
    → session_of_connection s m ≡ Some session
closed_fewer s n m session = by (finmap.get s.connections n)
  where
    by : (o : Option Joined) → session_of_connection (close_as s n o) m ≡ Some session
        → session_of_connection s m ≡ Some session
    by None e = e
    by (Some c) e =
        still_some (eq_by_cmp nat_cmp m n) (finmap.get s.connections m) session
        (sym (ap session_in (finmap.get-remove nat_cmp_total s.connections n m)) ∙ e)

pub one_closed_fewer : (s : Sessions) (o : Option ℕ) (m : ℕ) (session : ℤ)
    → session_of_connection (close_if_some s o) m ≡ Some session → session_of_connection s m ≡ Some session
one_closed_fewer s None m session e = e
one_closed_fewer s (Some n) m session e = closed_fewer s n m session e

-- A connection that was closed isn't one that has a session.
pub closed_other : (s : Sessions) (n m : ℕ) (session : ℤ) → session_of_connection (close_connection s n) m ≡ Some session
    → m ≢ n
closed_other s n m session e same =
    true≢false (sym (ap is_some e)
    ∙ ap (λ (k : ℕ). is_some (session_of_connection (close_connection s n) k)) same
    ∙ ap (λ o. is_some (session_in o)) (closed_has_none s n))

-- ---- a client that has the session, unless it is closed

abbrev pub HasIfOpen : ℕ → ℤ → Clients → Type 0
HasIfOpen n session c = is_open n c ≡ true → session_of_connection c.sessions n ≡ Some session

pub closed_has : (n : ℕ) (session : ℤ) (c : Clients) → HasIfOpen n session (without_client n c)
closed_has n session c here = absurd (true≢false (sym here ∙ ap is_some (get-removed c.connections n)))

pub send_has : (n : ℕ) (session : ℤ) (w : World) (frame : Option (List ℕ)) → HasIfOpen n session w.clients
    → HasIfOpen n session (send_or_close n w frame).after.clients
send_has n session w None has = closed_has n session w.clients
send_has n session w (Some bytes) has = has

send_last_has : (n : ℕ) (session : ℤ) (w : World) (frame : Option (List ℕ))
    → HasIfOpen n session (send_last n w frame).after.clients
send_last_has n session w frame = closed_has n session (send_or_close n w frame).after.clients

pub greet_has : (n : ℕ) (session : ℤ) (has_byte : Bool) (response : SessionResponse) (w : World)
    → (int_eq response.session_id (pos 0) ≡ false → HasIfOpen n session w.clients)
    → HasIfOpen n session (send_connect_response n has_byte response w).after.clients
greet_has n session has_byte response w has =
    let frame = Some (answer_to_connect response has_byte) in
    cond_both (int_eq response.session_id (pos 0)) _ _ (λ (h : StepResult World). HasIfOpen n session h.after.clients)
    (λ _. send_last_has n session w frame) (λ other. send_has n session w frame (has other))

-- A connection that has the session before a step has it after the step.
abbrev KeepsSession : ℕ → ℤ → Steps
KeepsSession n session w h = HasIfOpen n session w.clients → HasIfOpen n session h.after.clients

replies_keep : (n : ℕ) (session : ℤ) → HoldsOfReplies n Always (KeepsSession n session)
replies_keep n session = record {
  thens = λ w h next first second has. second (first has);
  stays = λ w has. has;
  closes = λ w a has. closed_has n session w.clients;
  sends = λ w bytes shows has. has;
  watches = λ w watch a has. has;
  unwatches = λ w kind path a has. has;
  shows = λ w id a has here. id_keeps w.clients.sessions n id session (has here);
}

calls_keep : (n : ℕ) (session : ℤ) → HoldsOfCalls n Always (λ own. Unit {0}) (KeepsSession n session)
calls_keep n session = record {
  touches = λ w touched own a has. has;
  leaves = λ w k there a has here. has (ap is_some there);
  writes = λ w own frame xid kind mine a has. has;
  syncs = λ w own frame xid path mine a has. has;
  holds = λ w frame busy a has. has;
}

pub call_in_has : (n : ℕ) (session own : ℤ) (w : World) (frame : List ℕ) (c : Result Call Fault)
    → is_full w.clients.pending n ≡ false → HasIfOpen n session w.clients
    → HasIfOpen n session (serve_as n own w frame c).after.clients
call_in_has n session own w frame c room has =
    (serve_as_makes n ⊥ Always (KeepsSession n session) (plain_ground n) (replies_keep n session) (λ own. Unit {0})
    (calls_keep n session) w own frame c tt room (λ strict. absurd strict) tt).is has

pub wait_has : (n : ℕ) (session : ℤ) (w : World) (o : Option OpenConnection) (left : Unread)
    → heard_connection n w.clients ≡ o
    → HasIfOpen n session w.clients → HasIfOpen n session (wait_if_heard n w o left).after.clients
wait_has n session w None left there has = has
wait_has n session w (Some c) (Ok rest) there has = λ _.
    has (ap is_some (heard_there (finmap.get w.clients.connections n) c there))
wait_has n session w (Some c) (Err e) there has = closed_has n session w.clients
