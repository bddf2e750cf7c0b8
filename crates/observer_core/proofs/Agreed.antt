-- No event ends the agreement of the clients.
use Rattle.std.proofs.Common.{◌≡◌, ℕ, ◌+◌, Bool, List, Option, Some, None, sym, ap, subst, ◌∙◌}
use Rattle.std.specs.Prelude.{is_some, IsTrue}
use Rattle.std.specs.Ordering.{nat_cmp, int_cmp}
use Rattle.std.specs.FinMap as finmap
use Rattle.std.specs.FinSet as set
use mathlib.Core.Bool.{true≢false}
use Rattle.settings.specs.Settings.{is_server_id, is_first_counter}
use Rattle.quorum_packet.specs.declared.packet.QuorumPacket.{QuorumPacket}
use Rattle.sessions.specs.State.{SessionTable as Sessions, session_settings_of}
use Rattle.sessions.specs.Sessions.{give_session}
use Rattle.sessions.specs.Agreement.{SessionsAreApart}
use Rattle.sessions.proofs.Numbers.{first_not_last}
use Rattle.forwarding.specs.declared.request.PendingConnect.{PendingConnect}
use Rattle.forwarding.specs.Queue.{waiting_connect}
use Rattle.forwarding.specs.Pending.{nothing_pending, queue_in, queue_of, settle_sync}
use Rattle.replica.specs.Taking.{ItemEffect}
use Rattle.watch_manager.specs.Pairs.{watch_cmp}
use Rattle.watch_manager.specs.Watches.{fire}
use Rattle.watch_manager.specs.Laws.{AllPass}
use Rattle.world.specs.declared.world.Settings.{Settings}
use Rattle.world.specs.World.{OpenConnection, World}
use Rattle.world.specs.Steps.{no_output}
use Rattle.world.specs.Clients.{idle_connection, is_open, with_connection, passwords_of, no_clients, heard_connection}
use Rattle.world.specs.Sending.{with_sessions, with_pending, close_client_if_some}
use Rattle.client_service.specs.Serve.{take_client_bytes}
use Rattle.world.proofs.NatMaps.{get-inserted}
use Rattle.leader_answers.specs.Answering.{answer_ping}
use Rattle.observer_core.specs.Leader.{tell_effect, send_effect, disconnect_all}
use Rattle.observer_core.specs.Play.{is_serving_clients, primed_session, primed_machine}
use Rattle.observer_core.specs.Agreement.{ClientsAgree, ConnectionsAgree}
use Rattle.observer_core.proofs.Walking.{Steps, HoldsOfReplies, HoldsOfCalls, HoldsOfConnects, client_makes}
use Rattle.observer_core.proofs.Answered.{IsAnswerGround, HoldsOfAnswers, HoldsOfAll, news_make}
use Rattle.observer_core.proofs.Events.{IsKept, plays_keep}
use Rattle.observer_core.proofs.Agreeing.{Agreeing, LowerLaws, one_session_each, opened_agrees, none_waits, watches_agree, closed_agrees, each_closed_agrees, given_agrees, counted_agrees, agreeing_ground, taken_agrees, answered_agrees, unqueued_agrees, settled_agrees, told_agrees}

-- What holds of a connection's steps, where the clients agree.
pub record HoldsThen (Q : Steps) : Type 0 where
  pub replies : (n : ℕ) → HoldsOfReplies n Agreeing Q
  pub calls : (n : ℕ) → HoldsOfCalls n Agreeing (λ session. Unit {0}) Q
  pub connects : (n : ℕ) → HoldsOfConnects n Agreeing (λ session. Unit {0}) (λ w session. Unit {0}) Q
  pub answers : (n : ℕ) → HoldsOfAnswers n Agreeing Q
  pub settles : (w : World) → Agreeing w → Q w (no_output (with_pending w (settle_sync w.clients.pending).after))
  pub tells : (w : World) (ping : QuorumPacket) → Agreeing w → Q w (answer_ping w ping)

module _ (laws : LowerLaws) where
  pub agreeing_answers : (n : ℕ) → IsAnswerGround n (Unit {0}) Agreeing
  agreeing_answers n = record {
    here = λ w busy a u. a.waiting n busy;
    takes = taken_agrees laws n;
    answers = answered_agrees laws n;
    drops = unqueued_agrees laws n;
  }

  pub holds_of_all : (Q : Steps) → HoldsThen Q → HoldsOfAll (Unit {0}) Agreeing Q
  holds_of_all Q h = record {
    ground = agreeing_ground laws;
    answer_ground = agreeing_answers;
    settles_ground = settled_agrees laws;
    tells_ground = told_agrees laws;
    replies = h.replies;
    calls = h.calls;
    connects = h.connects;
    answers = h.answers;
    settles = h.settles;
    tells = h.tells;
  }

  -- ---- nothing more than agreement

  abbrev Any : Steps
  Any w h = Unit {0}

  any_replies : (n : ℕ) → HoldsOfReplies n Agreeing Any
  any_replies n = record {
    thens = λ w h next a b. tt;
    stays = λ w. tt;
    closes = λ w a. tt;
    sends = λ w bytes shows. tt;
    watches = λ w watch a. tt;
    unwatches = λ w kind path a. tt;
    shows = λ w id a. tt;
  }

  any_calls : (n : ℕ) → HoldsOfCalls n Agreeing (λ session. Unit {0}) Any
  any_calls n = record {
    touches = λ w session own a. tt;
    leaves = λ w k there a. tt;
    writes = λ w session frame xid kind own a. tt;
    syncs = λ w session frame xid path own a. tt;
    holds = λ w frame busy a. tt;
  }

  any_connects : (n : ℕ) → HoldsOfConnects n Agreeing (λ session. Unit {0}) (λ w session. Unit {0}) Any
  any_connects n = record {
    own = λ session. tt;
    counts = λ w none a. tt;
    gives = λ w session time_out free may a. tt;
    asks = λ w time_out has_byte none idle a b. tt;
    displaces = λ w session k with a. tt;
    claims = λ w has_byte response move none idle a. tt;
    may = λ w session live. tt;
  }

  any_then : HoldsThen Any
  any_then = record {
    replies = any_replies;
    calls = any_calls;
    connects = any_connects;
    answers = λ n. record { takes = λ w a. tt; answers = λ w xid txn_kind a. tt; drops = λ w a. tt };
    settles = λ w a. tt;
    tells = λ w ping a. tt;
  }

  pub tell_agrees : (w : World) (t : ItemEffect) → Agreeing w → Agreeing (tell_effect w t).after
  tell_agrees w t a =
      watches_agree w (fire w.clients.watches t.triggers).left
      (laws.told (λ m. is_open m w.clients) w.clients.watches t.triggers a.watching).1 a

  pub effect_agrees : (w : World) (t : ItemEffect) → Agreeing w → Agreeing (send_effect w t).after
  effect_agrees w t a =
      (news_make (Unit {0}) Agreeing Any (holds_of_all Any any_then) (λ n w bytes. tt) t.news (tell_effect w t).after
      (tell_agrees w t a)).keeps

  bytes_agree : (serving : Bool) (n : ℕ) (w : World) (o : Option OpenConnection) (bytes : List ℕ) → Agreeing w
      → Agreeing (take_client_bytes serving n w o bytes).after
  bytes_agree serving n w o bytes a =
      (client_makes n (Unit {0}) Agreeing Any (agreeing_ground laws n) (any_replies n) (λ session. Unit {0})
      (any_calls n) (λ w session. Unit {0}) (any_connects n) (λ w k rest a. tt) serving w o bytes a).keeps

  -- Where nothing waits, no connect does.
  no_connect : (s : Sessions) (n : ℕ) (connect : PendingConnect)
      → waiting_connect (queue_of nothing_pending n) ≡ Some connect → finmap.get s.connections n ≡ None
  no_connect s n connect e =
      absurd (true≢false (sym (ap is_some e) ∙ ap (λ o. is_some (waiting_connect (queue_in o))) (finmap.get-empty nat_cmp n)))

  gone_agrees : (w : World) → Agreeing w → Agreeing (disconnect_all w).after
  gone_agrees w a =
      let c = each_closed_agrees laws (finmap.keys w.clients.connections) w.clients a in
      record {
        sessions = c.sessions;
        joined = c.joined;
        watching = c.watching;
        pending = laws.queued.starts;
        waiting = none_waits (λ m. is_open m (disconnect_all w).after.clients);
        connecting = no_connect (disconnect_all w).after.clients.sessions;
      }

  pub agreeing_kept : IsKept Agreeing
  agreeing_kept = record {
    meets = λ w a. a;
    effects = λ loading w i t e a. effect_agrees w t a;
    gone = gone_agrees;
    opens = λ n address w a. opened_agrees n (idle_connection address) w.clients a;
    bytes = λ n w bytes a. bytes_agree (is_serving_clients w) n w (heard_connection n w.clients) bytes a;
    closes = λ n w a. closed_agrees laws n w.clients a;
    checkpoints = λ w a. a;
  }

  -- ---- the start

  nobody_agrees : (settings : Settings) → IsTrue (is_server_id settings.server_id)
      → IsTrue (is_first_counter settings.first_counter) → ClientsAgree (no_clients settings)
  nobody_agrees settings fits begins = record {
    sessions = laws.kept.starts
        (session_settings_of settings.server_id settings.timeouts (passwords_of settings.dialect settings.secret)
        settings.first_counter settings.super_digest) fits begins;
    joined = λ n has. absurd (true≢false (sym has ∙ ap is_some (finmap.get-empty nat_cmp n)));
    watching = (none, none, (none, none));
    pending = laws.queued.starts;
    waiting = none_waits (λ n. is_open n (no_clients settings));
    connecting = no_connect (no_clients settings).sessions;
  }
    where
      none : AllPass (λ n. is_open n (no_clients settings)) set.empty
      none path n has = absurd (true≢false (sym has ∙ set.contains-empty watch_cmp (path, n)))

  -- The first connection opens, is named a session, and has it then.
  primed_agrees : (settings : Settings) → IsTrue (is_server_id settings.server_id)
      → IsTrue (is_first_counter settings.first_counter) → Agreeing (primed_machine settings).world
  primed_agrees settings fits begins =
      let w = (primed_machine settings).world in
      let s = (no_clients settings).sessions in
      let session = primed_session settings in
      let longest = settings.timeouts.greatest in
      let v : World = record w { clients = with_connection 1 (idle_connection None) (no_clients settings) } in
      let u = with_sessions v (record s { counter = settings.first_counter + 1 }) in
      subst (λ (o : Option ℕ). Agreeing (close_client_if_some
      (with_sessions u (give_session u.clients.sessions 1 session longest).after) o).after)
      (finmap.get-empty int_cmp session)
      (given_agrees laws 1 u session longest (finmap.get-empty nat_cmp 1)
      (ap (λ o. waiting_connect (queue_in o)) (finmap.get-empty nat_cmp 1))
      (ap is_some (get-inserted (no_clients settings).connections 1 (idle_connection None)))
      (counted_agrees laws 1 v (finmap.get-empty nat_cmp 1) (first_not_last settings.first_counter begins)
      (opened_agrees 1 (idle_connection None) (no_clients settings) (nobody_agrees settings fits begins))))

  pub connections_agree : SessionsAreApart → ConnectionsAgree
  connections_agree apart = record {
    starts = nobody_agrees;
    starts_primed = primed_agrees;
    plays = plays_keep Agreeing agreeing_kept;
    apart = one_session_each apart;
  }
