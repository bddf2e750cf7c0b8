-- No event lets the counter of ids fall, and each id that is asked for is a new one.
use Rattle.std.proofs.Common.{◌≡◌, ◌⊎◌, inl, inr, ℕ, ◌+◌, ◌^◌, ◌<◌, ◌≤◌, ◌==◌, ℤ, pos, Bool, true, false, cond, List, [], ◌∷◌, Option, Some, None, Ok, Err, refl, sym, ap, subst, ◌∙◌, arith}
use Rattle.std.specs.Prelude.{is_some, IsTrue}
use Rattle.std.specs.List.{list_any}
use Rattle.std.specs.Option.{unwrap_or}
use Rattle.std.specs.Ordering.{nat_cmp, int_cmp}
use Rattle.std.proofs.lemmas.Bool.{cond_both, eqb-true}
use Rattle.std.specs.FinMap as finmap
use mathlib.Core.Bool.{true≢false}
use Rattle.settings.specs.Settings.{is_server_id}
use Rattle.jute.specs.declared.owned.Id.{Id}
use Rattle.sessions.specs.Credentials.{session_id_of}
use Rattle.sessions.specs.State.{SessionTable as Sessions, ConnectedClient, session_table_of}
use Rattle.sessions.specs.Sessions.{greatest_counter, close_as, close_connection, close_if_some, connection_of, ConnectResult, refused_connect, session_response, give_session, AuthResult, are_within_limits, is_same_id, with_id, show_in, add_id}
use Rattle.sessions.specs.Agreement.{IsGivenOut, SessionsAgree, IsNewId, NewIdsAreNew}
use Rattle.settings.specs.Dialects.{reads_of}
use Rattle.forwarding.specs.declared.request.ConnectKind.TheVariants.{New, Claimed}
use Rattle.forwarding.specs.declared.request.PendingConnect.{PendingConnect}
use Rattle.forwarding.specs.declared.request.PendingRequest.TheVariants.{Connect, Write, Held}
use Rattle.forwarding.specs.Queue.{waiting_connect}
use Rattle.forwarding.specs.State.{PendingTable, is_claimed}
use Rattle.forwarding.specs.Pending.{nothing_pending, queue_in, queue_of, push_write, push_sync, unsettled_sync, hold_frame, take_ready, answer_write, settle_sync}
use Rattle.world.specs.declared.world.Settings.{Settings}
use Rattle.jute.specs.Stream.{Unread}
use Rattle.world.specs.World.{OpenConnection, Clients, World}
use Rattle.world.specs.Steps.{fold_steps}
use Rattle.world.specs.Clients.{heard_connection, without_clients}
use Rattle.world.specs.Sending.{close_client, with_sessions, with_pending, close_client_if_some}
use Rattle.client_service.specs.Serve.{serve_frame, is_unheard, with_waiting_bytes, wait_if_heard, take_client_bytes}
use Rattle.observer_core.specs.declared.event.Event.{Event}
use Rattle.observer_core.specs.Machine.{Machine}
use Rattle.observer_core.specs.Leader.{tell_effect, send_effect, disconnect_all}
use Rattle.observer_core.specs.Play.{is_serving_clients, play}
use Rattle.observer_core.specs.Agreement.{ClientsAgree}
use Rattle.observer_core.specs.GivenIds.{WaitsForNew, AllAskForNew, HasGivenOut, IsGivenBetween, IdsAreGivenOnce}
use Rattle.observer_core.proofs.Walking.{Steps, SessionsMove, with_connect, new_connect, claiming, counted, next_id, HoldsOfReplies, HoldsOfCalls, HoldsOfConnects, frames_make, client_makes}
use Rattle.observer_core.proofs.Answered.{unqueued, HoldsOfAnswers, HoldsOfAll, news_make}
use Rattle.observer_core.proofs.Plain.{Always, plain_ground, plain_answer_ground}
use Rattle.observer_core.proofs.Events.{IsKept, plays_keep}
use Rattle.observer_core.proofs.Agreeing.{Agreeing, LowerLaws, agreeing_ground}
use Rattle.observer_core.proofs.Agreed.{HoldsThen, holds_of_all, tell_agrees, agreeing_kept}
use Rattle.observer_core.proofs.Fronts.{FewerFronts, dropped_fronts, pushed_front, pushed_fronts, taken_fronts, answered_fronts, settled_fronts}

-- ---- what stays when sessions are given, shown ids and closed

-- The settings of new sessions and the counter are the same.
record SameIds (s t : Sessions) : Type 0 where
  terms : t.terms ≡ s.terms
  counter : t.counter ≡ s.counter

closed_ids : (s : Sessions) (n : ℕ) → SameIds s (close_connection s n)
closed_ids s n = by (finmap.get s.connections n)
  where
    by : (o : Option ConnectedClient) → SameIds s (close_as s n o)
    by None = record { terms = refl; counter = refl }
    by (Some c) = record { terms = refl; counter = refl }

one_closed_ids : (s : Sessions) (o : Option ℕ) → SameIds s (close_if_some s o)
one_closed_ids s None = record { terms = refl; counter = refl }
one_closed_ids s (Some n) = closed_ids s n

given_ids : (s : Sessions) (n : ℕ) (session time_out : ℤ) → SameIds s (give_session s n session time_out).after
given_ids s n session time_out =
    let same = one_closed_ids s (connection_of s session) in record { terms = same.terms; counter = same.counter }

shown_ids : (s : Sessions) (n : ℕ) (id : Id) → SameIds s (add_id s n id).after
shown_ids s n id = shown (finmap.get s.connections n)
  where
    shown : (o : Option ConnectedClient) → SameIds s (show_in s n id o).after
    shown None = record { terms = refl; counter = refl }
    shown (Some c) =
        cond_both (list_any (λ shown. is_same_id shown id) c.ids) _ _ (λ (x : AuthResult). SameIds s x.after)
        (λ _. record { terms = refl; counter = refl })
        (λ _. cond_both (are_within_limits (with_id c id).ids) _ _ (λ (x : AuthResult). SameIds s x.after)
        (λ _. record { terms = refl; counter = refl }) (λ _. record { terms = refl; counter = refl }))

-- ---- the ids of later clients

-- An id that was given out stays given out when the counter grows.
still_given : (server_id : ℤ) (before after : ℕ) (session : ℤ) → before ≤ after → IsGivenOut server_id before session
    → IsGivenOut server_id after session
still_given server_id before after session grows g =
    record { own = g.own; first = g.first; last = (let h = g.last in omega arith); is = g.is }

pub given_later : (c d : Clients) (session : ℤ) → d.sessions.terms ≡ c.sessions.terms
    → c.sessions.counter ≤ d.sessions.counter → HasGivenOut c session → HasGivenOut d session
given_later c d session same grows g =
    subst (λ terms. IsGivenOut terms.server_id d.sessions.counter session) (sym same)
    (still_given c.sessions.terms.server_id c.sessions.counter d.sessions.counter session grows g)

-- The new session of a connect was given its id in between, if the counter is still within its bounds.
abbrev IsGivenWithin : World → World → ℤ → Type 0
IsGivenWithin w v session =
    IsTrue (is_server_id w.clients.sessions.terms.server_id) → v.clients.sessions.counter < 2 ^ 56
    → IsGivenBetween w.clients v.clients session

-- How a connect came to wait: it waited before, asks for a new session, or claims one, where sessions move.
abbrev ComesToWait : World → World → ℕ → PendingConnect → Type 0
ComesToWait w v n connect =
    (waiting_connect (queue_of w.clients.pending n) ≡ Some connect)
    ⊎ (((connect.kind ≡ New) × IsGivenWithin w v connect.session)
    ⊎ ((connect.kind ≡ Claimed) × SessionsMove w))

-- The settings are the same, and the counter didn't fall.
pub record IdsGrow (w v : World) : Type 0 where
  pub settings : v.settings ≡ w.settings
  pub terms : v.clients.sessions.terms ≡ w.clients.sessions.terms
  pub counter : w.clients.sessions.counter ≤ v.clients.sessions.counter

-- The counter grew by the ids that were asked for.
record AreLater (w v : World) : Type 0 where
  grow : IdsGrow w v
  comes : (n : ℕ) (connect : PendingConnect) → waiting_connect (queue_of v.clients.pending n) ≡ Some connect
      → ComesToWait w v n connect

same_grow : (w v : World) → v.settings ≡ w.settings → SameIds w.clients.sessions v.clients.sessions → IdsGrow w v
same_grow w v settings same =
    record { settings = settings; terms = same.terms; counter = let e = same.counter in omega arith }

nothing_grows : (w v : World) → v.settings ≡ w.settings → v.clients.sessions ≡ w.clients.sessions → IdsGrow w v
nothing_grows w v settings sessions =
    same_grow w v settings
    (record { terms = ap (λ (s : Sessions). s.terms) sessions; counter = ap (λ (s : Sessions). s.counter) sessions })

grow_again : (u v w : World) → IdsGrow u v → IdsGrow v w → IdsGrow u w
grow_again u v w first second = record {
  settings = second.settings ∙ first.settings;
  terms = second.terms ∙ first.terms;
  counter = let a = first.counter in let b = second.counter in omega arith;
}

same_later : (w v : World) → v.settings ≡ w.settings → SameIds w.clients.sessions v.clients.sessions
    → FewerFronts w.clients.pending v.clients.pending → AreLater w v
same_later w v settings same fewer =
    record { grow = same_grow w v settings same; comes = λ n connect e. inl (fewer n connect e) }

same_ids : (s : Sessions) → SameIds s s
same_ids s = record { terms = refl; counter = refl }

-- Nothing but what waits changes.
waits_later : (w : World) (p : PendingTable) → FewerFronts w.clients.pending p → AreLater w (with_pending w p)
waits_later w p fewer = same_later w (with_pending w p) refl (same_ids w.clients.sessions) fewer

-- Neither sessions nor what waits changes.
unchanged : (w v : World) → v.settings ≡ w.settings → v.clients.sessions ≡ w.clients.sessions
    → v.clients.pending.queues ≡ w.clients.pending.queues → AreLater w v
unchanged w v settings sessions queues = record {
  grow = nothing_grows w v settings sessions;
  comes = λ n connect e. inl (ap (λ m. waiting_connect (queue_in (finmap.get m n))) (sym queues) ∙ e);
}

later_again : (u v w : World) → AreLater u v → AreLater v w → AreLater u w
later_again u v w first second = record {
  grow = grow_again u v w first.grow second.grow;
  comes = λ n connect waits. later n connect (second.comes n connect waits);
}
  where
    -- What was given before stays given, and what is new later was new before.
    given_early : (session : ℤ) → IsGivenWithin u v session → IsGivenWithin u w session
    given_early session given server within =
        let b = given server (let a = second.grow.counter in omega arith) in
        (b.0, given_later v.clients w.clients session second.grow.terms second.grow.counter b.1)

    given_since : (session : ℤ) → IsGivenWithin v w session → IsGivenWithin u w session
    given_since session given server within =
        let server_then = subst (λ terms. IsTrue (is_server_id terms.server_id)) (sym first.grow.terms) server in
        let b = given server_then within in
        let new : IsNewId u.clients.sessions session = record {
          nonzero = b.0.nonzero;
          unused = λ earlier g.
              b.0.unused earlier (given_later u.clients v.clients earlier first.grow.terms first.grow.counter g);
        } in (new, b.1)

    moved_before : SessionsMove v → SessionsMove u
    moved_before move =
        ap (λ (s : Settings). (reads_of s.dialect).moved_sessions) (sym first.grow.settings) ∙ move

    -- The connect waited in between.
    early : (n : ℕ) (connect : PendingConnect) → ComesToWait u v n connect → ComesToWait u w n connect
    early n connect (inl waited) = inl waited
    early n connect (inr (inl (new, given))) = inr (inl (new, given_early connect.session given))
    early n connect (inr (inr claims)) = inr (inr claims)

    later : (n : ℕ) (connect : PendingConnect) → ComesToWait v w n connect → ComesToWait u w n connect
    later n connect (inl waited) = early n connect (first.comes n connect waited)
    later n connect (inr (inl (new, given))) = inr (inl (new, given_since connect.session given))
    later n connect (inr (inr (claims, move))) = inr (inr (claims, moved_before move))

-- ---- connections close

closed_later : (n : ℕ) (w : World) → AreLater w (close_client n w).after
closed_later n w =
    same_later w (close_client n w).after refl (closed_ids w.clients.sessions n)
    (dropped_fronts w.clients.pending n)

each_closed_later : (ns : List ℕ) (w : World) → AreLater w (record w { clients = without_clients ns w.clients })
each_closed_later [] w = unchanged w w refl refl refl
each_closed_later (n ∷ others) w =
    let v = (close_client n w).after in
    later_again w v (record v { clients = without_clients others v.clients }) (closed_later n w)
    (each_closed_later others v)

left_later : (w : World) (o : Option ℕ) → AreLater w (close_client_if_some w o).after
left_later w None = unchanged w w refl refl refl
left_later w (Some n) = closed_later n w

-- ---- a connection's steps

abbrev GivesIds : Steps
GivesIds w h = AreLater w h.after

replies_later : (n : ℕ) → HoldsOfReplies n Agreeing GivesIds
replies_later n = record {
  thens = λ w h next first second. later_again w h.after (next h.after).after first second;
  stays = λ w. unchanged w w refl refl refl;
  closes = λ w a. closed_later n w;
  sends = λ w bytes shows. unchanged w w refl refl refl;
  watches = λ w watch a. unchanged w _ refl refl refl;
  unwatches = λ w kind path a. unchanged w _ refl refl refl;
  shows = λ w id a.
      let s = (add_id w.clients.sessions n id).after in
      same_later w (with_sessions w s) refl (shown_ids w.clients.sessions n id) (λ m connect e. e);
}

calls_later : (n : ℕ) → HoldsOfCalls n Agreeing (λ session. Unit {0}) GivesIds
calls_later n = record {
  touches = λ w session own a. unchanged w _ refl refl refl;
  leaves = λ w k there a. unchanged w _ refl refl refl;
  writes = λ w session frame xid kind own a.
      let p = push_write w.clients.pending n xid kind in
      waits_later w p
      (pushed_fronts w.clients.pending p n (Write (record { xid = xid; kind = kind })) refl refl);
  syncs = λ w session frame xid path own a.
      let p = push_sync w.clients.pending n xid path in
      waits_later w p (pushed_fronts w.clients.pending p n (unsettled_sync xid path) refl refl);
  holds = λ w frame busy a.
      let p = hold_frame w.clients.pending n frame in
      waits_later w p (pushed_fronts w.clients.pending p n (Held frame) refl refl);
}

answers_later : (n : ℕ) → HoldsOfAnswers n Agreeing GivesIds
answers_later n = record {
  takes = λ w a. waits_later w (take_ready w.clients.pending n).after (taken_fronts w.clients.pending n a.pending);
  answers = λ w xid txn_kind a.
      waits_later w (answer_write w.clients.pending n xid txn_kind).after
      (answered_fronts w.clients.pending n xid txn_kind a.pending);
  drops = λ w a.
      same_later w (unqueued n w) refl (closed_ids w.clients.sessions n) (dropped_fronts w.clients.pending n);
}

counted_grow : (w : World) → IdsGrow w (counted w)
counted_grow w = record { settings = refl; terms = refl; counter = omega arith }

-- The connect that waits for the next id changes neither settings nor sessions.
asked_grow : (n : ℕ) (w : World) (connect : PendingConnect) → IdsGrow w (with_connect n (counted w) connect)
asked_grow n w connect =
    let v = with_connect n (counted w) connect in
    grow_again w (counted w) v (counted_grow w) (nothing_grows (counted w) v refl refl)

-- ---- whatever is known of the clients

abbrev Grows : Steps
Grows w h = IdsGrow w h.after

closed_grow : (n : ℕ) (w : World) → IdsGrow w (close_client n w).after
closed_grow n w = same_grow w (close_client n w).after refl (closed_ids w.clients.sessions n)

left_grow : (w : World) (o : Option ℕ) → IdsGrow w (close_client_if_some w o).after
left_grow w None = nothing_grows w w refl refl
left_grow w (Some n) = closed_grow n w

all_grow : HoldsOfAll ⊥ Always Grows
all_grow = record {
  ground = plain_ground;
  answer_ground = plain_answer_ground;
  settles_ground = λ w a. tt;
  tells_ground = λ w timeout_of a. tt;
  replies = λ n. record {
    thens = λ w h next first second. grow_again w h.after (next h.after).after first second;
    stays = λ w. nothing_grows w w refl refl;
    closes = λ w a. closed_grow n w;
    sends = λ w bytes shows. nothing_grows w w refl refl;
    watches = λ w watch a. nothing_grows w _ refl refl;
    unwatches = λ w kind path a. nothing_grows w _ refl refl;
    shows = λ w id a. same_grow w _ refl (shown_ids w.clients.sessions n id);
  };
  calls = λ n. record {
    touches = λ w session own a. nothing_grows w _ refl refl;
    leaves = λ w k there a. nothing_grows w _ refl refl;
    writes = λ w session frame xid kind own a. nothing_grows w _ refl refl;
    syncs = λ w session frame xid path own a. nothing_grows w _ refl refl;
    holds = λ w frame busy a. nothing_grows w _ refl refl;
  };
  connects = λ n. record {
    own = λ session. tt;
    counts = λ w none a. counted_grow w;
    gives = λ w session time_out free may a.
        let x = give_session w.clients.sessions n session time_out in
        let v = with_sessions w x.after in
        grow_again w v (close_client_if_some v x.connected.older).after
        (same_grow w v refl (given_ids w.clients.sessions n session time_out)) (left_grow v x.connected.older);
    asks = λ w time_out has_byte none idle a b.
        asked_grow n w (new_connect (next_id w) time_out has_byte);
    displaces = λ w session k with a. closed_grow k w;
    claims = λ w has_byte response move none idle a. nothing_grows w _ refl refl;
    may = λ w session live. tt;
  };
  answers = λ n. record {
    takes = λ w a. nothing_grows w _ refl refl;
    answers = λ w xid txn_kind a. nothing_grows w _ refl refl;
    drops = λ w a. same_grow w (unqueued n w) refl (closed_ids w.clients.sessions n);
  };
  settles = λ w a. nothing_grows w _ refl refl;
  tells = λ w ping a. nothing_grows w _ refl refl;
}

each_closed_grow : (ns : List ℕ) (w : World) → IdsGrow w (record w { clients = without_clients ns w.clients })
each_closed_grow [] w = nothing_grows w w refl refl
each_closed_grow (n ∷ others) w =
    let v = (close_client n w).after in
    grow_again w v (record v { clients = without_clients others v.clients }) (closed_grow n w)
    (each_closed_grow others v)

gone_grow : (w : World) → IdsGrow w (disconnect_all w).after
gone_grow w =
    let g = each_closed_grow (finmap.keys w.clients.connections) w in
    record { settings = g.settings; terms = g.terms; counter = g.counter }

pub frames_grow : (serving : Bool) (n : ℕ) (w : World) (fs : List (List ℕ))
    → IdsGrow w (fold_steps (is_unheard n) (serve_frame serving n) w fs).after
frames_grow serving n w fs =
    (frames_make n ⊥ Always Grows (plain_ground n) (all_grow.replies n) (λ session. Unit {0}) (all_grow.calls n)
    (λ w session. Unit {0}) (all_grow.connects n) serving w fs tt).is

pub wait_grows : (n : ℕ) (w : World) (o : Option OpenConnection) (unread : Unread)
    → IdsGrow w (wait_if_heard n w o unread).after
wait_grows n w None unread = nothing_grows w w refl refl
wait_grows n w (Some c) (Ok rest) = nothing_grows w (with_waiting_bytes n w c rest) refl refl
wait_grows n w (Some c) (Err e) = closed_grow n w

bytes_grow : (n : ℕ) (w : World) (bytes : List ℕ)
    → Grows w (take_client_bytes (is_serving_clients w) n w (heard_connection n w.clients) bytes)
bytes_grow n w bytes =
    (client_makes n ⊥ Always Grows (plain_ground n) (all_grow.replies n) (λ session. Unit {0}) (all_grow.calls n)
    (λ w session. Unit {0}) (all_grow.connects n) (λ w k rest a. nothing_grows w _ refl refl)
    (is_serving_clients w) w (heard_connection n w.clients) bytes tt).is

grow_kept : (u : World) → IsKept (IdsGrow u)
grow_kept u = record {
  meets = λ w g. grow_again u w _ g (nothing_grows w _ refl refl);
  effects = λ loading w i t e g.
      let v = (tell_effect w t).after in
      grow_again u w (send_effect w t).after g
      (grow_again w v (send_effect w t).after (nothing_grows w v refl refl)
      (news_make ⊥ Always Grows all_grow (λ n w bytes. nothing_grows w w refl refl) t.news v tt).is);
  gone = λ w g. grow_again u w _ g (gone_grow w);
  opens = λ n address w g. grow_again u w _ g (nothing_grows w _ refl refl);
  bytes = λ n w bytes g. grow_again u w _ g (bytes_grow n w bytes);
  closes = λ n w g. grow_again u w _ g (closed_grow n w);
  checkpoints = λ w g. grow_again u w _ g (nothing_grows w _ refl refl);
}

grown : (m : Machine) (events : List Event) → IdsGrow m.world (play m events).after.world
grown m events =
    plays_keep (IdsGrow m.world) (grow_kept m.world) m events (nothing_grows m.world m.world refl refl)

-- ---- ids and connects, where the clients agree

module _ (new : NewIdsAreNew) where
  -- The id of the next counter is new.
  pub next_is_new : (s : Sessions) → IsTrue (is_server_id s.terms.server_id) → s.counter + 1 < 2 ^ 56
      → IsNewId s (session_id_of s.terms.server_id (s.counter + 1))
  next_is_new s server within = record { nonzero = named.nonzero; unused = named.unused }
    where
      -- The same settings and counter, and no connection.
      t : Sessions
      t = session_table_of s.terms s.counter finmap.empty finmap.empty

      none : {X : Type 0} (x : X) (o : Option X) → o ≡ None → o ≡ Some x → ⊥
      none x o e f = true≢false (sym (ap is_some f) ∙ ap is_some e)

      agrees : SessionsAgree t
      agrees = record {
        server_id = server;
        counter = omega arith;
        owners = λ n c e. absurd (none c _ (finmap.get-empty nat_cmp n) e);
        connections = λ session n e. absurd (none n _ (finmap.get-empty int_cmp session) e);
        ids = λ n c e. absurd (none c _ (finmap.get-empty nat_cmp n) e);
        bytes = λ n c e. absurd (none c _ (finmap.get-empty nat_cmp n) e);
        writable = λ n c e. absurd (none c _ (finmap.get-empty nat_cmp n) e);
      }

      not_greatest : (b : Bool) → (s.counter == greatest_counter) ≡ b → b ≡ false
      not_greatest false e = refl
      not_greatest true e = let same : s.counter ≡ greatest_counter = eqb-true s.counter greatest_counter e in
          absurd (beyond s.counter within same)
        where
          beyond : (k : ℕ) → k + 1 < 2 ^ 56 → k ≡ greatest_counter → ⊥
          beyond k low is = grind arith

      chosen : (b : Bool) (x y : ConnectResult) → b ≡ false → IsNewId t (cond b x y).connected.response.session_id
          → IsNewId t y.connected.response.session_id
      chosen true x y e h = absurd (true≢false e)
      chosen false x y e h = h

      named : IsNewId t (session_id_of s.terms.server_id (s.counter + 1))
      named =
          chosen (s.counter == greatest_counter) (refused_connect t)
          (record {
            connected = record {
              response = session_response s.terms (session_id_of s.terms.server_id (s.counter + 1)) (pos 0);
              older = None;
            };
            after = record t { counter = s.counter + 1 };
          })
          (not_greatest (s.counter == greatest_counter) refl) (new.new t (pos 0) agrees within)

  -- A connect waits for the session with the next id.
  asked_later : (n : ℕ) (w : World) (time_out : ℤ) (has_byte : Bool)
      → AreLater w (with_connect n (counted w) (new_connect (next_id w) time_out has_byte))
  asked_later n w time_out has_byte = record {
    grow = asked_grow n w asked;
    comes = λ m connect e. by m connect (pushed_front w.clients.pending n (Connect asked) m connect e);
  }
    where
      s : Sessions
      s = w.clients.sessions

      asked : PendingConnect
      asked = new_connect (next_id w) time_out has_byte

      v : World
      v = with_connect n (counted w) asked

      given : IsGivenWithin w v (next_id w)
      given server within = (
        next_is_new s server within,
        record { own = s.counter + 1; first = omega arith; last = omega arith; is = refl },
      )

      by : (m : ℕ) (connect : PendingConnect)
          → (waiting_connect (queue_of w.clients.pending m) ≡ Some connect) ⊎ (Some asked ≡ Some connect)
          → ComesToWait w v m connect
      by m connect (inl waited) = inl waited
      by m connect (inr is) =
          let same : asked ≡ connect = ap (λ (o : Option PendingConnect). unwrap_or o asked) is in
          subst (λ (c : PendingConnect). ComesToWait w v m c) same (inr (inl (refl, given)))

  -- A connect waits for a session that the client claims.
  claimed_later : (n : ℕ) (w : World) (session time_out : ℤ) (has_byte : Bool) → SessionsMove w
      → AreLater w (with_connect n w (claiming session time_out has_byte))
  claimed_later n w session time_out has_byte move = record {
    grow = nothing_grows w v refl refl;
    comes = λ m connect e. by m connect (pushed_front w.clients.pending n (Connect claim) m connect e);
  }
    where
      claim : PendingConnect
      claim = claiming session time_out has_byte

      v : World
      v = with_connect n w claim

      by : (m : ℕ) (connect : PendingConnect)
          → (waiting_connect (queue_of w.clients.pending m) ≡ Some connect) ⊎ (Some claim ≡ Some connect)
          → ComesToWait w v m connect
      by m connect (inl waited) = inl waited
      by m connect (inr is) =
          let same : claim ≡ connect = ap (λ (o : Option PendingConnect). unwrap_or o claim) is in
          subst (λ (c : PendingConnect). ComesToWait w v m c) same (inr (inr (refl, move)))

  connects_later : (n : ℕ) → HoldsOfConnects n Agreeing (λ session. Unit {0}) (λ w session. Unit {0}) GivesIds
  connects_later n = record {
    own = λ session. tt;
    counts = λ w none a. record { grow = counted_grow w; comes = λ m connect e. inl e };
    gives = λ w session time_out free may a.
        let x = give_session w.clients.sessions n session time_out in
        let v = with_sessions w x.after in
        later_again w v (close_client_if_some v x.connected.older).after
        (same_later w v refl (given_ids w.clients.sessions n session time_out) (λ m connect e. e))
        (left_later v x.connected.older);
    asks = λ w time_out has_byte none idle a b. asked_later n w time_out has_byte;
    displaces = λ w session k with a. closed_later k w;
    claims = λ w has_byte response move none idle a.
        claimed_later n w response.session_id response.time_out has_byte move;
    may = λ w session live. tt;
  }

  then_later : HoldsThen GivesIds
  then_later = record {
    replies = replies_later;
    calls = calls_later;
    connects = connects_later;
    answers = answers_later;
    settles = λ w a. waits_later w (settle_sync w.clients.pending).after (settled_fronts w.clients.pending);
    tells = λ w ping a. unchanged w _ refl refl refl;
  }

  -- ---- events

  module _ (laws : LowerLaws) where
    bytes_later : (n : ℕ) (w : World) (bytes : List ℕ) → Agreeing w → GivesIds w
        (take_client_bytes (is_serving_clients w) n w (heard_connection n w.clients) bytes)
    bytes_later n w bytes a =
        (client_makes n (Unit {0}) Agreeing GivesIds (agreeing_ground laws n) (replies_later n) (λ session. Unit {0})
        (calls_later n) (λ w session. Unit {0}) (connects_later n) (λ w k rest a. unchanged w _ refl refl refl)
        (is_serving_clients w) w (heard_connection n w.clients) bytes a).is

    gone_later : (w : World) → AreLater w (disconnect_all w).after
    gone_later w =
        let v : World = record w { clients = without_clients (finmap.keys w.clients.connections) w.clients } in
        later_again w v (disconnect_all w).after (each_closed_later (finmap.keys w.clients.connections) w)
        (same_later v (disconnect_all w).after refl (same_ids v.clients.sessions) (none_wait v.clients.pending))
      where
        none_wait : (p : PendingTable) → FewerFronts p nothing_pending
        none_wait p n connect e =
            absurd (true≢false (sym (ap is_some e)
            ∙ ap (λ o. is_some (waiting_connect (queue_in o))) (finmap.get-empty nat_cmp n)))

    -- From this world on.
    abbrev LaterThan : World → World → Type 0
    LaterThan u w = Agreeing w × AreLater u w

    later_kept : (u : World) → IsKept (LaterThan u)
    later_kept u =
        let kept = agreeing_kept laws in
        record {
          meets = λ w l. (kept.meets w l.0, later_again u w _ l.1 (unchanged w _ refl refl refl));
          effects = λ loading w i t e l.
              let v = (tell_effect w t).after in (
                kept.effects loading w i t e l.0,
                later_again u w (send_effect w t).after l.1
                    (later_again w v (send_effect w t).after (unchanged w v refl refl refl)
                    (news_make (Unit {0}) Agreeing GivesIds (holds_of_all laws GivesIds then_later)
                    (λ n w bytes. unchanged w w refl refl refl) t.news v
                    (tell_agrees laws w t l.0)).is),
              );
          gone = λ w l. (kept.gone w l.0, later_again u w _ l.1 (gone_later w));
          opens = λ n address w l. (kept.opens n address w l.0, later_again u w _ l.1 (unchanged w _ refl refl refl));
          bytes = λ n w bytes l. (kept.bytes n w bytes l.0, later_again u w _ l.1 (bytes_later n w bytes l.0));
          closes = λ n w l. (kept.closes n w l.0, later_again u w _ l.1 (closed_later n w));
          checkpoints = λ w l. (kept.checkpoints w l.0, later_again u w _ l.1 (unchanged w _ refl refl refl));
        }

    played : (m : Machine) (events : List Event) → ClientsAgree m.world.clients
        → LaterThan m.world (play m events).after.world
    played m events agrees =
        plays_keep (LaterThan m.world) (later_kept m.world) m events
        (agrees, unchanged m.world m.world refl refl refl)

    asked_new : (m : Machine) (events : List Event) (session : ℤ) (n : ℕ) → ClientsAgree m.world.clients
        → WaitsForNew n (play m events).after.world.clients session
        → WaitsForNew n m.world.clients session
        ⊎ IsGivenBetween m.world.clients (play m events).after.world.clients session
    asked_new m events session n agrees waits =
        by ((played m events agrees).1.comes n waits.connect waits.front)
      where
        after : World
        after = (play m events).after.world

        by : ComesToWait m.world after n waits.connect
            → WaitsForNew n m.world.clients session ⊎ IsGivenBetween m.world.clients after.clients session
        by (inl waited) =
            inl (record {
              connect = waits.connect;
              front = waited;
              same_session = waits.same_session;
              same_kind = waits.same_kind;
            })
        by (inr (inl (new, given))) =
            inr (subst (IsGivenBetween m.world.clients after.clients) waits.same_session
            (given agrees.sessions.server_id (played m events agrees).0.sessions.counter))
        by (inr (inr (claims, move))) =
            absurd (true≢false (sym (ap is_claimed claims) ∙ ap is_claimed waits.same_kind))

    stays_new : (m : Machine) (events : List Event) → ClientsAgree m.world.clients
        → (reads_of m.world.settings.dialect).moved_sessions ≡ false → AllAskForNew m.world.clients
        → AllAskForNew (play m events).after.world.clients
    stays_new m events agrees stay all n connect waits =
        by ((played m events agrees).1.comes n connect waits)
      where
        by : ComesToWait m.world (play m events).after.world n connect → connect.kind ≡ New
        by (inl waited) = all n connect waited
        by (inr (inl (new, given))) = new
        by (inr (inr (claims, move))) = absurd (true≢false (sym move ∙ stay))

    pub ids_are_given_once : IdsAreGivenOnce
    ids_are_given_once = record {
      terms = λ m events. (grown m events).terms;
      counter = λ m events. (grown m events).counter;
      stays = λ m events session given.
          let later = grown m events in
          given_later m.world.clients (play m events).after.world.clients session later.terms later.counter given;
      asks = asked_new;
      once = λ m events session n agrees given waits.
          by m events session n given (asked_new m events session n agrees waits);
      stays_new = stays_new;
    }
      where
        by : (m : Machine) (events : List Event) (session : ℤ) (n : ℕ) → HasGivenOut m.world.clients session
            → WaitsForNew n m.world.clients session
            ⊎ IsGivenBetween m.world.clients (play m events).after.world.clients session
            → WaitsForNew n m.world.clients session
        by m events session n given (inl waited) = waited
        by m events session n given (inr new) = absurd (new.0.unused session given refl)
