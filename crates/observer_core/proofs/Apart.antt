-- How far the small steps of one client reach.
use Rattle.std.proofs.Common.{◌≡◌, ◌≢◌, ◌⊎◌, inl, inr, ℕ, ℤ, Bool, true, false, cond, ◌||◌, List, [], ◌∷◌, ◌++◌, Option, Some, None, Result, Ok, Err, refl, sym, ap, subst, ◌∙◌}
use Rattle.std.specs.Ordering.{eq_by_cmp, int_cmp}
use Rattle.std.specs.Cmp.{int_cmp_total}
use Rattle.std.proofs.lemmas.Map.Lookups.{exact_signed}
use Rattle.std.specs.Option.{unwrap_or}
use Rattle.std.specs.List.{AllByRecursion}
use Rattle.std.specs.FinMap as finmap
use Rattle.std.specs.FinSet as set
use Rattle.values.specs.declared.fault.Fault.{Fault}
use Rattle.jute.specs.Stream.{Unread}
use Rattle.sessions.specs.State.{SessionTable as Sessions}
use Rattle.sessions.specs.Sessions.{ids_of, connection_of, ConnectResult, give_session, add_id}
use Rattle.sessions.specs.Agreement.{OtherConnectionsStay}
use Rattle.sessions.specs.declared.request.SessionResponse.{SessionResponse}
use Rattle.watch_manager.specs.Watching.{WatchTables}
use Rattle.watch_manager.specs.Kinds.{without_watch}
use Rattle.watch_manager.specs.declared.kind.WatchKind.{WatchKind}
use Rattle.watch_manager.specs.declared.kind.WatchKind.TheVariants as kinds
use Rattle.watch_manager.specs.declared.mode.WatchMode.TheVariants.{Persistent, Recursive}
use Rattle.watch_manager.specs.Laws.{OthersKeepWatches}
use Rattle.forwarding.specs.declared.request.PendingConnect.{PendingConnect}
use Rattle.forwarding.specs.State.{TouchedSessions, PendingTable}
use Rattle.forwarding.specs.Pending.{is_full, push_connect, push_write, push_sync, hold_frame, touch_session, answer_write, take_ready}
use Rattle.forwarding.specs.Laws.{Stays, OtherQueuesStay}
use Rattle.read_processor.specs.declared.watch.Watch.{Watch}
use Rattle.read_processor.specs.declared.watch.Watch.TheVariants as tables
use Rattle.client_frames.specs.declared.call.Call.{Call}
use Rattle.world.specs.declared.output.Output.{Output}
use Rattle.world.specs.declared.output.Output.TheVariants.{ToLeader, ToClient, CloseLeader, CloseClient}
use Rattle.world.specs.World.{OpenConnection, Clients, World}
use Rattle.world.specs.Steps.{StepResult, no_output, and_then}
use Rattle.world.specs.Clients.{idle_connection, is_open, with_connection, without_client}
use Rattle.world.specs.Sending.{close_client, with_watches, with_sessions, close_client_if_some, with_pending}
use Rattle.client_service.specs.Serve.{with_watch, send_connect_response, ask_about_session, forward_frame, serve_as, with_waiting_bytes, wait_if_heard, address_for, open_client, end_client}
use Rattle.observer_core.specs.Apart.{HasOrAsks, ConcernsOnly, HasSameWatches, IsUntouched, IsApart}
use Rattle.world.proofs.NatMaps.{eq_is, get-kept, get-beside}
use Rattle.observer_core.proofs.Walking.{sent_bytes, HoldsOfReplies, HoldsOfCalls, given, with_connect, new_connect, claiming, asked_for, serve_as_makes, greet_makes}
use Rattle.observer_core.proofs.Answered.{unqueued, HoldsOfAnswers}
use Rattle.observer_core.proofs.Plain.{Always, plain_ground}
use Rattle.observer_core.proofs.Taking.{none_or_some}

-- ---- lists

module _ {A : Type 0} (P : A → Type 0) where
  pub all_joined : (xs ys : List A) → AllByRecursion P xs → AllByRecursion P ys → AllByRecursion P (xs ++ ys)
  all_joined [] ys p q = q
  all_joined (x ∷ xs) ys p q = (p.0, all_joined xs ys p.1 q)

  all_front : (xs ys : List A) → AllByRecursion P (xs ++ ys) → AllByRecursion P xs
  all_front [] ys p = tt
  all_front (x ∷ xs) ys p = (p.0, all_front xs ys p.1)

  all_back : (xs ys : List A) → AllByRecursion P (xs ++ ys) → AllByRecursion P ys
  all_back [] ys p = p
  all_back (x ∷ xs) ys p = all_back xs ys p.1

-- ---- connections that are untouched

waits_on : (k : ℕ) (p : PendingTable) → Stays k p p
waits_on k p = record { queue = refl; places = refl }

same_watches : (k : ℕ) (w : WatchTables) → HasSameWatches k w w
same_watches k w = record {
  data_watches = λ path. refl;
  child = λ path. refl;
  persistent = λ path. refl;
  recursive = λ path. refl;
}

untouched : (k : ℕ) (c : Clients) → IsUntouched k c c
untouched k c = record {
  rest = refl;
  session = refl;
  watches = same_watches k c.watches;
  waits = waits_on k c.pending;
}

-- Another session than the one that is touched stays as it was.
touched_beside : (touched : TouchedSessions) (session x : ℤ) → x ≢ session
    → set.contains (set.insert touched session) x ≡ set.contains touched x
touched_beside touched session x other =
    set.contains-insert int_cmp_total touched session x ∙ by (eq_by_cmp int_cmp x session) refl
  where
    by : (b : Bool) → eq_by_cmp int_cmp x session ≡ b
        → (b || set.contains touched x) ≡ set.contains touched x
    by true same = absurd (other (exact_signed x session (eq_is (int_cmp x session) same)))
    by false differ = refl

untouched_on : (k : ℕ) (c d e : Clients) → IsUntouched k c d → IsUntouched k d e → IsUntouched k c e
untouched_on k c d e first second = record {
  rest = second.rest ∙ first.rest;
  session = second.session ∙ first.session;
  watches = record {
    data_watches = λ path. second.watches.data_watches path ∙ first.watches.data_watches path;
    child = λ path. second.watches.child path ∙ first.watches.child path;
    persistent = λ path. second.watches.persistent path ∙ first.watches.persistent path;
    recursive = λ path. second.watches.recursive path ∙ first.watches.recursive path;
  };
  waits = record {
    queue = second.waits.queue ∙ first.waits.queue;
    places = second.waits.places ∙ first.waits.places;
  };
}

pub waits_alone : (k : ℕ) (w : World) (p : PendingTable) → Stays k w.clients.pending p
    → IsUntouched k w.clients (with_pending w p).clients
waits_alone k w p waits = record {
  rest = refl;
  session = refl;
  watches = same_watches k w.clients.watches;
  waits = waits;
}

pub connection_alone : (n : ℕ) (w : World) (connection : OpenConnection) (k : ℕ) → k ≢ n
    → IsUntouched k w.clients (with_connection n connection w.clients)
connection_alone n w connection k other =
    record {
      rest = get-beside w.clients.connections n k connection other;
      session = refl;
      watches = same_watches k w.clients.watches;
      waits = waits_on k w.clients.pending;
    }

without_alone : (stay : OtherConnectionsStay) (keep_watches : OthersKeepWatches) (queues : OtherQueuesStay) (n : ℕ)
    (c : Clients) (k : ℕ) → k ≢ n → IsUntouched k c (without_client n c)
without_alone stay keep_watches queues n c k other = record {
  rest = get-kept c.connections n k other;
  session = stay.closes c.sessions n k other;
  watches = record {
    data_watches = λ path. keep_watches.drops c.watches.data_watches n path k other;
    child = λ path. keep_watches.drops c.watches.child n path k other;
    persistent = λ path. keep_watches.drops c.watches.lasting.persistent n path k other;
    recursive = λ path. keep_watches.drops c.watches.lasting.recursive n path k other;
  };
  waits = queues.drops c.pending n k other;
}

module _ (own : ℤ → Type 0) (left : ℕ → Type 0) where
  -- One step, and another on the state that it left.
  pub then_apart : (n : ℕ) (w : World) (h : StepResult World) (next : World → StepResult World) → IsApart n own left w h
      → IsApart n own left h.after (next h.after) → IsApart n own left w (and_then h next)
  then_apart n w h next a b = record {
    outputs = all_joined (ConcernsOnly n own left) h.outputs (next h.after).outputs a.outputs b.outputs;
    replica = b.replica ∙ a.replica;
    touched = λ session other. b.touched session other ∙ a.touched session other;
    others = λ k other stays. untouched_on k w.clients h.after.clients (next h.after).after.clients
        (a.others k other (all_front (λ (o : Output). o ≢ CloseClient k) h.outputs (next h.after).outputs stays))
        (b.others k other (all_back (λ (o : Output). o ≢ CloseClient k) h.outputs (next h.after).outputs stays));
  }

  -- The clients change, no session is touched, and nothing is sent.
  pub changes : (n : ℕ) (w : World) (c : Clients) → c.pending.touched ≡ w.clients.pending.touched
      → ((k : ℕ) → k ≢ n → IsUntouched k w.clients c)
      → IsApart n own left w (no_output (record w { clients = c }))
  changes n w c same alone = record {
    outputs = tt;
    replica = refl;
    touched = λ session other. ap (λ touched. set.contains touched session) same;
    others = λ k other stays. alone k other;
  }

  pub stays_so : (n : ℕ) (w : World) → IsApart n own left w (no_output w)
  stays_so n w = changes n w w.clients refl (λ k other. untouched k w.clients)

  module _ (stay : OtherConnectionsStay) (keep_watches : OthersKeepWatches) (queues : OtherQueuesStay) where
    -- The client's own connection closes, or one in `left`.
    close_apart : (n m : ℕ) (w : World) → (m ≡ n) ⊎ left m → IsApart n own left w (close_client m w)
    close_apart n m w may = record {
      outputs = (may, tt);
      replica = refl;
      touched = λ session other. refl;
      others = λ k other stays. without_alone stay keep_watches queues m w.clients k
          (λ is. stays.0 (ap (λ (x : ℕ). CloseClient x) (sym is)));
    }

    pub close_own : (n : ℕ) (w : World) → IsApart n own left w (close_client n w)
    close_own n w = close_apart n n w (inl refl)

    -- ---- watches

    watched_same : (n k : ℕ) → k ≢ n → (w : WatchTables) (watch : Watch) → HasSameWatches k w (with_watch n w watch)
    watched_same n k other w (tables.Data p) = record {
      data_watches = λ path. keep_watches.sets w.data_watches p n path k other;
      child = λ path. refl;
      persistent = λ path. refl;
      recursive = λ path. refl;
    }
    watched_same n k other w (tables.Child p) = record {
      data_watches = λ path. refl;
      child = λ path. keep_watches.sets w.child p n path k other;
      persistent = λ path. refl;
      recursive = λ path. refl;
    }
    watched_same n k other w (tables.Lasting p Persistent) = record {
      data_watches = λ path. refl;
      child = λ path. refl;
      persistent = λ path. keep_watches.sets w.lasting.persistent p n path k other;
      recursive = λ path. refl;
    }
    watched_same n k other w (tables.Lasting p Recursive) = record {
      data_watches = λ path. refl;
      child = λ path. refl;
      persistent = λ path. refl;
      recursive = λ path. keep_watches.sets w.lasting.recursive p n path k other;
    }
    watched_same n k other w (tables.LastingAlone p Persistent) = record {
      data_watches = λ path. refl;
      child = λ path. refl;
      persistent = λ path. keep_watches.sets w.lasting.persistent p n path k other;
      recursive = λ path. keep_watches.removes w.lasting.recursive p n path k other;
    }
    watched_same n k other w (tables.LastingAlone p Recursive) = record {
      data_watches = λ path. refl;
      child = λ path. refl;
      persistent = λ path. keep_watches.removes w.lasting.persistent p n path k other;
      recursive = λ path. keep_watches.sets w.lasting.recursive p n path k other;
    }

    unwatched_same : (n k : ℕ) → k ≢ n → (w : WatchTables) (kind : WatchKind) (p : List ℕ)
        → HasSameWatches k w (without_watch kind n p w)
    unwatched_same n k other w kinds.Child p = record {
      data_watches = λ path. refl;
      child = λ path. keep_watches.removes w.child p n path k other;
      persistent = λ path. refl;
      recursive = λ path. refl;
    }
    unwatched_same n k other w kinds.Data p = record {
      data_watches = λ path. keep_watches.removes w.data_watches p n path k other;
      child = λ path. refl;
      persistent = λ path. refl;
      recursive = λ path. refl;
    }
    unwatched_same n k other w kinds.Persistent p = record {
      data_watches = λ path. refl;
      child = λ path. refl;
      persistent = λ path. keep_watches.removes w.lasting.persistent p n path k other;
      recursive = λ path. refl;
    }
    unwatched_same n k other w kinds.Recursive p = record {
      data_watches = λ path. refl;
      child = λ path. refl;
      persistent = λ path. refl;
      recursive = λ path. keep_watches.removes w.lasting.recursive p n path k other;
    }
    unwatched_same n k other w kinds.Any p = record {
      data_watches = λ path. keep_watches.removes w.data_watches p n path k other;
      child = λ path. keep_watches.removes w.child p n path k other;
      persistent = λ path. keep_watches.removes w.lasting.persistent p n path k other;
      recursive = λ path. keep_watches.removes w.lasting.recursive p n path k other;
    }

    watching_apart : (n : ℕ) (w : World) (watches : WatchTables)
        → ((k : ℕ) → k ≢ n → HasSameWatches k w.clients.watches watches)
        → IsApart n own left w (no_output (with_watches w watches))
    watching_apart n w watches same = changes n w (with_watches w watches).clients refl (λ k other. record {
      rest = refl;
      session = refl;
      watches = same k other;
      waits = waits_on k w.clients.pending;
    })

    -- ---- sessions

    pub sessions_apart : (n : ℕ) (w : World) (s : Sessions)
        → ((k : ℕ) → k ≢ n → finmap.get s.connections k ≡ finmap.get w.clients.sessions.connections k)
        → IsApart n own left w (no_output (with_sessions w s))
    sessions_apart n w s same = changes n w (with_sessions w s).clients refl (λ k other. record {
      rest = refl;
      session = same k other;
      watches = same_watches k w.clients.watches;
      waits = waits_on k w.clients.pending;
    })

    -- The request is of a session of the client's own.
    forward_apart : (n : ℕ) (session : ℤ) (w : World) (frame : List ℕ) (p : PendingTable) → own session
        → p.touched ≡ w.clients.pending.touched → ((k : ℕ) → k ≢ n → Stays k w.clients.pending p)
        → IsApart n own left w (forward_frame n session w frame p)
    forward_apart n session w frame p mine told same = record {
      outputs = (
        (session, (mine, inl (record { frame = frame; ids = ids_of w.clients.sessions n; is = refl }))),
        tt,
      );
      replica = refl;
      touched = λ session other. ap (λ touched. set.contains touched session) told;
      others = λ k other stays. waits_alone k w p (same k other);
    }

    -- ---- small steps

    some_is : (j k : ℕ) → Some j ≡ Some k → j ≡ k
    some_is j k e = ap (λ (o : Option ℕ). unwrap_or o j) e

    pub sent_apart : (n : ℕ) (w : World) (bytes : List ℕ) → IsApart n own left w (sent_bytes n bytes w)
    sent_apart n w bytes = record {
      outputs = (refl, tt);
      replica = refl;
      touched = λ session other. refl;
      others = λ k other stays. untouched k w.clients;
    }

    pub replies_apart : (n : ℕ) → HoldsOfReplies n Always (IsApart n own left)
    replies_apart n = record {
      thens = then_apart n;
      stays = stays_so n;
      closes = λ w a. close_own n w;
      sends = λ w bytes shows. sent_apart n w bytes;
      watches = λ w watch a.
          watching_apart n w (with_watch n w.clients.watches watch)
          (λ k other. watched_same n k other w.clients.watches watch);
      unwatches = λ w kind path a.
          watching_apart n w (without_watch kind n path w.clients.watches)
          (λ k other. unwatched_same n k other w.clients.watches kind path);
      shows = λ w id a.
          sessions_apart n w (add_id w.clients.sessions n id).after
          (λ k other. stay.shows w.clients.sessions n id k other);
    }

    -- Nothing of another connection that waits changes, and no session is touched.
    pub pending_apart : (n : ℕ) (w : World) (p : PendingTable) → p.touched ≡ w.clients.pending.touched
        → ((k : ℕ) → k ≢ n → Stays k w.clients.pending p) → IsApart n own left w (no_output (with_pending w p))
    pending_apart n w p told same =
        changes n w (with_pending w p).clients told (λ k other. waits_alone k w p (same k other))

    -- A session of the client's own is touched.
    pub touch_apart : (n : ℕ) (w : World) (session : ℤ) → own session
        → IsApart n own left w (no_output (with_pending w (touch_session w.clients.pending session)))
    touch_apart n w session mine = record {
      outputs = tt;
      replica = refl;
      touched = λ x other.
          touched_beside w.clients.pending.touched session x (λ is. other (subst own (sym is) mine));
      others = λ k other stays.
          waits_alone k w (touch_session w.clients.pending session) (record { queue = refl; places = refl });
    }

    pub hold_apart : (n : ℕ) (w : World) (frame : List ℕ)
        → IsApart n own left w (no_output (with_pending w (hold_frame w.clients.pending n frame)))
    hold_apart n w frame =
        pending_apart n w (hold_frame w.clients.pending n frame) refl (queues.holds w.clients.pending n frame)

    pub calls_apart : (n : ℕ) → HoldsOfCalls n Always own (IsApart n own left)
    calls_apart n = record {
      touches = λ w session mine a. touch_apart n w session mine;
      leaves = λ w k there a.
          changes n w (with_connection n (record k { is_leaving = true }) w.clients) refl
          (connection_alone n w (record k { is_leaving = true }));
      writes = λ w session frame xid kind mine a.
          forward_apart n session w frame (push_write w.clients.pending n xid kind) mine refl
          (queues.pushes_write w.clients.pending n xid kind);
      syncs = λ w session frame xid path mine a.
          forward_apart n session w frame (push_sync w.clients.pending n xid path) mine refl
          (queues.pushes_sync w.clients.pending n xid path);
      holds = λ w frame busy a. hold_apart n w frame;
    }

    pub answers_apart : (n : ℕ) → HoldsOfAnswers n Always (IsApart n own left)
    answers_apart n = record {
      takes = λ w a.
          pending_apart n w (take_ready w.clients.pending n).after refl (queues.takes w.clients.pending n);
      answers = λ w xid txn_kind a.
          pending_apart n w (answer_write w.clients.pending n xid txn_kind).after refl
          (queues.answers w.clients.pending n xid txn_kind);
      drops = λ w a. changes n w (unqueued n w).clients refl (λ k other. record {
        rest = refl;
        session = stay.closes w.clients.sessions n k other;
        watches = same_watches k w.clients.watches;
        waits = queues.drops w.clients.pending n k other;
      });
    }

    pub greet_apart : (n : ℕ) (has_byte : Bool) (response : SessionResponse) (w : World)
        → IsApart n own left w (send_connect_response n has_byte response w)
    greet_apart n has_byte response w =
        (greet_makes n ⊥ Always (IsApart n own left) (plain_ground n) (replies_apart n) w has_byte response tt).is

    -- A connection that may be closed closes.
    pub left_apart : (n : ℕ) (w : World) (o : Option ℕ) → ((k : ℕ) → o ≡ Some k → left k)
        → IsApart n own left w (close_client_if_some w o)
    left_apart n w None may = stays_so n w
    left_apart n w (Some k) may = close_apart n k w (inr (may k refl))

    pub call_in_apart : (n : ℕ) (session : ℤ) (w : World) (frame : List ℕ) (c : Result Call Fault)
        → is_full w.clients.pending n ≡ false → own session → IsApart n own left w (serve_as n session w frame c)
    call_in_apart n session w frame c room mine =
        (serve_as_makes n ⊥ Always (IsApart n own left) (plain_ground n) (replies_apart n) own (calls_apart n) w session
        frame c mine room (λ strict. absurd strict) tt).is

    -- The connection gets a session. An older one of it is closed, which may be.
    pub given_apart : (n : ℕ) (w : World) (session time_out : ℤ)
        → ((j : ℕ) → connection_of w.clients.sessions session ≡ Some j → left j)
        → IsApart n own left w (given n w session time_out)
    given_apart n w session time_out may = by c.connected.older refl
      where
        c : ConnectResult
        c = give_session w.clients.sessions n session time_out

        v : World
        v = with_sessions w c.after

        alone : (k : ℕ) → k ≢ n → c.connected.older ≢ Some k → IsUntouched k w.clients v.clients
        alone k other older = record {
          rest = refl;
          session = stay.admits w.clients.sessions n session time_out k other older;
          watches = same_watches k w.clients.watches;
          waits = waits_on k w.clients.pending;
        }

        by : (o : Option ℕ) → c.connected.older ≡ o → IsApart n own left w (close_client_if_some v o)
        by None is = changes n w v.clients refl (λ k other. alone k other (λ e. none_or_some k (sym is ∙ e)))
        by (Some j) is =
            let closed = close_apart n j v (inr (may j is)) in
            record {
              outputs = closed.outputs;
              replica = refl;
              touched = closed.touched;
              others = λ k other stays. untouched_on k w.clients v.clients (close_client j v).after.clients
                  (alone k other (λ e. stays.0 (ap (λ (x : ℕ). CloseClient x) (some_is j k (sym is ∙ e)))))
                  (closed.others k other stays);
            }

    connect_alone : (n : ℕ) (w : World) (connect : PendingConnect) (k : ℕ) → k ≢ n
        → IsUntouched k w.clients (with_connect n w connect).clients
    connect_alone n w connect k other =
        waits_alone k w (push_connect w.clients.pending n connect)
        (queues.pushes_connect w.clients.pending n connect k other)

    -- A session of the client's own is asked for.
    pub asked_apart : (n : ℕ) (w : World) (session time_out : ℤ) (has_byte : Bool) → own session
        → IsApart n own left w (asked_for n w session time_out has_byte)
    asked_apart n w session time_out has_byte mine =
        record {
          outputs = ((session, (mine, inr (inl (record { time_out = time_out; is = refl })))), tt);
          replica = refl;
          touched = λ x other. refl;
          others = λ k other stays. connect_alone n w (new_connect session time_out has_byte) k other;
        }

    -- The leader is asked about one that the client claims.
    pub claimed_apart : (n : ℕ) (w : World) (has_byte : Bool) (response : SessionResponse) → own response.session_id
        → IsApart n own left w (ask_about_session n has_byte response w)
    claimed_apart n w has_byte response mine =
        record {
          outputs = ((response.session_id, (mine, inr (inr (record { time_out = response.time_out; is = refl })))), tt);
          replica = refl;
          touched = λ x other. refl;
          others = λ k other stays.
              connect_alone n w (claiming response.session_id response.time_out has_byte) k other;
        }

    pub wait_apart : (n : ℕ) (w : World) (o : Option OpenConnection) (unread : Unread)
        → IsApart n own left w (wait_if_heard n w o unread)
    wait_apart n w None unread = stays_so n w
    wait_apart n w (Some c) (Ok rest) = changes n w (with_waiting_bytes n w c rest).clients refl
        (connection_alone n w (record c { rest = rest }))
    wait_apart n w (Some c) (Err e) = close_own n w

  -- ---- connecting and leaving

  pub open_apart : (n : ℕ) (address : Option (List ℕ)) (w : World) → IsApart n own left w (no_output (open_client n address w))
  open_apart n address w = by (is_open n w.clients)
    where
      opened : OpenConnection
      opened = idle_connection (address_for address w.settings.dialect)

      by : (b : Bool) → IsApart n own left w
          (no_output (cond b w (record w { clients = with_connection n opened w.clients })))
      by true = stays_so n w
      by false = changes n w (with_connection n opened w.clients) refl (connection_alone n w opened)

  pub end_apart : (stay : OtherConnectionsStay) (keep_watches : OthersKeepWatches) (queues : OtherQueuesStay) (n : ℕ)
      (w : World) → IsApart n own left w (no_output (end_client n w))
  end_apart stay keep_watches queues n w = by (is_open n w.clients)
    where
      by : (b : Bool) → IsApart n own left w (no_output (cond b (record w { clients = without_client n w.clients }) w))
      by true = changes n w (without_client n w.clients) refl (without_alone stay keep_watches queues n w.clients)
      by false = stays_so n w

-- ---- all that a client sends

-- None but the client's own connection closes.
abbrev pub Nobody : ℕ → Type 0
Nobody k = ⊥

-- Only requests of this session go to the leader.
abbrev pub Only : ℤ → ℤ → Type 0
Only session other = other ≡ session

-- Nothing goes to the leader.
abbrev pub NoSession : ℤ → Type 0
NoSession session = ⊥

-- More sessions may be the client's own, and more connections may be closed.
pub wider : (n : ℕ) (o u : ℤ → Type 0) (p q : ℕ → Type 0) (w : World) (h : StepResult World) → ((s : ℤ) → o s → u s)
    → ((k : ℕ) → p k → q k) → IsApart n o p w h → IsApart n u q w h
wider n o u p q w h mine more a = record {
  outputs = each h.outputs a.outputs;
  replica = a.replica;
  touched = λ session other. a.touched session (λ is. other (mine session is));
  others = a.others;
}
  where
    of_closed : (k : ℕ) → (k ≡ n) ⊎ p k → (k ≡ n) ⊎ q k
    of_closed k (inl is) = inl is
    of_closed k (inr may) = inr (more k may)

    one : (output : Output) → ConcernsOnly n o p output → ConcernsOnly n u q output
    one (ToLeader bytes) is = (is.0, (mine is.0 is.1.0, is.1.1))
    one (ToClient k frame) is = is
    one (CloseLeader e) is = is
    one (CloseClient k) is = of_closed k is

    each : (outputs : List Output) → AllByRecursion (ConcernsOnly n o p) outputs
        → AllByRecursion (ConcernsOnly n u q) outputs
    each [] all = tt
    each (output ∷ others) all = (one output all.0, each others all.1)

-- A client without a session asks for one first. A connection that this closes had the session that the client takes
-- over, or waited for it.
abbrev pub Had : World → ℤ → ℕ → Type 0
Had w session k = HasOrAsks k w.clients session
