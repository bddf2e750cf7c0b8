-- A predicate of connection numbers that holds for all keys of a map, and for all connections with a session, a watch
-- or a request that waits.
use Rattle.std.proofs.Common.{◌≡◌, ◌≢◌, ℕ, ℤ, Bool, true, false, cond, not, ◌||◌, ◌&&◌, List, [], ◌∷◌, Option, Some, None, refl, sym, ap, subst, ◌∙◌}
use Rattle.std.specs.Prelude.{is_some}
use Rattle.std.specs.List.{list_any}
use Rattle.std.specs.Ordering.{eq_by_cmp, nat_cmp, int_cmp}
use Rattle.std.specs.Cmp.{nat_cmp_total, int_cmp_total, eq_by_cmp_equiv}
use Rattle.std.proofs.Math.Bool.{or-false}
use Rattle.std.proofs.lemmas.Bool.{cond_both}
use Rattle.std.proofs.lemmas.Map.Lookups.{exact_unsigned}
use Rattle.std.proofs.lemmas.Map.Views.{tells_apart}
use Rattle.std.specs.FinMap as finmap
use Rattle.std.specs.FinSet as set
use mathlib.Core.Bool.{true≢false}
use Rattle.jute.specs.declared.owned.Id.{Id}
use Rattle.sessions.specs.State.{ConnectedClient, SessionTable}
use Rattle.sessions.specs.Sessions.{AuthResult, session_response, new_connection, are_within_limits, is_same_id, with_id, connection_of, close_connection, close_as, close_if_some, give_session, show_in, add_id}
use Rattle.watch_manager.specs.Pairs.{WatchPairs, watch_cmp, same_connection}
use Rattle.watch_manager.specs.Watching.{WatchTables}
use Rattle.watch_manager.specs.Kinds.{without_watch}
use Rattle.watch_manager.specs.Laws.{AllPass, WatchersPass}
use Rattle.watch_manager.specs.declared.kind.WatchKind.{WatchKind}
use Rattle.watch_manager.specs.declared.kind.WatchKind.TheVariants as kinds
use Rattle.watch_manager.specs.declared.mode.WatchMode.TheVariants.{Persistent, Recursive}
use Rattle.watch_manager.proofs.Totals.{watch_total, watch_exact}
use Rattle.read_processor.specs.declared.watch.Watch.{Watch}
use Rattle.read_processor.specs.declared.watch.Watch.TheVariants as tables
use Rattle.forwarding.specs.Queue.{RequestQueue, with_oldest_settled}
use Rattle.forwarding.specs.declared.request.PendingConnect.{PendingConnect}
use Rattle.forwarding.specs.State.{PendingTable, WaitingConnects}
use Rattle.forwarding.specs.Pending.{without_connect, queue_in, queue_of, with_queue, put_queue, settle_first, settle_sync}
use Rattle.client_service.specs.Serve.{with_watch}
use Rattle.world.proofs.NatMaps.{get-beside}

or_first : (a b : Bool) → b ≡ false → (a || b) ≡ true → a ≡ true
or_first a b none h = sym (or-false a) ∙ ap (λ x. a || x) (sym none) ∙ h

-- ---- numbers in a map

abbrev pub KeysPass : {X : Type 0} → (ℕ → Bool) → finmap.FinMap nat_cmp X → Type 0
KeysPass test m = (k : ℕ) → finmap.contains_key m k ≡ true → test k ≡ true

module _ {X : Type 0} (test : ℕ → Bool) (m : finmap.FinMap nat_cmp X) (n : ℕ) where
  pub inserted_passes : (v : X) → test n ≡ true → KeysPass test m → KeysPass test (finmap.insert m n v)
  inserted_passes v here all k has =
      cond_both (eq_by_cmp nat_cmp k n) (Some v) (finmap.get m k) (λ o. is_some o ≡ true → test k ≡ true)
      (λ same h. ap test (tells_apart exact_unsigned k n same) ∙ here) (λ other h. all k h)
      (sym (ap is_some (finmap.get-insert nat_cmp_total m n v k)) ∙ has)

  -- The remaining keys pass, if at most the removed one doesn't.
  pub removed_passes : KeysPass (λ k. test k || same_connection n k) m → KeysPass test (finmap.remove m n)
  removed_passes all k has =
      cond_both (eq_by_cmp nat_cmp k n) None (finmap.get m k) (λ o. is_some o ≡ true → test k ≡ true)
      (λ same h. absurd (true≢false (sym h)))
      (λ other h. or_first (test k) (same_connection n k) ((eq_by_cmp_equiv nat_cmp_total).symm n k ∙ other) (all k h))
      (sym (ap is_some (finmap.get-remove nat_cmp_total m n k)) ∙ has)

  -- The same where that key isn't in the map.
  pub absent_passes : finmap.get m n ≡ None → KeysPass (λ k. test k || same_connection n k) m → KeysPass test m
  absent_passes none all k has = by (same_connection n k) refl
    where
      by : (b : Bool) → same_connection n k ≡ b → test k ≡ true
      by true same =
          let is_none = ap (finmap.get m) (sym (tells_apart exact_unsigned n k same)) ∙ none in
          absurd (true≢false (sym has ∙ ap is_some is_none))
      by false other = or_first (test k) (same_connection n k) other (all k has)

-- ---- connections that have a session

module _ (test : ℕ → Bool) where
  abbrev Pass : SessionTable → Type 0
  Pass s = KeysPass test s.connections

  -- Every connection that still has a session passes, if at most the closed one doesn't.
  pub closed_passes : (s : SessionTable) (n : ℕ) → KeysPass (λ k. test k || same_connection n k) s.connections
      → Pass (close_connection s n)
  closed_passes s n all = by (finmap.get s.connections n) refl
    where
      by : (o : Option ConnectedClient) → finmap.get s.connections n ≡ o → Pass (close_as s n o)
      by None none = absent_passes test s.connections n none all
      by (Some c) has = removed_passes test s.connections n all

  pub one_closed_passes : (s : SessionTable) (o : Option ℕ) → Pass s → Pass (close_if_some s o)
  one_closed_passes s None all = all
  one_closed_passes s (Some n) all = closed_passes s n (λ k has. ap (λ b. b || same_connection n k) (all k has))

  module _ (s : SessionTable) (n : ℕ) (here : test n ≡ true) (all : Pass s) where
    shown_passes : (id : Id) (o : Option ConnectedClient) → Pass (show_in s n id o).after
    shown_passes id None = all
    shown_passes id (Some c) =
        cond_both (list_any (λ shown. is_same_id shown id) c.ids) _ _ (λ (x : AuthResult). Pass x.after) (λ _. all)
        (λ _. cond_both (are_within_limits (with_id c id).ids) _ _ (λ (x : AuthResult). Pass x.after)
        (λ _. inserted_passes test s.connections n (with_id c id) here all) (λ _. all))

    pub id_passes : (id : Id) → Pass (add_id s n id).after
    id_passes id = shown_passes id (finmap.get s.connections n)

    -- A connection that passes gets a session.
    pub given_passes : (session time_out : ℤ) → Pass (give_session s n session time_out).after
    given_passes session time_out =
        inserted_passes test (close_if_some s (connection_of s session)).connections n
        (new_connection session (session_response s.terms session time_out).time_out) here
        (one_closed_passes s (connection_of s session) all)

-- ---- connections that have no session

-- Adding an id gives no connection a session.
pub id_none : (s : SessionTable) (n : ℕ) (id : Id) (k : ℕ) → finmap.get s.connections k ≡ None
    → finmap.get (add_id s n id).after.connections k ≡ None
id_none s n id k none = shown (finmap.get s.connections n) refl
  where
    Still : AuthResult → Type 0
    Still x = finmap.get x.after.connections k ≡ None

    added : (c : ConnectedClient) → finmap.get s.connections n ≡ Some c
        → finmap.get (finmap.insert s.connections n (with_id c id)) k ≡ None
    added c there =
        finmap.get-insert nat_cmp_total s.connections n (with_id c id) k
        ∙ cond_both (eq_by_cmp nat_cmp k n) (Some (with_id c id)) (finmap.get s.connections k) (λ o. o ≡ None)
        (λ same. absurd (true≢false (sym (ap is_some there)
        ∙ ap (λ (m : ℕ). is_some (finmap.get s.connections m)) (sym (tells_apart exact_unsigned k n same))
        ∙ ap is_some none)))
        (λ other. none)

    shown : (o : Option ConnectedClient) → finmap.get s.connections n ≡ o → Still (show_in s n id o)
    shown None there = none
    shown (Some c) there =
        cond_both (list_any (λ shown. is_same_id shown id) c.ids) _ _ Still (λ _. none)
        (λ _. cond_both (are_within_limits (with_id c id).ids) _ _ Still (λ _. added c there) (λ _. none))

-- Closing a connection gives none a session.
pub closed_none : (s : SessionTable) (n k : ℕ) → finmap.get s.connections k ≡ None
    → finmap.get (close_connection s n).connections k ≡ None
closed_none s n k none = by (finmap.get s.connections n)
  where
    by : (o : Option ConnectedClient) → finmap.get (close_as s n o).connections k ≡ None
    by None = none
    by (Some c) =
        finmap.get-remove nat_cmp_total s.connections n k
        ∙ cond_both (eq_by_cmp nat_cmp k n) None (finmap.get s.connections k) (λ o. o ≡ None) (λ _. refl) (λ _. none)

pub one_closed_none : (s : SessionTable) (o : Option ℕ) (k : ℕ) → finmap.get s.connections k ≡ None
    → finmap.get (close_if_some s o).connections k ≡ None
one_closed_none s None k none = none
one_closed_none s (Some n) k none = closed_none s n k none

-- Giving a session to a connection gives no other one.
pub given_none : (s : SessionTable) (n : ℕ) (session time_out : ℤ) (k : ℕ) → k ≢ n
    → finmap.get s.connections k ≡ None
    → finmap.get (give_session s n session time_out).after.connections k ≡ None
given_none s n session time_out k other none =
    get-beside (close_if_some s (connection_of s session)).connections n k
    (new_connection session (session_response s.terms session time_out).time_out) other
    ∙ one_closed_none s (connection_of s session) k none

-- ---- connects that wait

-- A connect that still waits waited before.
pub fewer_without : (connects : WaitingConnects) (o : Option PendingConnect) (session : ℤ) (n : ℕ)
    → finmap.get (without_connect connects o) session ≡ Some n → finmap.get connects session ≡ Some n
fewer_without connects None session n e = e
fewer_without connects (Some c) session n e =
    was_there (eq_by_cmp int_cmp session c.session) (finmap.get connects session)
    (sym (finmap.get-remove int_cmp_total connects c.session session) ∙ e)
  where
    was_there : (b : Bool) (o : Option ℕ) → cond b None o ≡ Some n → o ≡ Some n
    was_there true o e = absurd (true≢false (sym (ap is_some e)))
    was_there false o e = e

-- ---- connections of which a request waits

module _ (test : ℕ → Bool) (p : PendingTable) (all : KeysPass test p.queues) where
  -- No request waits of a connection of which none waited before.
  pub put_passes : (n : ℕ) (change : RequestQueue → RequestQueue) → change [] ≡ []
      → KeysPass test (put_queue p n (change (queue_of p n))).queues
  put_passes n change none = by (finmap.get p.queues n) refl
    where
      Put : RequestQueue → Type 0
      Put q = KeysPass test (with_queue p.queues n q)

      gone : Put []
      gone = removed_passes test p.queues n (λ k has. ap (λ b. b || same_connection n k) (all k has))

      put : test n ≡ true → (q : RequestQueue) → Put q
      put here [] = gone
      put here (r ∷ rest) = inserted_passes test p.queues n (r ∷ rest) here all

      by : (o : Option RequestQueue) → finmap.get p.queues n ≡ o → Put (change (queue_in o))
      by None e = subst Put (sym none) gone
      by (Some q) e = put (all n (ap is_some e)) (change q)

  pub settled_passes : KeysPass test (settle_sync p).after.queues
  settled_passes = by p.syncs
    where
      by : (syncs : List (Option ℕ)) → KeysPass test (settle_first p syncs).after.queues
      by [] = all
      by (None ∷ rest) = all
      by (Some n ∷ rest) = put_passes n with_oldest_settled refl

-- ---- connections that watch

-- A weaker predicate.
pub watchers_pass : (p q : ℕ → Bool) (w : WatchTables) → ((k : ℕ) → p k ≡ true → q k ≡ true) → WatchersPass p w
    → WatchersPass q w
watchers_pass p q w weaker all = (
  λ path k has. weaker k (all.0 path k has),
  λ path k has. weaker k (all.1 path k has),
  (
    λ path k has. weaker k (all.2.0 path k has),
    λ path k has. weaker k (all.2.1 path k has),
  ),
)

unpaired_passes : (test : ℕ → Bool) (n : ℕ) (pairs : WatchPairs) (path : List ℕ) → AllPass test pairs
    → AllPass test (set.remove pairs (path, n))
unpaired_passes test n pairs path all at k has =
    all at k (by (eq_by_cmp watch_cmp (at, k) (path, n)) (set.contains pairs (at, k))
    (sym (set.contains-remove watch_total pairs (path, n) (at, k)) ∙ has))
  where
    by : (removed here : Bool) → (not removed && here) ≡ true → here ≡ true
    by true here h = absurd (true≢false (sym h))
    by false here h = h

-- A connection loses watches.
pub unwatched_passes : (test : ℕ → Bool) (kind : WatchKind) (n : ℕ) (path : List ℕ) (w : WatchTables)
    → WatchersPass test w → WatchersPass test (without_watch kind n path w)
unwatched_passes test kinds.Child n path w all = (all.0, unpaired_passes test n w.child path all.1, all.2)
unwatched_passes test kinds.Data n path w all = (unpaired_passes test n w.data_watches path all.0, all.1, all.2)
unwatched_passes test kinds.Persistent n path w all =
    (all.0, all.1, (unpaired_passes test n w.lasting.persistent path all.2.0, all.2.1))
unwatched_passes test kinds.Recursive n path w all =
    (all.0, all.1, (all.2.0, unpaired_passes test n w.lasting.recursive path all.2.1))
unwatched_passes test kinds.Any n path w all = (
  unpaired_passes test n w.data_watches path all.0,
  unpaired_passes test n w.child path all.1,
  (
    unpaired_passes test n w.lasting.persistent path all.2.0,
    unpaired_passes test n w.lasting.recursive path all.2.1,
  ),
)

module _ (test : ℕ → Bool) (n : ℕ) (here : test n ≡ true) where
  pair_passes : (pairs : WatchPairs) (path : List ℕ) → AllPass test pairs → AllPass test (set.insert pairs (path, n))
  pair_passes pairs path all at k has =
      by (eq_by_cmp watch_cmp (at, k) (path, n)) refl
      (sym (set.contains-insert watch_total pairs (path, n) (at, k)) ∙ has)
    where
      by : (b : Bool) → eq_by_cmp watch_cmp (at, k) (path, n) ≡ b → (b || set.contains pairs (at, k)) ≡ true
          → test k ≡ true
      by true same h = ap (λ (p : List ℕ × ℕ). test p.1) (tells_apart watch_exact (at, k) (path, n) same) ∙ here
      by false other h = all at k h

  pub watched_passes : (w : WatchTables) (watch : Watch) → WatchersPass test w → WatchersPass test (with_watch n w watch)
  watched_passes w (tables.Data path) all = (pair_passes w.data_watches path all.0, all.1, all.2)
  watched_passes w (tables.Child path) all = (all.0, pair_passes w.child path all.1, all.2)
  watched_passes w (tables.Lasting path Persistent) all =
      (all.0, all.1, (pair_passes w.lasting.persistent path all.2.0, all.2.1))
  watched_passes w (tables.Lasting path Recursive) all =
      (all.0, all.1, (all.2.0, pair_passes w.lasting.recursive path all.2.1))
  watched_passes w (tables.LastingAlone path Persistent) all =
      (all.0, all.1, (pair_passes w.lasting.persistent path all.2.0, unpaired_passes test n w.lasting.recursive path all.2.1))
  watched_passes w (tables.LastingAlone path Recursive) all =
      (all.0, all.1, (unpaired_passes test n w.lasting.persistent path all.2.0, pair_passes w.lasting.recursive path all.2.1))
