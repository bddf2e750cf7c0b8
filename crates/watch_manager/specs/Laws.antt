-- What holds for each firing, with any watches and any triggers.
use Rattle.std.specs.Prelude.{◌≡◌, ◌≢◌, ℕ, List, [], ◌++◌, Bool, true, false, ◌||◌, map, Contains}
use Rattle.std.specs.List.{AllByRecursion, IsDistinct}
use Rattle.std.specs.List.Sorted.{IsStrictlySortedBy}
use Rattle.std.specs.Ordering.{nat_cmp}
use Rattle.std.specs.FinSet as set
use Rattle.ephemerals.specs.Orders.{Bytes}
use Rattle.data_tree.specs.declared.outcome.Trigger.{Trigger}
use Rattle.data_tree.specs.declared.outcome.Trigger.TheVariants.{Created, Deleted, DataChanged, ChildrenChanged}
use Rattle.watch_manager.specs.Pairs.{WatchPairs, without_connection, same_connection, same_path}
use Rattle.watch_manager.specs.Lasting.{LastingWatches, is_above}
use Rattle.watch_manager.specs.Watching.{WatchTables, without_watches_of}
use Rattle.watch_manager.specs.Kinds.{has_watch, without_watch}
use Rattle.watch_manager.specs.Watches.{event_for, events_of_trigger, fire}
use Rattle.watch_manager.specs.declared.event.Event.{Event}
use Rattle.watch_manager.specs.declared.kind.WatchKind.{WatchKind}
use Rattle.watch_manager.specs.declared.event.EventKind.TheVariants.{NodeCreated, NodeDeleted, NodeDataChanged}

-- A trigger sends a connection at most one event.
abbrev pub ConnectionsAreToldOnce : Type 0
ConnectionsAreToldOnce =
    (w : WatchTables) (trigger : Trigger)
    → IsDistinct same_connection (map (λ (e : ℕ × Event). e.0) (events_of_trigger w trigger))

-- Each connection in the table passes the test.
abbrev pub AllPass : (ℕ → Bool) → WatchPairs → Type 0
AllPass test pairs = (path : Bytes) (connection : ℕ) → set.contains pairs (path, connection) ≡ true → test connection
    ≡ true

-- Each connection with a lasting watch passes the test.
abbrev pub AllLastingPass : (ℕ → Bool) → LastingWatches → Type 0
AllLastingPass test lasting = AllPass test lasting.persistent × AllPass test lasting.recursive

-- Each connection that watches something passes the test.
abbrev pub WatchersPass : (ℕ → Bool) → WatchTables → Type 0
WatchersPass test w = AllPass test w.data_watches × AllPass test w.child × AllLastingPass test w.lasting

-- Only watchers get an event, and no connection watches anew: a test that all watchers pass is passed by each
-- connection that gets an event, and by all watchers afterwards.
abbrev pub OnlyWatchersAreTold : Type 0
OnlyWatchersAreTold =
    (test : ℕ → Bool) (w : WatchTables) (triggers : List Trigger) → WatchersPass test w
    → AllByRecursion (λ (e : ℕ × Event). test e.0 ≡ true) (fire w triggers).events
    × WatchersPass test (fire w triggers).left

-- Where no event is sent, no watch is used up.
abbrev pub NoEventKeepsWatches : Type 0
NoEventKeepsWatches = (w : WatchTables) (triggers : List Trigger) → (fire w triggers).events ≡ []
    → w ≡ (fire w triggers).left

-- A connection that was dropped watches nothing, and no connection watches anew.
abbrev pub DroppedWatchesNothing : Type 0
DroppedWatchesNothing =
    (test : ℕ → Bool) (w : WatchTables) (connection : ℕ) → WatchersPass (λ c. test c || same_connection connection c) w
    → WatchersPass test (without_watches_of connection w)

-- Setting a watch, removing one and dropping a connection leave the watches of every other connection.
pub record OthersKeepWatches : Type 0 where
  pub sets : (pairs : WatchPairs) (path : Bytes) (connection : ℕ) (p : Bytes) (other : ℕ) → other ≢ connection
      → set.contains (set.insert pairs (path, connection)) (p, other) ≡ set.contains pairs (p, other)
  pub removes : (pairs : WatchPairs) (path : Bytes) (connection : ℕ) (p : Bytes) (other : ℕ) → other ≢ connection
      → set.contains (set.remove pairs (path, connection)) (p, other) ≡ set.contains pairs (p, other)
  pub drops : (pairs : WatchPairs) (connection : ℕ) (p : Bytes) (other : ℕ) → other ≢ connection
      → set.contains (without_connection connection pairs) (p, other) ≡ set.contains pairs (p, other)

-- A connection has no watch of a kind that was removed.
abbrev pub RemovedIsGone : Type 0
RemovedIsGone =
    (w : WatchTables) (kind : WatchKind) (connection : ℕ) (path : Bytes)
    → has_watch kind connection path (without_watch kind connection path w) ≡ false

-- No trigger uses up a lasting watch.
abbrev pub LastingWatchesStay : Type 0
LastingWatchesStay = (w : WatchTables) (triggers : List Trigger) → (fire w triggers).left.lasting ≡ w.lasting

-- The connection has a recursive watch on the path or above it.
pub record WatchesRecursively (w : WatchTables) (path : Bytes) (connection : ℕ) : Type 0 where
  pub on : Bytes
  pub is_set : set.contains w.lasting.recursive (on, connection) ≡ true
  pub reaches : (same_path on path || is_above on path) ≡ true

-- It is told of each creation, deletion and change of data.
pub record RecursiveWatchersAreTold : Type 0 where
  pub created : (w : WatchTables) (path : Bytes) (connection : ℕ) → WatchesRecursively w path connection
      → Contains (events_of_trigger w (Created path)) (event_for connection NodeCreated path)
  pub deleted : (w : WatchTables) (path : Bytes) (connection : ℕ) → WatchesRecursively w path connection
      → Contains (events_of_trigger w (Deleted path)) (event_for connection NodeDeleted path)
  pub changed : (w : WatchTables) (path : Bytes) (connection : ℕ) → WatchesRecursively w path connection
      → Contains (events_of_trigger w (DataChanged path)) (event_for connection NodeDataChanged path)

-- The connections of the events strictly rise.
abbrev pub IsInConnectionOrder : List (ℕ × Event) → Type 0
IsInConnectionOrder events = IsStrictlySortedBy nat_cmp (map (λ (e : ℕ × Event). e.0) events)

-- Within a part the connections are told in ascending number: the watchers of the node, then its child watchers.
pub record PartsAscend : Type 0 where
  pub created : (w : WatchTables) (path : Bytes) → IsInConnectionOrder (events_of_trigger w (Created path))
  pub deleted : (w : WatchTables) (path : Bytes) → (first others : List (ℕ × Event))
      × (events_of_trigger w (Deleted path) ≡ first ++ others) × IsInConnectionOrder first × IsInConnectionOrder others
  pub changed : (w : WatchTables) (path : Bytes) → IsInConnectionOrder (events_of_trigger w (DataChanged path))
  pub children : (w : WatchTables) (path : Bytes) → IsInConnectionOrder (events_of_trigger w (ChildrenChanged path))
