-- Rows that were worked out by hand: watches, triggers, and the events that they cause.
use Rattle.std.specs.Prelude.{◌≡◌, ℕ, List, [], ◌∷◌, codes}
use Rattle.std.specs.FinSet as set
use Rattle.ephemerals.specs.Orders.{Bytes}
use Rattle.data_tree.specs.declared.outcome.Trigger.TheVariants.{Created, Deleted, DataChanged, ChildrenChanged}
use Rattle.watch_manager.specs.Watching.{WatchTables, no_watch}
use Rattle.watch_manager.specs.Lasting.{no_lasting_watch, root_path}
use Rattle.watch_manager.specs.Watches.{FireResult, event_for, fire}
use Rattle.watch_manager.specs.declared.event.Event.{Event}
use Rattle.watch_manager.specs.declared.event.EventKind.TheVariants.{NodeCreated, NodeDeleted, NodeDataChanged, NodeChildrenChanged}

abbrev pub path_a : Bytes
path_a = codes "/a"

abbrev pub path_b : Bytes
path_b = codes "/b"

abbrev pub path_ab : Bytes
path_ab = codes "/ab"

abbrev pub path_a_e : Bytes
path_a_e = codes "/a/e"

abbrev pub path_a_f : Bytes
path_a_f = codes "/a/f"

abbrev pub path_b_g : Bytes
path_b_g = codes "/b/g"

-- These data watches and child watches.
abbrev pub watches_on : List (Bytes × ℕ) → List (Bytes × ℕ) → WatchTables
watches_on data_watches child = record {
  data_watches = set.from_list data_watches;
  child = set.from_list child;
  lasting = no_lasting_watch;
}

-- With these persistent watches and recursive watches.
abbrev pub lasting_on : List (Bytes × ℕ) → List (Bytes × ℕ) → WatchTables → WatchTables
lasting_on persistent recursive w = record w {
  lasting = record { persistent = set.from_list persistent; recursive = set.from_list recursive };
}

abbrev pub result_without_watches : List (ℕ × Event) → FireResult
result_without_watches events = record { events = events; left = no_watch }

pub record WorkedRows : Type 0 where
  -- A delete of /a, and a second create and delete. Connection 1 has a data and a child watch on /a, and gets one
  -- event.
  pub one_shot_delete :
      fire (watches_on ((path_a, 1) ∷ []) ((root_path, 2) ∷ (path_a, 1) ∷ (path_a, 2) ∷ []))
      (Deleted path_a ∷ ChildrenChanged root_path ∷ Created path_a ∷ ChildrenChanged root_path ∷ Deleted path_a
      ∷ ChildrenChanged root_path ∷ [])
      ≡ result_without_watches (event_for 1 NodeDeleted path_a ∷ event_for 2 NodeDeleted path_a ∷ event_for 2
      NodeChildrenChanged root_path ∷ [])
  -- The session that owns /a/e, /a/f and /b/g ends.
  pub close_session :
      fire (watches_on ((path_a_f, 1) ∷ []) ((path_a, 1) ∷ (path_b, 1) ∷ []))
      (Deleted path_a_e ∷ ChildrenChanged path_a ∷ Deleted path_a_f ∷ ChildrenChanged path_a ∷ Deleted path_b_g
      ∷ ChildrenChanged path_b ∷ [])
      ≡ result_without_watches (event_for 1 NodeChildrenChanged path_a ∷ event_for 1 NodeDeleted path_a_f ∷ event_for 1
      NodeChildrenChanged path_b ∷ [])
  -- A create of /a, on which connection 1 has a watch.
  pub created :
      fire (watches_on ((path_a, 1) ∷ []) []) (Created path_a ∷ ChildrenChanged root_path ∷ []) ≡ result_without_watches
      (event_for 1 NodeCreated path_a ∷ [])
  -- A create of /a tells of /a alone where the watch on "/" is recursive, and of "/" alone where it is persistent.
  pub recursive_root :
      fire (lasting_on [] ((root_path, 1) ∷ []) no_watch)
      (Created path_a ∷ ChildrenChanged root_path ∷ []) ≡ (record {
        events = event_for 1 NodeCreated path_a ∷ [];
        left = lasting_on [] ((root_path, 1) ∷ []) no_watch;
      })
  pub persistent_root :
      fire (lasting_on ((root_path, 1) ∷ []) [] no_watch)
      (Created path_a ∷ ChildrenChanged root_path ∷ []) ≡ (record {
        events = event_for 1 NodeChildrenChanged root_path ∷ [];
        left = lasting_on ((root_path, 1) ∷ []) [] no_watch;
      })
  -- A connection that watches /a in all three ways is told once of its delete.
  pub watched_in_each_table :
      fire (lasting_on [] ((root_path, 1) ∷ []) (watches_on ((path_a, 1) ∷ []) ((path_a, 1) ∷ [])))
      (Deleted path_a ∷ ChildrenChanged root_path ∷ []) ≡ (record {
        events = event_for 1 NodeDeleted path_a ∷ [];
        left = lasting_on [] ((root_path, 1) ∷ []) no_watch;
      })
  -- Neither /ab nor "/" is below /a, and a watch on "/a/" is on no path. Connections are told in ascending number.
  pub below_a :
      fire (lasting_on ((path_a_e, 2) ∷ []) ((path_a, 3) ∷ (codes "/a/", 1) ∷ []) no_watch)
      (Created path_ab ∷ ChildrenChanged root_path ∷ DataChanged path_a_e ∷ DataChanged root_path ∷ []) ≡ (record {
        events = event_for 2 NodeDataChanged path_a_e ∷ event_for 3 NodeDataChanged path_a_e ∷ [];
        left = lasting_on ((path_a_e, 2) ∷ []) ((path_a, 3) ∷ (codes "/a/", 1) ∷ []) no_watch;
      })
  -- A connection with both lasting watches on /a is told once of each change, of those below /a by the recursive one and
  -- of the children of /a by the persistent one.
  pub both_modes :
      fire (lasting_on ((path_a, 1) ∷ []) ((path_a, 1) ∷ []) no_watch)
      (Created path_a ∷ ChildrenChanged root_path ∷ Created path_a_e ∷ ChildrenChanged path_a ∷ Deleted path_a_e
      ∷ ChildrenChanged path_a ∷ []) ≡ (record {
        events = event_for 1 NodeCreated path_a ∷ event_for 1 NodeCreated path_a_e ∷ event_for 1 NodeChildrenChanged path_a
            ∷ event_for 1 NodeDeleted path_a_e ∷ event_for 1 NodeChildrenChanged path_a ∷ [];
        left = lasting_on ((path_a, 1) ∷ []) ((path_a, 1) ∷ []) no_watch;
      })
  -- Nothing is below the empty text.
  pub below_nothing :
      fire (lasting_on [] (([], 1) ∷ []) no_watch)
      (Created path_a ∷ ChildrenChanged root_path ∷ Created path_a_e ∷ ChildrenChanged path_a ∷ []) ≡ (record {
        events = [];
        left = lasting_on [] (([], 1) ∷ []) no_watch;
      })
