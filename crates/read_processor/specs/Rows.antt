-- Looks and watches that were worked out by hand, in any state that has the node.
use Rattle.std.specs.Prelude.{◌≡◌, ℕ, ℤ, pos, List, [], ◌∷◌, ◌++◌, Some, None, true, false, codes}
use Rattle.std.specs.FinMap as finmap
use Rattle.std.specs.FinSet as set
use Rattle.values.specs.Hex.{hex_bytes}
use Rattle.settings.specs.declared.dialect.Dialect.{Dialect}
use Rattle.settings.specs.declared.dialect.Dialect.TheVariants.{Zk34, Zk38}
use Rattle.jute.specs.declared.owned.Id.{Id}
use Rattle.jute.specs.declared.codes.TheConstants.{BAD_ARGUMENTS, NO_NODE, NO_AUTH}
use Rattle.client_records.specs.declared.kind.ReadKind.{ReadKind}
use Rattle.client_records.specs.declared.kind.ReadKind.TheVariants.{Exists, GetData}
use Rattle.client_records.specs.declared.request.AddWatch.{AddWatch}
use Rattle.client_records.specs.declared.request.SetWatches.{SetWatches}
use Rattle.watch_manager.specs.declared.kind.WatchKind.TheVariants as kinds
use Rattle.node_map.specs.declared.node.Node.{Node}
use Rattle.data_tree.specs.State.{State}
use Rattle.watch_manager.specs.declared.mode.WatchMode.TheVariants.{Persistent, Recursive}
use Rattle.watch_manager.specs.declared.event.EventKind.TheVariants.{NodeDataChanged, NodeCreated}
use Rattle.read_processor.specs.declared.request.Request.{Request}
use Rattle.read_processor.specs.declared.watch.Watch.TheVariants.{Data, Child, Lasting, LastingAlone}
use Rattle.read_processor.specs.Look.{look_at_state, without_body, shown_look}
use Rattle.read_processor.specs.LaterReads.{is_below}
use Rattle.read_processor.specs.Watch.{watch_of, watch_to_add, watch_sought}
use Rattle.read_processor.specs.Renewal.{renew_watches, renew_all_watches}

abbrev pub reader_id : Id
reader_id = record { scheme = codes "digest"; id = codes "ann:QQ==" }

-- A node with the data "hi", which one id may read.
abbrev pub readable_node : Node
readable_node = record {
  bytes = Some (codes "hi");
  acl = record { perms = pos 1; id = reader_id } ∷ [];
  stat = record {
    czxid = pos 4294967297;
    mzxid = pos 4294967298;
    ctime = pos 1000;
    mtime = pos 2000;
    version = pos 1;
    cversion = pos 0;
    aversion = pos 0;
    ephemeral_owner = pos 0;
    pzxid = pos 4294967297;
  };
  mark = pos 0;
  children = set.empty;
}

abbrev pub stat_of_node : List ℕ
stat_of_node =
    codes "0000000100000001 0000000100000002 00000000000003e8 00000000000007d0 00000001 00000000 00000000"
    ++ codes " 0000000000000000 00000002 00000000 0000000100000001"

-- The bytes of the replies to exists and getData after their headers.
abbrev pub exists_bytes : List ℕ
exists_bytes = hex_bytes stat_of_node

abbrev pub get_data_bytes : List ℕ
get_data_bytes = hex_bytes (codes "00000002 6869 " ++ stat_of_node)

-- The state has the node at /a, and none at /q.
abbrev pub HoldsNode : State → Type 0
HoldsNode s = (finmap.get s.nodes (codes "/a") ≡ Some readable_node) × (finmap.get s.nodes (codes "/q") ≡ None)

abbrev pub read_without_watch : ReadKind → List ℕ → Request
read_without_watch kind path = record { kind = kind; path = Some path; watch = false; rules = Zk34 }

-- The claim at each state that holds the node.
abbrev pub AtEachState : (State → Type 0) → Type 0
AtEachState P = (s : State) → HoldsNode s → P s

pub record WorkedLooks : Type 0 where
  pub read : AtEachState (λ s. look_at_state s (reader_id ∷ []) (read_without_watch GetData (codes "/a"))
      ≡ shown_look get_data_bytes)
  pub not_read : AtEachState (λ s. look_at_state s [] (read_without_watch GetData (codes "/a"))
      ≡ without_body NO_AUTH)
  -- No permission is needed.
  pub exists : AtEachState (λ s. look_at_state s [] (read_without_watch Exists (codes "/a"))
      ≡ shown_look exists_bytes)
  pub missing : AtEachState (λ s. look_at_state s [] (read_without_watch GetData (codes "/q")) ≡ without_body NO_NODE)
  pub not_asked_for : AtEachState
      (λ s. look_at_state s [] (read_without_watch GetData (codes "q")) ≡ without_body BAD_ARGUMENTS)
  pub null : AtEachState (λ s. look_at_state s [] (record { kind = GetData; path = None; watch = false; rules = Zk34 })
      ≡ without_body BAD_ARGUMENTS)

-- ---- later clients

pub record WorkedLater : Type 0 where
  pub below : is_below (codes "/a") (codes "/a/b/c") ≡ true
  pub alike : is_below (codes "/a") (codes "/ab") ≡ false
  pub itself : is_below (codes "/a") (codes "/a") ≡ false
  pub below_root : is_below (codes "/") (codes "/a") ≡ true
  pub root_itself : is_below (codes "/") (codes "/") ≡ false

-- ---- watches

abbrev pub read_with_watch : ReadKind → List ℕ → Request
read_with_watch kind path = record { kind = kind; path = Some path; watch = true; rules = Zk34 }

-- A client that has seen everything up to the node's pzxid. It has read the nodes in `read`, found those in `absent`
-- missing, and listed the children of those in `parents`.
abbrev pub set_watches_of : List (List ℕ) → List (List ℕ) → List (List ℕ) → SetWatches
set_watches_of read absent parents = record {
  relative_zxid = pos 4294967297;
  data_watches = read;
  exist_watches = absent;
  child_watches = parents;
}

abbrev pub watch_with_mode : ℤ → List ℕ → AddWatch
watch_with_mode mode path = record { path = Some path; mode = mode }

pub record WorkedWatches : Type 0 where
  pub waits : watch_of (read_with_watch Exists (codes "/q")) NO_NODE ≡ Some (Data (codes "/q"))
  pub missing : watch_of (read_with_watch GetData (codes "/q")) NO_NODE ≡ None
  pub persistent : watch_to_add Zk34 (watch_with_mode (pos 0) (codes "/q"))
      ≡ Some (LastingAlone (codes "/q") Persistent)
  pub recursive : watch_to_add Zk34 (watch_with_mode (pos 1) (codes "/")) ≡ Some (LastingAlone (codes "/") Recursive)
  pub another_mode : (d : Dialect) → watch_to_add d (watch_with_mode (pos 2) (codes "/q")) ≡ None
  pub ill_formed : watch_to_add Zk34 (watch_with_mode (pos 0) (codes "q")) ≡ None
  pub any_path : watch_to_add Zk38 (watch_with_mode (pos 0) (codes "q")) ≡ Some (Lasting (codes "q") Persistent)
  pub null_path : (d : Dialect) → watch_to_add d (record { path = None; mode = pos 0 }) ≡ None
  pub sought : watch_sought (record { path = Some (codes "/q"); kind = pos 4 })
      ≡ Some (record { path = codes "/q"; kind = kinds.Persistent })
  pub another_kind : watch_sought (record { path = Some (codes "/q"); kind = pos 6 }) ≡ None
  pub sought_at_null : watch_sought (record { path = None; kind = pos 3 }) ≡ None
  -- The node's data changed since then, its children didn't, and /q isn't there yet.
  pub renewed : AtEachState (λ s.
      renew_watches Zk34 s (set_watches_of (codes "/a" ∷ []) (codes "/q" ∷ []) (codes "/a" ∷ []))
      ≡ Some (record {
        events = record { kind = NodeDataChanged; path = codes "/a" } ∷ [];
        watches = Data (codes "/q") ∷ Child (codes "/a") ∷ [];
      }))
  -- A path that is listed twice gives two events.
  pub twice : AtEachState (λ s.
      renew_watches Zk34 s (set_watches_of [] (codes "/a" ∷ codes "/a" ∷ []) [])
      ≡ Some (record {
        events = record { kind = NodeCreated; path = codes "/a" }
            ∷ record { kind = NodeCreated; path = codes "/a" } ∷ [];
        watches = [];
      }))
  pub not_asked_for : AtEachState
      (λ s. renew_watches Zk34 s (set_watches_of (codes "/a" ∷ []) [] (codes "a" ∷ [])) ≡ None)
  pub any_paths : AtEachState (λ s.
      renew_watches Zk38 s (set_watches_of [] (codes "/q" ∷ []) []) ≡ Some (record {
        events = [];
        watches = Data (codes "/q") ∷ [];
      }))
  -- Lasting watches have no event, whatever was missed at their paths.
  pub all_renewed : AtEachState (λ s.
      renew_all_watches s (record {
        older = set_watches_of (codes "/a" ∷ []) [] [];
        persistent_watches = codes "/a" ∷ [];
        recursive_watches = codes "q" ∷ [];
      })
      ≡ (record {
        events = record { kind = NodeDataChanged; path = codes "/a" } ∷ [];
        watches = Lasting (codes "/a") Persistent ∷ Lasting (codes "q") Recursive ∷ [];
      }))
