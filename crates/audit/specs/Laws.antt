-- The count of a clean log, and a session that closes clean.
use Rattle.std.specs.Prelude.{◌≡◌, ℤ, Bool, true, ◌&&◌, List, [], ◌∷◌, Some}
use Rattle.std.specs.FinMap as finmap
use Rattle.std.specs.FinSet as set
use Rattle.ephemerals.specs.Orders.{Bytes, sorted_names}
use Rattle.ephemerals.specs.Pairs.{paths_of_session}
use Rattle.paths_and_acls.specs.Paths.{is_child_path}
use Rattle.txn_codec.specs.declared.txn.TxnHeader.{TxnHeader}
use Rattle.txn_codec.specs.declared.txn.Txn.{Txn}
use Rattle.node_map.specs.Stats.{stat_of}
use Rattle.node_map.specs.declared.node.Node.{Node}
use Rattle.data_tree.specs.State.{State}
use Rattle.data_tree.specs.Meaning.{delete_of, of_operation, state_without_session, state_after, fresh_state}
use Rattle.audit.specs.declared.count.Count.{Count}
use Rattle.audit.specs.Clean.{is_childless, closes_clean, are_clean}
use Rattle.audit.specs.Count.{count_from_log}

-- The numbers in the node's Stat.
pub record MatchesStat (counted : Count) (node : Node) : Type 0 where
  pub cversion : counted.cversion ≡ (stat_of node).cversion
  pub pzxid : counted.pzxid ≡ (stat_of node).pzxid

abbrev pub CountsAreShown : Type 0
CountsAreShown =
    (log : List Txn) (path : Bytes) (node : Node)
    → are_clean fresh_state log ≡ true → finmap.get (state_after fresh_state log).nodes path ≡ Some node
    → MatchesStat (count_from_log log path) node

-- Each of these deletes, in turn, is of a node without children.
abbrev pub are_childless_in_turn : TxnHeader → List Bytes → State → Bool
are_childless_in_turn header [] s = true
are_childless_in_turn header (p ∷ ps) s =
    is_childless (finmap.get s.nodes p) && are_childless_in_turn header ps (of_operation header (delete_of p) s).state

-- No ephemeral node of a session has a child before the first delete, exactly if none has one when its turn comes.
abbrev pub DeletesGoInTurn : Type 0
DeletesGoInTurn =
    (header : TxnHeader) (s : State)
    → ((session : ℤ) (path : Bytes) → set.contains s.pairs (session, path) ≡ true → is_child_path path ≡ true)
    → closes_clean header.client_id s
    ≡ are_childless_in_turn header (sorted_names (paths_of_session header.client_id s.pairs))
    (state_without_session header.client_id s)
