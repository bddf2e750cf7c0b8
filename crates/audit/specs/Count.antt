-- The count of a node's children that were created and deleted, from a log's triggers alone. It uses no stored
-- cversion.
use Rattle.std.specs.Prelude.{ℤ, pos, negsuc, ◌+ℤ◌, ◌||◌, Bool, List, [], ◌∷◌, Option, Some, None, nat_eq, if◌then◌else◌, codes}
use Rattle.std.specs.Int.{int_wrap, w32}
use Rattle.std.specs.Cmp.Lexicographic.{pointwise}
use Rattle.ephemerals.specs.Orders.{Bytes}
use Rattle.paths_and_acls.specs.Paths.{parent_of}
use Rattle.txn_codec.specs.declared.txn.Txn.{Txn}
use Rattle.node_map.specs.Agreement.{has_node}
use Rattle.data_tree.specs.State.{State}
use Rattle.data_tree.specs.Meaning.{effect_of_txn, state_after, fresh_state}
use Rattle.data_tree.specs.declared.outcome.Trigger.{Trigger}
use Rattle.data_tree.specs.declared.outcome.Trigger.TheVariants.{Created, Deleted, DataChanged, ChildrenChanged}
use Rattle.audit.specs.declared.count.Count.{Count}

abbrev pub is_same_path : Bytes → Bytes → Bool
is_same_path a b = pointwise nat_eq a b

-- A node that was just created.
abbrev pub new_node_count : ℤ → Count
new_node_count zxid = record { cversion = pos 0; pzxid = zxid }

-- One more child was created or deleted; Java's 32-bit numbers wrap.
abbrev pub one_more : Count → ℤ → Count
one_more count zxid = record { cversion = int_wrap w32 (count.cversion +ℤ pos 1); pzxid = zxid }

-- One more trigger. The count of a node begins anew when the node is created.
abbrev pub count_after_trigger : Bytes → Count → ℤ → Trigger → Count
count_after_trigger path count zxid (Created at) =
    if is_same_path at path then new_node_count zxid else if is_same_path (parent_of at) path then one_more count zxid
    else count
count_after_trigger path count zxid (Deleted at) =
    if is_same_path (parent_of at) path then one_more count zxid else count
count_after_trigger path count zxid (DataChanged at) = count
count_after_trigger path count zxid (ChildrenChanged at) = count

-- All triggers of a transaction.
abbrev pub count_after_triggers : Bytes → Count → ℤ → List Trigger → Count
count_after_triggers path count zxid [] = count
count_after_triggers path count zxid (trigger ∷ triggers) =
    count_after_triggers path (count_after_trigger path count zxid trigger) zxid triggers

-- All triggers of a log, each with the zxid of its transaction.
abbrev pub count_after_log : Bytes → Count → State → List Txn → Count
count_after_log path count s [] = count
count_after_log path count s (t ∷ ts) =
    count_after_log path (count_after_triggers path count t.header.zxid (effect_of_txn s t).triggers)
    (effect_of_txn s t).state ts

-- In the fresh tree / and /zookeeper have a preset child.
abbrev pub first_count : Bytes → Count
first_count path =
    if is_same_path path (codes "/") || is_same_path path (codes "/zookeeper")
    then record { cversion = negsuc 0; pzxid = pos 0 } else record { cversion = pos 0; pzxid = pos 0 }

-- The count of the node at the path: since it was last created, or in the fresh tree.
abbrev pub count_from_log : List Txn → Bytes → Count
count_from_log log path = count_after_log path (first_count path) fresh_state log

abbrev pub numbers_of : Count → ℤ × ℤ
numbers_of count = (count.cversion, count.pzxid)

-- The count, if the log leaves a node at the path.
abbrev pub count_at : List Txn → Bytes → Option (ℤ × ℤ)
count_at log path = if has_node (state_after fresh_state log).nodes path
    then Some (numbers_of (count_from_log log path)) else None
