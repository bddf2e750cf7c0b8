-- The result of an audit.
use Rattle.std.specs.Prelude.{◌≡◌, ℕ, ℤ, ◌+◌, true, false, List, Option, Result, Ok, Err, take}
use Rattle.ephemerals.specs.Orders.{Bytes}
use Rattle.txn_codec.specs.declared.txn.Txn.{Txn}
use Rattle.data_tree.specs.Meaning.{fresh_state}
use Rattle.audit.specs.Clean.{are_clean}
use Rattle.audit.specs.Count.{count_at}
use Rattle.audit.specs.declared.audit.AuditError.{AuditError}
use Rattle.audit.specs.declared.audit.AuditError.TheVariants.{NotClean, NoMemory}

-- The count of a clean log.
pub record IsCounted (log : List Txn) (path : Bytes) (found : Option (ℤ × ℤ)) : Type 0 where
  pub clean : are_clean fresh_state log ≡ true
  pub found_is : found ≡ count_at log path

-- The first i transactions are clean, and number i, counted from 0, isn't.
pub record IsFirstUnclean (log : List Txn) (i : ℕ) : Type 0 where
  pub before : are_clean fresh_state (take i log) ≡ true
  pub here : are_clean fresh_state (take (i + 1) log) ≡ false

abbrev pub IsAudited : List Txn → Bytes → Result (Option (ℤ × ℤ)) AuditError → Type 0
IsAudited log path (Ok found) = IsCounted log path found
IsAudited log path (Err (NotClean i)) = IsFirstUnclean log i
IsAudited log path (Err NoMemory) = Unit {0}
