-- The state of a draft of a batch.
use Rattle.std.specs.Prelude.{◌≡◌, List, length, map}
use Rattle.std.specs.List.{zip}
use Rattle.batcher.specs.Inner.Owners.{get_by_path, AreBeside}
use Rattle.ephemerals.specs.Orders.{Bytes}
use Rattle.txn_codec.specs.declared.txn.Txn.{Txn}
use Rattle.data_tree.specs.Commuting.{GroupedTxn}
use Rattle.batcher.specs.declared.draft.Draft.{Draft}
use Rattle.batcher.specs.Groups.{group_with, txn_groups_of}

abbrev pub txns_in : Draft → List Txn
txns_in draft = map (λ t. t.now) draft.txns.items

-- The transactions with their groups.
abbrev pub tagged_in : Draft → List GroupedTxn
tagged_in draft = zip draft.numbers.items (txns_in draft)

-- The groups, and the index that finds them, are those of its transactions.
pub record IsDraft (draft : Draft) : Type 0 where
  pub numbers : length draft.numbers.items ≡ length (txns_in draft)
  pub beside : AreBeside draft.owners
  pub owners : (path : Bytes) → get_by_path draft.owners path ≡ group_with (tagged_in draft) path
  pub groups : draft.groups.items ≡ txn_groups_of (tagged_in draft)
