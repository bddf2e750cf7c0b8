-- The front of a list of transactions that is cut as a batch.
use Rattle.std.specs.Prelude.{◌≡◌, ℕ, ◌≤◌, true, List, length, take, refl}
use Rattle.std.specs.Coded.{Coded, code_by, coded×, coded_ℕ, coded_list}
use Rattle.txn_codec.specs.declared.txn.Txn.{Txn}
use Rattle.batcher.specs.Class.{TxnGroup, txn_group_code}
use Rattle.batcher.specs.Cut.{is_batch, groups_of}

-- The number of its transactions, and their groups.
pub record TxnFront : Type 0 where
  pub count : ℕ
  pub groups : List TxnGroup

abbrev pub txn_front_code : Coded TxnFront
txn_front_code =
    code_by (ℕ × List TxnGroup) (coded× coded_ℕ (coded_list txn_group_code)) (λ f. (f.count, f.groups))
    (λ p. record { count = p.0; groups = p.1 }) (λ _. refl)

-- It is a front of this list, and a batch.
pub record IsFrontOf (front : TxnFront) (txns : List Txn) : Type 0 where
  pub within : front.count ≤ length txns
  pub groups : front.groups ≡ groups_of (take front.count txns)
  pub batch : is_batch (take front.count txns) ≡ true
