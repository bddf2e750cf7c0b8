-- A group of transactions of one batch.
use Rattle.std.specs.Prelude.{ℕ, List, [], refl}
use Rattle.std.specs.Coded.{Coded, code_by, coded×, coded_ℕ, coded_list}
use Rattle.std.specs.FinSet as set
use Rattle.ephemerals.specs.Orders.{Names, path_cmp}

-- The places of its transactions in the batch, and their paths.
pub record TxnGroup : Type 0 where
  pub members : List ℕ
  pub paths : Names

abbrev pub empty_group : TxnGroup
empty_group = record { members = []; paths = set.empty }

abbrev pub txn_group_code : Coded TxnGroup
txn_group_code =
    code_by (List ℕ × Names) (coded× (coded_list coded_ℕ) (set.code {R = path_cmp} (coded_list coded_ℕ)))
    (λ c. (c.members, c.paths)) (λ p. record { members = p.0; paths = p.1 }) (λ _. refl)
