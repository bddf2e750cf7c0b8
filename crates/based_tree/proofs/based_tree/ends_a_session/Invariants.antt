use Rattle.std.proofs.Common.{◌≡◌, drop}
use Rattle.std.specs.List.{list_any}
use Rattle.txn_codec.specs.Row.{ends_session}
use Rattle.txn_codec.specs.declared.txn.Txn.{Txn}
use Rattle.based_tree.proofs.based_tree.ends_a_session.Given as goal

abbrev pub invariant-loop-txn : goal.invariant-loop-txn
invariant-loop-txn l =
    list_any (λ (t : Txn). ends_session t.body) (drop l.txn-index l.txns)
    ≡ list_any (λ (t : Txn). ends_session t.body) l.txns
