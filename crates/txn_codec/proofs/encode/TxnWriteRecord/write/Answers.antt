use Rattle.values.proofs.Gaining.{puts_behind}
use Rattle.txn_codec.proofs.encode.TxnWriteRecord.write.Goals as goal

pub returns : goal.returns
returns c =
    puts_behind _ _ _ _ _ _ c.in_ok-write.ensures
    (puts_behind _ _ _ _ _ _ (rw c.kind.ensures at c.in_ok-put_kind.ensures) c.put_content.ensures)
