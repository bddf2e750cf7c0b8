use Rattle.values.proofs.Gaining.{puts_behind}
use Rattle.txn_codec.proofs.encode.SetAclWriteRecord.write.Goals as goal

pub returns : goal.returns
returns c =
    puts_behind _ _ _ _ _ _ (rw c.as_str.ensures.text at c.in_ok-put_string.ensures)
    (puts_behind _ _ _ _ _ _ c.in_ok-write.ensures c.write-2.ensures)
