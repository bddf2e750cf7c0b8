use Rattle.values.proofs.Gaining.{puts_behind, gains_behind, gains_first}
use Rattle.jute.proofs.Writing.{fails}
use Rattle.txn_codec.proofs.encode.put_create.Goals as goal

pub returns-in_err-write : goal.returns-in_err-write
returns-in_err-write c =
    fails _ c.from_residual-in_err-write.ensures.0
    (gains_behind _ _ (rw c.as_str.ensures.text at c.in_ok-put_string.ensures)
    (gains_behind _ _ c.in_ok-put_blob.ensures
    (gains_first _ c.in_err-write.ensures)))

pub returns : goal.returns
returns c =
    puts_behind _ _ _ _ _ _ (rw c.as_str.ensures.text at c.in_ok-put_string.ensures)
    (puts_behind _ _ _ _ _ _ c.in_ok-put_blob.ensures
    (puts_behind _ _ _ _ _ _ c.in_ok-write.ensures c.put_owner.ensures))
