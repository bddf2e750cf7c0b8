use Rattle.values.proofs.Gaining.{gains_first}
use Rattle.jute.proofs.Writing.{fails}
use Rattle.txn_codec.proofs.encode.put_owner.Goals as goal

pub returns-in_err-put_bool-in-Nobody : goal.returns-in_err-put_bool-in-Nobody
returns-in_err-put_bool-in-Nobody c =
    rw c.in-Nobody.is (fails _ c.from_residual.ensures.0 (gains_first _ c.in_err-put_bool-in-Nobody.ensures))

pub returns-in_err-put_bool-in-Client : goal.returns-in_err-put_bool-in-Client
returns-in_err-put_bool-in-Client c =
    rw c.in-Client.is
    (fails _ c.from_residual-in_err-put_bool-in-Client.ensures.0 (gains_first _ c.in_err-put_bool-in-Client.ensures))
