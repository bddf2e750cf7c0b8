use Rattle.std.proofs.lemmas.Result.{err_from_is_err_and}
use Rattle.txn_codec.proofs.Refused.{txn_refused}
use Rattle.txn_codec.proofs.decode.read_whole.Goals as goal

pub returns-in_err-txn : goal.returns-in_err-txn
returns-in_err-txn c =
    let p = err_from_is_err_and c.from_residual.result c.from_residual.ensures.1 in
    rw (p.1, p.2) (txn_refused c.args.dialect c.in_err-txn.field-0.0 c.args.bytes.now (
    rw c.new-ahead.ensures at c.in_err-txn.ensures.0
    ))
