use Rattle.std.proofs.lemmas.Result.{err_from_is_err_and}
use Rattle.jute.specs.Format.{int}
use Rattle.values.proofs.Gaining.{gains_first}
use Rattle.client_records.proofs.multi.put_end.Goals as goal

pub returns-in_err-put_bool : goal.returns-in_err-put_bool
returns-in_err-put_bool c =
    let p = err_from_is_err_and c.from_residual.result c.from_residual.ensures.1 in
    rw p.1 (gains_first (int.written c.args.err.now) c.in_err-put_bool.ensures)
