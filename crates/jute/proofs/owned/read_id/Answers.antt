use Rattle.std.proofs.Common.{refl}
use Rattle.std.proofs.lemmas.Result.{err_from_is_err_and}
use Rattle.jute.proofs.Refused.{scheme_refused, name_refused}
use Rattle.jute.proofs.owned.read_id.Goals as goal

pub returns-in_err-read_name_in : goal.returns-in_err-read_name_in
returns-in_err-read_name_in c =
    let p = err_from_is_err_and c.from_residual.result c.from_residual.ensures.1 in
    rw (p.1, p.2) (
      scheme_refused c.args.surrogates c.in_err-read_name_in.field-0.0 c.args.reader.now
          (rw c.ahead-ahead.ensures at c.in_err-read_name_in.ensures.0),
      refl,
    )

pub returns-in_err-read_name_in-2 : goal.returns-in_err-read_name_in-2
returns-in_err-read_name_in-2 c =
    let p = err_from_is_err_and c.from_residual-in_err-read_name_in-2.result
    c.from_residual-in_err-read_name_in-2.ensures.1 in
    rw (p.1, p.2) (
      name_refused c.args.surrogates c.in_err-read_name_in-2.field-0.0 c.args.reader.now c.in_ok-read_name_in.field-0
          c.read_name_in.new.reader (rw c.ahead-ahead.ensures at c.in_ok-read_name_in.ensures)
          c.in_err-read_name_in-2.ensures.0,
      refl,
    )
