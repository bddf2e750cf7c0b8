use Rattle.std.proofs.Common.{refl}
use Rattle.std.proofs.lemmas.Result.{err_from_is_err_and}
use Rattle.txn_codec.proofs.Refused.{header_refused, body_refused}
use Rattle.txn_codec.proofs.decode.read_txn.Goals as goal

pub returns-in_err-header : goal.returns-in_err-header
returns-in_err-header c =
    let p = err_from_is_err_and c.from_residual.result c.from_residual.ensures.1 in
    rw (p.1, p.2) (
      header_refused c.args.dialect c.in_err-header.field-0.0 c.args.reader.now
          (rw c.ahead-ahead.ensures at c.in_err-header.ensures.0),
      refl,
    )

pub returns-in_err-body : goal.returns-in_err-body
returns-in_err-body c =
    let p = err_from_is_err_and c.from_residual-in_err-body.result c.from_residual-in_err-body.ensures.1 in
    rw (p.1, p.2) (
      body_refused c.args.dialect c.in_err-body.field-0.0 c.args.reader.now c.read_header.new.reader
          c.in_ok-header.header (rw c.ahead-ahead.ensures at c.in_ok-header.ensures)
          (rw c.reads.ensures at c.in_err-body.ensures.0),
      refl,
    )
