use Rattle.std.proofs.Common.{Some, sym, arith}
use Rattle.client_records.specs.Multi.{multi_header}
use Rattle.client_records.specs.Responses.{create2_response}
use Rattle.client_records.specs.declared.kind.RequestKind.TheVariants as requests
use Rattle.client_records.specs.declared.response.Create2Response.{Create2Response}
use Rattle.write_replies.specs.Results.{done_header}
use Rattle.write_replies.proofs.Following.{too_long_behind, created_length, created_writable, created_small}
use Rattle.write_replies.proofs.multi.put_path_and_stat.Goals as goal

pub returns-then-path-gt-BODY_LIMIT : goal.returns-then-path-gt-BODY_LIMIT
returns-then-path-gt-BODY_LIMIT c =
    let shown : Create2Response = record { path = Some c.args.path.now; stat = c.args.stat.now } in
    sym (too_long_behind c.args.body (multi_header.written (done_header requests.Create2)) (create2_response.written shown)
    (omega (arith, created_length shown, c.if-path-gt-BODY_LIMIT.true)))

pub put_result-requires-clause-writable : goal.put_result-requires-clause-writable
put_result-requires-clause-writable c =
    created_writable _ (rw c.new.ensures (omega (arith, c.if-path-gt-BODY_LIMIT.false)))

pub put_result-requires-clause-small : goal.put_result-requires-clause-small
put_result-requires-clause-small c = created_small _ (rw c.new.ensures (omega (arith, c.if-path-gt-BODY_LIMIT.false)))
