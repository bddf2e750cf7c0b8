use Rattle.std.proofs.Common.{Some, sym, arith}
use Rattle.client_records.specs.Multi.{multi_header}
use Rattle.client_records.specs.Responses.{path_response}
use Rattle.client_records.specs.declared.kind.RequestKind.TheVariants as requests
use Rattle.client_records.specs.declared.response.PathResponse.{PathResponse}
use Rattle.write_replies.specs.Results.{done_header}
use Rattle.write_replies.proofs.Following.{too_long_behind, path_length, path_writable, path_small}
use Rattle.write_replies.proofs.multi.put_path.Goals as goal

pub returns-then-path-gt-BODY_LIMIT : goal.returns-then-path-gt-BODY_LIMIT
returns-then-path-gt-BODY_LIMIT c =
    let shown : PathResponse = record { path = Some c.args.path.now } in
    sym (too_long_behind c.args.body (multi_header.written (done_header requests.Create)) (path_response.written shown)
    (omega (arith, path_length shown, c.if-path-gt-BODY_LIMIT.true)))

pub put_result-requires-clause-writable : goal.put_result-requires-clause-writable
put_result-requires-clause-writable c = path_writable _ (rw c.new.ensures (omega (arith, c.if-path-gt-BODY_LIMIT.false)))

pub put_result-requires-clause-small : goal.put_result-requires-clause-small
put_result-requires-clause-small c = path_small _ (rw c.new.ensures (omega (arith, c.if-path-gt-BODY_LIMIT.false)))
