use Rattle.std.proofs.Common.{rules, ◌≡◌, ◌++◌, ℤ, negsuc, false, w32, to_z, of_z, IfOk, subst}
use Rattle.jute.specs.Format.{int}
use Rattle.client_records.specs.Multi.{multi_header}
use Rattle.read_processor.specs.Limits.{fitting_body}
use Rattle.write_replies.proofs.multi.put_error.Goals as goal

pub returns : goal.returns
returns c =
    let err = c.args.err.now in
    let same : to_z w32 (of_z w32 err) ≡ err = search rules in
    subst (λ (z : ℤ). IfOk c.put_result.result (λ more. more
    ≡ fitting_body (c.args.body
    ++ (multi_header.written (record { kind = negsuc 0; done = false; err = z }) ++ int.written err)))) same
    c.put_result.ensures
