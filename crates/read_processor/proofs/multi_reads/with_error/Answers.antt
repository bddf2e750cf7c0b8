use Rattle.std.proofs.Common.{◌≡◌, ◌++◌, List, ℕ, w32, to_z, of_z, Option, Some, IfOk, sym, ap, subst, ◌∙◌, rules}
use Rattle.jute.specs.Format.{int, number_bytes}
use Rattle.client_records.specs.Responses.{error_response}
use Rattle.client_records.specs.Multi.{multi_header}
use Rattle.read_processor.specs.Limits.{fitting_body}
use Rattle.read_processor.specs.MultiReads.{header_of_error}
use Rattle.read_processor.proofs.Longer.{follows_both}
use Rattle.read_processor.proofs.multi_reads.with_error.Goals as goal

pub returns : goal.returns
unfolding error_response number_bytes
returns c =
    let same : to_z w32 (of_z w32 c.args.error) ≡ c.args.error = search rules in
    let header = multi_header.written (header_of_error c.args.error) in
    let error = int.written c.args.error in
    let held : fitting_body (c.args.body ++ header) ≡ Some c.in-Some.body = sym (
    c.in_ok-body.ensures
    ∙ ap (λ h. fitting_body (c.args.body ++ multi_header.written h)) (c.header_of_error.ensures ∙ ap header_of_error same)
    ) ∙ c.in-Some.is in
    let whole = ap (λ z. fitting_body (c.in-Some.body ++ int.written z)) same
    ∙ follows_both c.args.body header error c.in-Some.body held in
    subst (λ (x : Option (List ℕ)). IfOk c.with_record-2.result (λ more. more ≡ x)) whole c.with_record-2.ensures
