use Rattle.std.proofs.Common.{◌≡◌, ◌++◌, List, ℕ, Option, Some, None, IfOk, sym, subst, ◌∙◌, rules}
use Rattle.client_records.specs.Multi.{multi_header}
use Rattle.read_processor.specs.Limits.{fitting_body}
use Rattle.read_processor.proofs.Longer.{follows_both, none_after}
use Rattle.write_replies.proofs.multi.put_result.Goals as goal

pub returns-in_default : goal.returns-in_default
returns-in_default g c =
    let first = multi_header.written c.args.header.now in
    let second = g.T.WriteRecord.format.written c.args.shown.now in
    let none : fitting_body (c.args.body ++ first) ≡ None = sym c.in_ok-headed.ensures ∙ search rules in
    sym (none_after c.args.body (Some first) (Some second) none)

pub returns : goal.returns
returns g c =
    let first = multi_header.written c.args.header.now in
    let second = g.T.WriteRecord.format.written c.args.shown.now in
    let held : fitting_body (c.args.body ++ first) ≡ Some c.in-Some.headed =
    sym c.in_ok-headed.ensures ∙ c.in-Some.is in
    subst (λ (x : Option (List ℕ)). IfOk c.with_record-2.result (λ more. more ≡ x))
    (follows_both c.args.body first second c.in-Some.headed held) c.with_record-2.ensures
