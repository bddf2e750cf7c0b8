use Rattle.std.proofs.Common.{◌≡◌, List, ℕ, Some, ap, sym, ◌∙◌}
use Rattle.client_records.specs.Responses.{get_children_response}
use Rattle.read_processor.specs.Kinds.{get_children_body}
use Rattle.read_processor.proofs.Filling.{fits, too_long}
use Rattle.read_processor.proofs.kinds.get_children.Goals as goal

pub returns-in_default : goal.returns-in_default
unfolding get_children_response
returns-in_default c =
    let long = c.in_default.ensures in
    sym (too_long (get_children_body c.args.node.now) long)

pub returns : goal.returns
unfolding get_children_response
returns c =
    let text = get_children_body c.args.node.now in
    let is : c.in_ok-body.body ≡ text = c.in_ok-body.ensures in
    let whole = c.in-Some.ensures in
    ap (λ (l : List ℕ). Some l) is ∙ sym (fits text whole.1)
