use Rattle.std.proofs.Common.{◌≡◌, ◌++◌, List, ℕ, Some, ap, sym, ◌∙◌, arith}
use Rattle.std.proofs.lemmas.List.{length-append}
use Rattle.jute.specs.Records.{stat_format}
use Rattle.ephemerals.specs.Orders.{sorted_names}
use Rattle.node_map.specs.Stats.{stat_of}
use Rattle.node_map.specs.declared.node.Node.{Node}
use Rattle.client_records.specs.Fields.{names_format}
use Rattle.client_records.specs.Responses.{get_children2_response}
use Rattle.read_processor.proofs.Filling.{fits, too_long}
use Rattle.read_processor.proofs.Writing.{stat_length, stat_writable}
use Rattle.read_processor.proofs.kinds.get_children2.Goals as goal

abbrev children : Node → List ℕ
children node = names_format.written (sorted_names node.children)

abbrev numbers : Node → List ℕ
numbers node = stat_format.written (stat_of node)

pub returns-in_default : goal.returns-in_default
unfolding get_children2_response
returns-in_default c =
    let node = c.args.node.now in
    let long = c.in_default.ensures in
    sym (too_long (children node ++ numbers node) (omega (arith, long, length-append (children node) (numbers node))))

pub written_len-requires-clause-writable : goal.written_len-requires-clause-writable
written_len-requires-clause-writable c = stat_writable c.shown-stat.result

pub written_len-requires-clause-small : goal.written_len-requires-clause-small
written_len-requires-clause-small c = omega (arith, stat_length c.shown-stat.result)

pub returns-in_default-with_bytes : goal.returns-in_default-with_bytes
unfolding get_children2_response
returns-in_default-with_bytes c =
    let node = c.args.node.now in
    let front = c.in-Some.ensures in
    let back = rw c.shown-stat.ensures at c.written_len.ensures in
    let whole = length-append (children node) (numbers node) in
    let far = c.in_default-with_bytes.ensures in
    sym (too_long (children node ++ numbers node) (omega (arith, front.0, back, far, whole)))

pub returns : goal.returns
unfolding get_children2_response
returns c =
    let node = c.args.node.now in
    let front = c.in-Some.ensures in
    let back = rw c.shown-stat.ensures at c.written_len.ensures in
    let whole = length-append (children node) (numbers node) in
    let named : c.in_ok-body.body ≡ children node = c.in_ok-body.ensures in
    let is : c.in_ok-with_stat.field-0 ≡ children node ++ numbers node =
    rw (named, c.shown-stat.ensures) at c.in_ok-with_stat.ensures in
    ap (λ (l : List ℕ). Some l) is
    ∙ sym (fits (children node ++ numbers node) (omega (arith, front.0, back, c.in-Some-with_bytes.ensures.1, whole)))
