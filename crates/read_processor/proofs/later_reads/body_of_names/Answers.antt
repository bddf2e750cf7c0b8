use Rattle.std.proofs.Common.{◌≡◌, ℕ, ◌<◌, ◌≤◌, ◌^◌, List, length, refl, arith}
use Rattle.client_records.specs.Fields.{names_format}
use Rattle.client_records.specs.Responses.{get_children_response}
use Rattle.read_processor.specs.Limits.{body_limit}
use Rattle.read_processor.proofs.Writing.{names_writable}
use Rattle.read_processor.proofs.later_reads.body_of_names.Goals as goal

names_written : (names : List (List ℕ))
    → get_children_response.written (record { children = names }) ≡ names_format.written names
unfolding get_children_response
names_written names = refl

writable : (names : List (List ℕ)) → length (names_format.written names) ≤ body_limit
    → get_children_response.Writable (record { children = names })
unfolding get_children_response
writable names le = names_writable names le

small : (names : List (List ℕ)) → length (names_format.written names) ≤ body_limit
    → length (get_children_response.written (record { children = names })) < 2 ^ 63
unfolding get_children_response
small names le = omega (arith, le)

pub of-requires-clause-writable : goal.of-requires-clause-writable
of-requires-clause-writable c =
    let counted = rw c.as_slice.ensures.value at c.in-Some.ensures in
    writable c.from_vec.result (rw c.from_vec.ensures counted.1)

pub of-requires-clause-small : goal.of-requires-clause-small
of-requires-clause-small c =
    let counted = rw c.as_slice.ensures.value at c.in-Some.ensures in
    small c.from_vec.result (rw c.from_vec.ensures counted.1)

pub returns : goal.returns
unfolding get_children_response
returns c = rw c.from_vec.ensures at c.of.ensures
