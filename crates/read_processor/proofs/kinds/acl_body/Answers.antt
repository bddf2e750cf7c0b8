use Rattle.std.proofs.Common.{◌≡◌, ℕ, ◌+◌, ◌≤◌, List, length, Some, ap, ◌∙◌, arith, sym}
use Rattle.std.proofs.lemmas.List.{length-append}
use Rattle.jute.specs.Format.{vector_of}
use Rattle.jute.specs.Owned.{acl_format}
use Rattle.jute.specs.Records.{stat_format}
use Rattle.client_records.specs.Responses.{get_acl_response}
use Rattle.read_processor.specs.Limits.{body_limit}
use Rattle.node_map.specs.Stats.{stat_of}
use Rattle.client_records.specs.declared.response.GetAclResponse.{GetAclResponse}
use Rattle.read_processor.specs.Kinds.{acl_body}
use Rattle.read_processor.proofs.Filling.{too_long}
use Rattle.read_processor.proofs.Writing.{stat_length, stat_writable, acls_writable}
use Rattle.read_processor.proofs.kinds.acl_body.Goals as goal

abbrev entries : GetAclResponse → List ℕ
entries r = (vector_of acl_format).written (Some r.acl)

get_acl_length : (r : GetAclResponse) → length (get_acl_response.written r) ≡ length (entries r) + 68
unfolding get_acl_response
get_acl_length r =
    length-append (entries r) (stat_format.written r.stat) ∙ ap (λ n. length (entries r) + n) (stat_length r.stat)

get_acl_writable : (r : GetAclResponse) → length (entries r) ≤ body_limit → get_acl_response.Writable r
unfolding get_acl_response
get_acl_writable r le = (acls_writable r.acl le, stat_writable r.stat)

pub returns-in_default : goal.returns-in_default
returns-in_default c =
    let response : GetAclResponse = record { acl = c.args.entries.now; stat = stat_of c.args.node.now } in
    sym (too_long (acl_body c.args.entries.now c.args.node.now)
    (omega (arith, get_acl_length response, c.in_default.ensures)))

pub of-requires-clause-writable : goal.of-requires-clause-writable
of-requires-clause-writable c =
    let response : GetAclResponse = record { acl = c.new.result; stat = c.shown.result } in
    get_acl_writable response (rw c.new.ensures c.in-Some.ensures.1)

pub of-requires-clause-small : goal.of-requires-clause-small
of-requires-clause-small c =
    let response : GetAclResponse = record { acl = c.args.entries.now; stat = c.shown.result } in
    rw c.new.ensures (omega (arith, get_acl_length response, c.in-Some.ensures.1))
