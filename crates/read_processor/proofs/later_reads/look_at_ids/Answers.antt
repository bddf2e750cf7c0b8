use Rattle.std.proofs.Common.{ℕ, ◌<◌, ◌≤◌, ◌^◌, List, length, map, Option, Some, pos, sym, ap, arith}
use Rattle.jute.specs.Format.{vector_of}
use Rattle.client_records.specs.Responses.{client_info, who_am_i_response}
use Rattle.client_records.specs.declared.response.ClientInfo.{ClientInfo}
use Rattle.read_processor.specs.Limits.{body_limit}
use Rattle.permissions.specs.Digests.{client_info_of}
use Rattle.read_processor.specs.declared.shown.Look.{Look}
use Rattle.read_processor.proofs.Filling.{too_long}
use Rattle.read_processor.proofs.Writing.{infos_writable}
use Rattle.read_processor.proofs.later_reads.look_at_ids.Goals as goal

abbrev listed : List ClientInfo → List ℕ
listed infos = (vector_of client_info).written (Some infos)

abbrev told : List ClientInfo → List ℕ
told infos = who_am_i_response.written (record { client_info = infos })

writable : (infos : List ClientInfo) → length (listed infos) ≤ body_limit
    → who_am_i_response.Writable (record { client_info = infos })
unfolding who_am_i_response
writable infos le = infos_writable infos le

small : (infos : List ClientInfo) → length (listed infos) ≤ body_limit → length (told infos) < 2 ^ 63
unfolding who_am_i_response
small infos le = omega (arith, le)

far : (infos : List ClientInfo) → body_limit < length (listed infos) → body_limit < length (told infos)
unfolding who_am_i_response
far infos long = long

pub returns-in_default : goal.returns-in_default
returns-in_default c =
    let infos = map client_info_of c.args.ids.now in
    let long = rw (c.as_slice.ensures.value, c.in_ok-infos.ensures) at c.in_default.ensures in
    let no_body : Option (List ℕ) → Look = λ body. record { error = pos 0; body = body } in
    ap no_body (sym (too_long (told infos) (far infos long)))

pub of-requires-clause-writable : goal.of-requires-clause-writable
of-requires-clause-writable c =
    let counted = rw c.as_slice.ensures.value at c.in-Some.ensures in
    writable c.from_vec.result (rw c.from_vec.ensures counted.1)

pub of-requires-clause-small : goal.of-requires-clause-small
of-requires-clause-small c =
    let counted = rw c.as_slice.ensures.value at c.in-Some.ensures in
    small c.from_vec.result (rw c.from_vec.ensures counted.1)
