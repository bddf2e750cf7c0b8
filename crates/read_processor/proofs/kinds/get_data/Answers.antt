use Rattle.std.proofs.Common.{◌≡◌, ℕ, ◌+◌, ◌≤◌, List, length, Option, Some, None, refl, arith, sym}
use Rattle.std.proofs.lemmas.List.{length-append}
use Rattle.jute.specs.Format.{buffer, number_bytes}
use Rattle.jute.specs.Records.{stat_format}
use Rattle.node_map.specs.Stats.{stat_of, length_or_zero}
use Rattle.client_records.specs.Responses.{get_data_response}
use Rattle.read_processor.specs.Limits.{body_limit}
use Rattle.client_records.specs.declared.response.GetDataResponse.{GetDataResponse}
use Rattle.read_processor.specs.Kinds.{get_data_body}
use Rattle.read_processor.proofs.Filling.{too_long}
use Rattle.read_processor.proofs.Writing.{stat_writable}
use Rattle.read_processor.proofs.kinds.get_data.Goals as goal

get_data_length : (r : GetDataResponse) → length (get_data_response.written r) ≡ 72 + length_or_zero r.bytes
unfolding get_data_response stat_format number_bytes
get_data_length r = by r.bytes
  where
    by : (bytes : Option (List ℕ))
        → length (get_data_response.written (record r { bytes = bytes })) ≡ 72 + length_or_zero bytes
    by None = refl
    by (Some bytes) = simp length-append (omega arith)

get_data_writable : (r : GetDataResponse) → length_or_zero r.bytes ≤ body_limit → get_data_response.Writable r
unfolding get_data_response
get_data_writable r le = (by r.bytes le, stat_writable r.stat)
  where
    by : (bytes : Option (List ℕ)) → length_or_zero bytes ≤ body_limit → buffer.Writable bytes
    by None le = tt
    by (Some bytes) le = omega (arith, le)

pub returns-then-lent_len-gt-BODY_LIMIT : goal.returns-then-lent_len-gt-BODY_LIMIT
returns-then-lent_len-gt-BODY_LIMIT c =
    let response : GetDataResponse = record { bytes = c.args.node.now.bytes; stat = stat_of c.args.node.now } in
    let count = rw c.borrow_bytes-bytes.ensures at c.lent_len.ensures.length in
    let far = c.if-lent_len-gt-BODY_LIMIT.true in
    sym (too_long (get_data_body c.args.node.now) (omega (arith, get_data_length response, count, far)))

pub of-requires-clause-writable : goal.of-requires-clause-writable
of-requires-clause-writable c =
    get_data_writable _ (omega (arith, c.lent_len.ensures.length, c.if-lent_len-gt-BODY_LIMIT.false))

pub of-requires-clause-small : goal.of-requires-clause-small
of-requires-clause-small c =
    let response : GetDataResponse = record { bytes = c.borrow_bytes-bytes.result; stat = c.shown.result } in
    omega (arith, get_data_length response, c.lent_len.ensures.length, c.if-lent_len-gt-BODY_LIMIT.false)
