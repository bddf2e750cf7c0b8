use Rattle.std.proofs.Common.{◌≡◌, ℕ, ◌+◌, ◌≤◌, ◌<◌, ◌^◌, List, length, Option, Some, None, refl, pos, sym, ap, arith}
use Rattle.std.proofs.lemmas.List.{length-append}
use Rattle.jute.specs.Format.{buffer, number_bytes}
use Rattle.jute.specs.Records.{stat_format}
use Rattle.node_map.specs.Stats.{length_or_zero, stat_of}
use Rattle.client_records.specs.Responses.{create2_response}
use Rattle.client_records.specs.declared.response.Create2Response.{Create2Response}
use Rattle.read_processor.specs.Limits.{body_limit}
use Rattle.read_processor.specs.declared.shown.Look.{Look}
use Rattle.read_processor.proofs.Filling.{too_long}
use Rattle.read_processor.proofs.Writing.{stat_writable}
use Rattle.read_processor.proofs.shown.Look.of_created.Goals as goal

created_length : (r : Create2Response) → length (create2_response.written r) ≡ 72 + length_or_zero r.path
unfolding create2_response stat_format number_bytes
created_length r = by r.path
  where
    by : (path : Option (List ℕ))
        → length (create2_response.written (record r { path = path })) ≡ 72 + length_or_zero path
    by None = refl
    by (Some path) = simp length-append (omega arith)

created_writable : (r : Create2Response) → length_or_zero r.path ≤ body_limit → create2_response.Writable r
unfolding create2_response
created_writable r le = (by r.path le, stat_writable r.stat)
  where
    by : (path : Option (List ℕ)) → length_or_zero path ≤ body_limit → buffer.Writable path
    by None le = tt
    by (Some path) le = omega (arith, le)

created_small : (r : Create2Response) → length_or_zero r.path ≤ body_limit → length (create2_response.written r) < 2 ^ 63
created_small r le = omega (arith, created_length r, le)

pub returns-then-path-gt-BODY_LIMIT : goal.returns-then-path-gt-BODY_LIMIT
returns-then-path-gt-BODY_LIMIT c =
    let shown : Create2Response = record { path = Some c.args.path.now; stat = stat_of c.args.node.now } in
    let no_body : Option (List ℕ) → Look = λ body. record { error = pos 0; body = body } in
    ap no_body
    (sym (too_long (create2_response.written shown) (omega (arith, created_length shown, c.if-path-gt-BODY_LIMIT.true))))

pub of-requires-clause-writable : goal.of-requires-clause-writable
of-requires-clause-writable c = created_writable _ (rw c.new.ensures (omega (arith, c.if-path-gt-BODY_LIMIT.false)))

pub of-requires-clause-small : goal.of-requires-clause-small
of-requires-clause-small c = created_small _ (rw c.new.ensures (omega (arith, c.if-path-gt-BODY_LIMIT.false)))
