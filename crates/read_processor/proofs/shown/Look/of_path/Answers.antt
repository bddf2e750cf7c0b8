use Rattle.std.proofs.Common.{◌≡◌, ℕ, ◌+◌, ◌≤◌, ◌<◌, ◌^◌, List, length, Option, Some, None, refl, pos, sym, ap, arith}
use Rattle.std.proofs.lemmas.List.{length-append}
use Rattle.jute.specs.Format.{buffer, number_bytes}
use Rattle.node_map.specs.Stats.{length_or_zero}
use Rattle.client_records.specs.Responses.{path_response}
use Rattle.client_records.specs.declared.response.PathResponse.{PathResponse}
use Rattle.read_processor.specs.Limits.{body_limit}
use Rattle.read_processor.specs.declared.shown.Look.{Look}
use Rattle.read_processor.proofs.Filling.{too_long}
use Rattle.read_processor.proofs.shown.Look.of_path.Goals as goal

path_length : (r : PathResponse) → length (path_response.written r) ≡ 4 + length_or_zero r.path
unfolding path_response number_bytes
path_length r = by r.path
  where
    by : (path : Option (List ℕ)) → length (path_response.written (record { path = path })) ≡ 4 + length_or_zero path
    by None = refl
    by (Some path) = simp length-append (omega arith)

path_writable : (r : PathResponse) → length_or_zero r.path ≤ body_limit → path_response.Writable r
unfolding path_response
path_writable r le = by r.path le
  where
    by : (path : Option (List ℕ)) → length_or_zero path ≤ body_limit → buffer.Writable path
    by None le = tt
    by (Some path) le = omega (arith, le)

path_small : (r : PathResponse) → length_or_zero r.path ≤ body_limit → length (path_response.written r) < 2 ^ 63
path_small r le = omega (arith, path_length r, le)

pub returns-then-path-gt-BODY_LIMIT : goal.returns-then-path-gt-BODY_LIMIT
returns-then-path-gt-BODY_LIMIT c =
    let shown : PathResponse = record { path = Some c.args.path.now } in
    let no_body : Option (List ℕ) → Look = λ body. record { error = pos 0; body = body } in
    ap no_body
    (sym (too_long (path_response.written shown) (omega (arith, path_length shown, c.if-path-gt-BODY_LIMIT.true))))

pub of-requires-clause-writable : goal.of-requires-clause-writable
of-requires-clause-writable c = path_writable _ (rw c.new.ensures (omega (arith, c.if-path-gt-BODY_LIMIT.false)))

pub of-requires-clause-small : goal.of-requires-clause-small
of-requires-clause-small c = path_small _ (rw c.new.ensures (omega (arith, c.if-path-gt-BODY_LIMIT.false)))
