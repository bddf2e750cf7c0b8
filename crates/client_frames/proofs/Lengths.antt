-- The length of the answer to a connect.
use Rattle.std.proofs.Common.{◌≡◌, ℕ, ◌+◌, [], ◌∷◌, ◌++◌, length, w32, pos, ap, ◌∙◌, arith}
use Rattle.std.proofs.lemmas.List.{length-append}
use Rattle.jute.specs.Format.{number_bytes, with_count}
use Rattle.jute.specs.Frame.{frame_bytes}
use Rattle.client_records.specs.Responses.{connect_response}
use Rattle.sessions.specs.declared.request.SessionResponse.{SessionResponse}
use Rattle.client_frames.specs.Connect.{response_of}

pub answer_length : (r : SessionResponse) → length r.password ≡ 16
    → length (connect_response.written (response_of r)) ≡ 36
unfolding connect_response number_bytes
answer_length r e = simp length-append (omega (arith, e))

pub answer_writable : (r : SessionResponse) → length r.password ≡ 16 → connect_response.Writable (response_of r)
unfolding connect_response
answer_writable r e = (tt, (tt, (tt, omega (arith, e))))

-- With its last byte.
pub longer_framed : (r : SessionResponse) → length r.password ≡ 16
    → let body = connect_response.written (response_of r) ++ 0 ∷ [] in
    frame_bytes body ≡ number_bytes w32 (pos 37) ++ body
longer_framed r e =
    let body = connect_response.written (response_of r) ++ 0 ∷ [] in
    let long : length body ≡ 37 = length-append (connect_response.written (response_of r)) (0 ∷ [])
    ∙ ap (λ (n : ℕ). n + 1) (answer_length r e) in
    ap (λ (n : ℕ). with_count n body) long
