use Rattle.std.proofs.Common.{ℕ, List, [], ◌∷◌, ◌++◌, w32, pos, ap, sym, ◌∙◌, arith, append_assoc}
use Rattle.jute.specs.Format.{number_bytes}
use Rattle.client_records.specs.Responses.{connect_response}
use Rattle.client_records.specs.declared.connect.ConnectResponse.{ConnectResponse}
use Rattle.client_frames.specs.Connect.{response_of, answer_to_connect}
use Rattle.client_frames.proofs.Lengths.{answer_length, answer_writable, longer_framed}
use Rattle.client_frames.proofs.connecting.answer_to_connect.Goals as goal

pub put_frame-requires-clause-writable : goal.put_frame-requires-clause-writable
put_frame-requires-clause-writable c =
    rw c.in_ok-answer.ensures.answer (answer_writable c.args.response.now c.in_ok-answer.ensures.short)

pub put_frame-requires-clause-small : goal.put_frame-requires-clause-small
put_frame-requires-clause-small c =
    rw c.in_ok-answer.ensures.answer (omega (arith, answer_length c.args.response.now c.in_ok-answer.ensures.short))

pub write-requires : goal.write-requires
write-requires c =
    rw c.in_ok-answer.ensures.answer (answer_writable c.args.response.now c.in_ok-answer.ensures.short)

pub returns : goal.returns
returns c =
    let r = c.args.response.now in
    let text : List ℕ = connect_response.written (response_of r) in
    let size : List ℕ = number_bytes w32 (pos 37) in
    c.from_vec-2.ensures
    ∙ c.in_ok-push.ensures.items
    ∙ ap (λ (o : List ℕ). o ++ 0 ∷ [])
    (c.in_ok-write.ensures
    ∙ ap (λ (a : ConnectResponse). c.put_int.new.out.items ++ connect_response.written a) c.in_ok-answer.ensures.answer
    ∙ ap (λ (o : List ℕ). o ++ text)
    (c.in_ok-put_int.ensures ∙ ap (λ (o : List ℕ). o ++ size) c.in_ok-frame.ensures.items))
    ∙ append_assoc size text (0 ∷ [])
    ∙ sym (longer_framed r c.in_ok-answer.ensures.short)
    ∙ ap (answer_to_connect r) (sym c.if-not-has_byte.false)
