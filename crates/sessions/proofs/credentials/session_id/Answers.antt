use mir.Val.{SFits}
use Rattle.std.proofs.Common.{rules, ◌≡◌, ◌+◌, ◌*◌, ◌^◌, ap, ◌∙◌, to_z, w32, w64}
use Rattle.std.specs.Prelude.{unsigned_abs}
use Rattle.std.proofs.lemmas.Int.{to_z-of_z}
use Rattle.sessions.specs.Credentials.{session_id_of}
use Rattle.sessions.proofs.credentials.session_id.Goals as goal

pub returns : goal.returns
unfolding session_id_of
returns c =
    let fits : SFits w64 c.cast_signed.result = search rules in
    let number_fits : SFits w32 c.number.result = search rules in
    let high : c.from-high.result ≡ unsigned_abs c.args.server_id =
    c.from-high.ensures ∙ c.unsigned_abs.ensures.value
    ∙ ap unsigned_abs (to_z-of_z w32 c.number.result number_fits ∙ c.number.ensures.number) in
    to_z-of_z w64 c.cast_signed.result fits ∙ c.cast_signed.ensures ∙ (λ i. to_z w64 (high i * 2 ^ 56 + c.args.counter))
