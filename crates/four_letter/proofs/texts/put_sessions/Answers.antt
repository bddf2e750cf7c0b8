use Rattle.std.proofs.Common.{◌++◌, ap, sym, ◌∙◌, append_assoc, w64, rules}
use Rattle.std.specs.List.{flat_map}
use Rattle.std.proofs.lemmas.Int.{to_z-of_z}
use Rattle.four_letter.specs.Texts.{session_line}
use Rattle.four_letter.proofs.texts.put_sessions.Goals as goal
use mir.Val.{SFits}

pub loop-session-preserved : goal.loop-session-preserved
loop-session-preserved c =
    let out = c.loop-session.out.items in
    let session = c.in-Some.session.now in
    let fits : SFits w64 session = search rules in
    let rest = flat_map session_line c.next.new.self in (
      tt,
      tt,
      ap (λ o. o ++ rest) (c.in_ok-put_hex.ensures ∙ ap (λ z. out ++ session_line z) (to_z-of_z w64 session fits))
          ∙ append_assoc out (session_line session) rest
          ∙ ap (λ xs. out ++ flat_map session_line xs) (sym c.in-Some.ensures.steps)
          ∙ c.loop-session.invariant.2,
    )
