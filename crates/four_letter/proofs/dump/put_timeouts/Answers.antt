use Rattle.std.proofs.Common.{◌++◌, ap, sym, ◌∙◌, append_assoc, w32, w64, rules}
use Rattle.std.specs.List.{flat_map}
use Rattle.std.proofs.lemmas.Int.{to_z-of_z}
use Rattle.four_letter.specs.Texts.{timeout_line}
use Rattle.four_letter.proofs.dump.put_timeouts.Goals as goal
use mir.Val.{SFits}

pub loop-session-preserved : goal.loop-session-preserved
loop-session-preserved c =
    let out = c.loop-session.out.items in
    let session = c.in-Some.session.now in
    let timeout = c.in-Some.timeout.now in
    let session_fits : SFits w64 session = search rules in
    let timeout_fits : SFits w32 timeout = search rules in
    let rest = flat_map timeout_line c.next.new.self in (
      tt,
      tt,
      ap (λ o. o ++ rest) (c.in_ok-put_timeout.ensures
          ∙ (λ i. out ++ timeout_line (to_z-of_z w64 session session_fits i, to_z-of_z w32 timeout timeout_fits i)))
          ∙ append_assoc out (timeout_line (session, timeout)) rest
          ∙ ap (λ xs. out ++ flat_map timeout_line xs) (sym c.in-Some.ensures.steps)
          ∙ c.loop-session.invariant.2,
    )
