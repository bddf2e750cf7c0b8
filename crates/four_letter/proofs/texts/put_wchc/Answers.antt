use Rattle.std.proofs.Common.{◌++◌, ap, sym, codes, ◌∙◌, append_assoc, w64, rules}
use Rattle.std.proofs.lemmas.Int.{to_z-of_z}
use Rattle.four_letter.specs.Texts.{prefixed_hex}
use Rattle.four_letter.specs.Inner.Gathered.{paths_by_session, session_blocks, watched_lines}
use Rattle.four_letter.proofs.Gathering.{session_blocks-gathered}
use Rattle.four_letter.proofs.texts.put_wchc.Goals as goal
use mir.Val.{SFits}

pub loop-session-init : goal.loop-session-init
loop-session-init c =
    let given = c.into_iter-session-iterator.ensures.into_iter_gives in (
      tt,
      tt,
      ap (λ text. c.args.out.now.items ++ text) (ap (λ es. session_blocks (paths_by_session es)) given.0
          ∙ session_blocks-gathered c.args.rows.now c.in_ok-by_session.by_session.entries c.in_ok-by_session.ensures
          given.5),
    )

pub loop-session-preserved : goal.loop-session-preserved
loop-session-preserved c =
    let out = c.loop-session.out.items in
    let session = c.in-Some.session.now in
    let fits : SFits w64 session = search rules in
    let head = prefixed_hex session ++ codes "\n" in
    let lines = watched_lines c.in-Some.paths.now.keys in
    let rest = session_blocks (paths_by_session c.next.new.self) in (
      tt,
      tt,
      ap (λ o. o ++ rest) (c.in_ok-put_watched.ensures
          ∙ ap (λ o. o ++ lines) (c.in_ok-put_id.ensures
          ∙ ap (λ z. out ++ (prefixed_hex z ++ codes "\n")) (to_z-of_z w64 session fits))
          ∙ append_assoc out head lines)
          ∙ append_assoc out (head ++ lines) rest
          ∙ ap (λ es. out ++ session_blocks (paths_by_session es)) (sym c.in-Some.ensures.steps)
          ∙ c.loop-session.invariant.2,
    )
