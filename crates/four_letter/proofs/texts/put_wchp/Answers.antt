use Rattle.std.proofs.Common.{◌++◌, ap, sym, codes, ◌∙◌}
use Rattle.std.specs.List.{flat_map}
use Rattle.four_letter.specs.Texts.{session_line}
use Rattle.four_letter.specs.Inner.Gathered.{sessions_by_path, path_blocks}
use Rattle.four_letter.proofs.Gathering.{path_blocks-gathered, block}
use Rattle.four_letter.proofs.texts.put_wchp.Goals as goal

pub loop-path-init : goal.loop-path-init
loop-path-init c =
    let given = c.into_iter-path-iterator.ensures.into_iter_gives in (
      tt,
      tt,
      ap (λ text. c.args.out.now.items ++ text) (ap (λ es. path_blocks (sessions_by_path es)) given.0
          ∙ path_blocks-gathered c.args.rows.now c.in_ok-by_path.by_path.entries c.in_ok-by_path.ensures given.5),
    )

pub loop-path-preserved : goal.loop-path-preserved
loop-path-preserved c =
    let out = c.loop-path.out.items in
    let path = c.in-Some.path.now.now in
    let sessions = flat_map session_line c.in-Some.sessions.now.keys in
    let rest = path_blocks (sessions_by_path c.next.new.self) in (
      tt,
      tt,
      ap (λ o. o ++ rest) (c.in_ok-put_sessions.ensures
          ∙ ap (λ o. o ++ sessions) (c.in_ok-put-2.ensures ∙ ap (λ o. o ++ codes "\n") c.in_ok-put.ensures))
          ∙ block out path (codes "\n") sessions rest
          ∙ ap (λ es. out ++ path_blocks (sessions_by_path es)) (sym c.in-Some.ensures.steps)
          ∙ c.loop-path.invariant.2,
    )
