use Rattle.std.proofs.Common.{rules, ◌≢◌, [], ap, ◌∙◌, Some}
use Rattle.replay_script.specs.declared.event.Setting.TheVariants.{Super}
use Rattle.replay_script.proofs.Utf8.{no_digest, digest}
use Rattle.replay_script.proofs.line.super_of.Goals as goal

pub returns-in-Err : goal.returns-in-Err
returns-in-Err c = no_digest c.args.text.now c.in-Err.ensures.cases.0

pub returns : goal.returns
returns c =
    let filled : c.args.text.now ≢ [] = search rules in
    ap (λ x. Some (Super x)) (c.in_ok-new-in-Ok.ensures ∙ c.in-Ok.ensures.cases.0)
    ∙ digest c.args.text.now filled c.in-Ok.ensures.cases.1
