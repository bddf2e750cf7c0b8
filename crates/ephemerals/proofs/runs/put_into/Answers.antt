use Rattle.std.proofs.Common.{◌≡◌, ℕ, suc, ◌+◌, ◌-◌, ◌<◌, ◌≤◌, List, [], ◌∷◌, length, take, drop, get_or, set, true, false, not, rules, refl, sym, ap, subst, ◌∙◌, arith}
use Rattle.std.specs.List.{insert, remove}
use Rattle.std.proofs.lemmas.List.{get_or_default}
use Rattle.ephemerals.specs.Orders.{Bytes, path_cmp}
use Rattle.ephemerals.specs.Inner.Runs.{joined, names_in, texts_before, AreFilled, AreRuns, AreBelow, AreAbove, IsAt, IsGapFor, ends_below}
use Rattle.ephemerals.proofs.JoinedRuns.{put_in_run}
use Rattle.ephemerals.proofs.runs.put_into.Goals as goal

pub returns-clause-ok : goal.returns-clause-ok
returns-clause-ok c =
    let runs = c.args.runs.now.items in
    let is = c.index_mut-own.ensures.value ∙ get_or_default runs c.args.run c.index_mut-own.result.now [] c.requires.run in
    ap (λ (run : List Bytes). joined (set runs c.args.run run))
    (c.in_ok-insert.ensures.ok ∙ ap (λ (run : List Bytes). insert run c.args.place c.args.text) is)
    ∙ put_in_run runs c.args.run c.args.place c.args.text c.requires.run c.requires.place
