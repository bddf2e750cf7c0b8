use Rattle.std.proofs.Common.{◌≡◌, ℕ, suc, ◌+◌, ◌-◌, ◌<◌, ◌≤◌, List, [], ◌∷◌, length, take, drop, get_or, set, true, false, not, rules, refl, sym, ap, subst, ◌∙◌, arith}
use Rattle.std.specs.List.{insert, remove}
use Rattle.std.proofs.lemmas.List.{get_or_default}
use Rattle.ephemerals.specs.Orders.{Bytes, path_cmp}
use Rattle.ephemerals.specs.Inner.Runs.{joined, names_in, texts_before, AreFilled, AreRuns, AreBelow, AreAbove, IsAt, IsGapFor, ends_below}
use Rattle.std.specs.List.Sorted.{IsStrictlySortedBy}
use Rattle.ephemerals.proofs.JoinedRuns.{ascending_run, at_in_runs, gap_in_runs}
use Rattle.ephemerals.proofs.runs.find.Goals as goal

pub place-requires : goal.place-requires
place-requires c =
    let runs = c.args.runs.now in
    let i = c.run_for-run.result in
    let lt : i < length runs = omega arith in
    let is = c.index-runs-run.is ∙ get_or_default runs i c.index-runs-run.result [] lt in
    subst (IsStrictlySortedBy path_cmp) (sym is) (ascending_run runs i c.requires.ascending lt)

pub returns-in-Ok-clause-found : goal.returns-in-Ok-clause-found
returns-in-Ok-clause-found c =
    let runs = c.args.runs.now in
    let i = c.run_for-run.result in
    let lt : i < length runs = omega arith in
    let is = c.index-runs-run.is ∙ get_or_default runs i c.index-runs-run.result [] lt in
    at_in_runs runs i c.in-Ok.place c.args.text.now lt
    (subst (λ (run : List Bytes). IsAt c.args.text.now run c.in-Ok.place) is c.in-Ok.ensures.found)

pub returns-in-Err-clause-absent : goal.returns-in-Err-clause-absent
returns-in-Err-clause-absent c =
    let runs = c.args.runs.now in
    let i = c.run_for-run.result in
    let lt : i < length runs = omega arith in
    let is = c.index-runs-run.is ∙ get_or_default runs i c.index-runs-run.result [] lt in
    gap_in_runs runs i c.in-Err.place c.args.text.now lt c.run_for-run.ensures.below
    (subst (λ (run : List Bytes). IsGapFor c.args.text.now run c.in-Err.place) is c.in-Err.ensures.absent)
    (subst (λ (n : ℕ). AreAbove c.args.text.now (joined (drop n runs))) {x = i + 1} {y = suc i} (omega arith)
    (c.run_for-run.ensures.above lt))
