use Rattle.std.proofs.Common.{◌≡◌, ℕ, suc, ◌+◌, ◌-◌, ◌<◌, ◌≤◌, List, [], ◌∷◌, length, take, drop, get_or, set, true, false, not, rules, refl, sym, ap, subst, ◌∙◌, arith}
use Rattle.ephemerals.specs.Orders.{Bytes, path_cmp}
use Rattle.ephemerals.specs.Inner.Runs.{joined, names_in, texts_before, AreFilled, AreRuns, AreBelow, AreAbove, IsAt, IsGapFor, ends_below}
use Rattle.std.proofs.lemmas.Fn.{answers_by}
use Rattle.ephemerals.proofs.JoinedRuns.{partitioned, below_before, above_after, all_end_below}
use Rattle.ephemerals.proofs.runs.run_for.Goals as goal

pub returns-then-ends_below-clause-below : goal.returns-then-ends_below-clause-below
returns-then-ends_below-clause-below c =
    all_end_below c.args.text.now c.args.runs.now c.requires c.in-Some.ensures.item.3.0 (λ d.
    ap (ends_below c.args.text.now) (sym (c.in-Some.ensures.item.3.1 d)) ∙ sym c.ends_below.ensures ∙ c.if-ends_below.true)

pub returns-clause-below : goal.returns-clause-below
returns-clause-below c =
    let text = c.args.text.now in
    let runs = c.args.runs.now in
    let i = c.partition_point.result in
    let parts = c.partition_point.ensures.partitioned (ends_below text)
    (answers_by _ _ (λ f. f.0.now ≡ text) (λ f a r g called same. (search rules, search rules)) _ refl)
    (partitioned text runs c.requires) in
    below_before text runs i c.requires.ascending c.partition_point.ensures.bound parts.0

pub returns-clause-above : goal.returns-clause-above
returns-clause-above c lt =
    let text = c.args.text.now in
    let runs = c.args.runs.now in
    let i = c.partition_point.result in
    let parts = c.partition_point.ensures.partitioned (ends_below text)
    (answers_by _ _ (λ f. f.0.now ≡ text) (λ f a r g called same. (search rules, search rules)) _ refl)
    (partitioned text runs c.requires) in
    subst (λ (n : ℕ). AreAbove text (joined (drop n runs))) {x = suc i} {y = i + 1} (omega arith)
    (above_after text runs i c.requires.ascending lt (parts.1 i [] (omega arith) lt))
