use Rattle.std.proofs.Common.{◌+◌, sym, ap, ◌∙◌, arith}
use Rattle.std.specs.FinSet as set
use Rattle.pairs.proofs.Totals.{pair_total, pair_exact}
use Rattle.std.proofs.lemmas.Bool.{not-false, not-true}
use Rattle.values.proofs.SetSteps.{insert-present, remove-insert}
use Rattle.pairs.proofs.SetCounts.{len-insert-new}
use Rattle.pairs.proofs.Tables.{agree-insert}
use Rattle.pairs.proofs.pairs_table.Pairs.insert.Goals as goal

pub invariant_of-self-then-not-branch : goal.invariant_of-self-then-not-branch
invariant_of-self-then-not-branch c =
    let here = not-false (set.contains c.self.inside.by_text (c.args.text.now, c.args.number))
    (sym c.in_ok-insert.ensures.added ∙ c.if-not-branch.true) in
    let same = c.in_ok-insert.ensures.ok
    ∙ sym (insert-present pair_total pair_exact c.self.inside.by_text (c.args.text.now, c.args.number) here) in (
      λ text number. ap (λ s. set.contains s (text, number)) same ∙ c.self.invariant.0 text number,
      c.self.invariant.1 ∙ sym (ap set.len same),
    )

pub invariant_of-self-in-Ok : goal.invariant_of-self-in-Ok
invariant_of-self-in-Ok c =
    let none = not-true (set.contains c.self.inside.by_text (c.args.text.now, c.args.number))
    (sym c.in_ok-insert.ensures.added ∙ c.if-not-branch.false) in (
      λ text number. ap (λ s. set.contains s (text, number)) c.in_ok-insert.ensures.ok
          ∙ agree-insert c.self.inside.by_text c.self.inside.by_number c.args.text.now c.args.number
          c.self.invariant.0 text
          number
          ∙ ap (λ s. set.contains s (number, text)) (sym c.in-Ok.ensures.ok),
      grind arith
          ∙ ap (λ n. n + 1) c.self.invariant.1
          ∙ sym (len-insert-new pair_total pair_exact c.self.inside.by_text (c.args.text.now, c.args.number) none)
          ∙ sym (ap set.len c.in_ok-insert.ensures.ok),
    )

pub invariant_of-self-in-Err : goal.invariant_of-self-in-Err
invariant_of-self-in-Err c =
    let none = not-true (set.contains c.self.inside.by_text (c.args.text.now, c.args.number))
    (sym c.in_ok-insert.ensures.added ∙ c.if-not-branch.false) in
    let back = c.remove.ensures
    ∙ ap (λ s. set.remove s (c.args.text.now, c.args.number)) c.in_ok-insert.ensures.ok
    ∙ remove-insert pair_total pair_exact c.self.inside.by_text (c.args.text.now, c.args.number) none in (
      λ text number. ap (λ s. set.contains s (text, number)) back
          ∙ c.self.invariant.0 text number
          ∙ ap (λ s. set.contains s (number, text)) (sym c.in-Err.ensures.err),
      c.self.invariant.1 ∙ sym (ap set.len back),
    )

pub returns-clause-err : goal.returns-clause-err
returns-clause-err c =
    let none = not-true (set.contains c.self.inside.by_text (c.args.text.now, c.args.number))
    (sym c.in_ok-insert.ensures.added ∙ c.if-not-branch.false) in
    c.remove.ensures
    ∙ ap (λ s. set.remove s (c.args.text.now, c.args.number)) c.in_ok-insert.ensures.ok
    ∙ remove-insert pair_total pair_exact c.self.inside.by_text (c.args.text.now, c.args.number) none
    ∙ c.self.view_is
