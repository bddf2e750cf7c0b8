use Rattle.std.proofs.Common.{sym, ap, ◌∙◌}
use Rattle.std.specs.FinSet as set
use Rattle.pairs.proofs.Totals.{pair_total, pair_exact}
use Rattle.pairs.proofs.SetCounts.{remove-absent, len-remove-present, some-present}
use Rattle.pairs.proofs.Tables.{agree-remove}
use Rattle.pairs.proofs.pairs_table.Pairs.remove.Goals as goal

pub returns-then-not-contains : goal.returns-then-not-contains
returns-then-not-contains c =
    remove-absent pair_total pair_exact c.args.self.now (c.args.text.now, c.args.number)
    (sym c.contains.ensures ∙ c.if-not-contains.true)

pub overflow_sub-self : goal.overflow_sub-self
overflow_sub-self c =
    some-present pair_total pair_exact c.self.inside.by_text (c.args.text.now, c.args.number) c.self.inside.count
    c.self.invariant.1
    (ap (λ s. set.contains s (c.args.text.now, c.args.number)) c.self.view_is
    ∙ sym c.contains.ensures ∙ c.if-not-contains.false)

pub invariant_of-self : goal.invariant_of-self
invariant_of-self c = (
  λ text number. ap (λ s. set.contains s (text, number)) c.remove-2.ensures
      ∙ agree-remove c.self.inside.by_text c.self.inside.by_number c.args.text.now c.args.number c.self.invariant.0
      text number
      ∙ ap (λ s. set.contains s (number, text)) (sym c.remove.ensures),
  len-remove-present pair_total pair_exact c.self.inside.by_text (c.args.text.now, c.args.number)
      c.self.inside.count
      c.self.invariant.1
      (ap (λ s. set.contains s (c.args.text.now, c.args.number)) c.self.view_is
      ∙ sym c.contains.ensures ∙ c.if-not-contains.false)
      ∙ sym (ap set.len c.remove-2.ensures),
)
