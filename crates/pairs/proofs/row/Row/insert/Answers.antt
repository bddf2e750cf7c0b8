use Rattle.std.proofs.Common.{not, sym, ap, ◌∙◌}
use Rattle.std.specs.Ordering.{nat_cmp}
use Rattle.std.specs.FinSet as set
use Rattle.pairs.specs.Inner.RowView.{row_numbers}
use Rattle.pairs.proofs.Rows.{insert-only, has-only, lacks-other}
use Rattle.pairs.proofs.row.Row.insert.Goals as goal

pub returns-then-only-number-clause-ok : goal.returns-then-only-number-clause-ok
returns-then-only-number-clause-ok c =
    insert-only c.in-One.only c.args.number c.if-only-number.true ∙ ap (λ s. set.insert s c.args.number) (sym (sym c.self.view_is ∙ ap row_numbers c.in-One.is))

pub returns-then-only-number-clause-added : goal.returns-then-only-number-clause-added
returns-then-only-number-clause-added c =
    sym (ap (λ s. not (set.contains s c.args.number)) (sym c.self.view_is ∙ ap row_numbers c.in-One.is)
    ∙ ap not (has-only c.in-One.only c.args.number c.if-only-number.true))

pub returns-in-Empty-clause-added : goal.returns-in-Empty-clause-added
returns-in-Empty-clause-added c =
    sym (ap (λ s. not (set.contains s c.args.number)) (sym c.self.view_is ∙ ap row_numbers c.in-Empty.is) ∙ ap not (set.contains-empty nat_cmp c.args.number))

pub returns-in_ok-row-in-One-clause-added : goal.returns-in_ok-row-in-One-clause-added
returns-in_ok-row-in-One-clause-added c =
    sym (ap (λ s. not (set.contains s c.args.number)) (sym c.self.view_is ∙ ap row_numbers c.in-One.is)
    ∙ ap not (lacks-other c.in-One.only c.args.number c.if-only-number.false))
