use Rattle.std.proofs.Common.{sym, ap, ◌∙◌}
use Rattle.std.specs.FinSet as set
use Rattle.pairs.specs.Inner.RowView.{row_numbers}
use Rattle.pairs.proofs.Rows.{remove-only, remove-other, remove-none}
use Rattle.pairs.proofs.row.Row.remove.Goals as goal

pub returns-in-Empty : goal.returns-in-Empty
returns-in-Empty c =
    ap row_numbers c.in-Empty.is ∙ remove-none c.args.number ∙ ap (λ s. set.remove s c.args.number) (sym (sym c.self.view_is ∙ ap row_numbers c.in-Empty.is))

pub returns-then-only-number : goal.returns-then-only-number
returns-then-only-number c =
    remove-only c.in-One.only c.args.number c.if-only-number.true
    ∙ ap (λ s. set.remove s c.args.number) (sym (sym c.self.view_is ∙ ap row_numbers c.in-One.is))

pub returns-else-only-number : goal.returns-else-only-number
returns-else-only-number c =
    remove-other c.in-One.only c.args.number c.if-only-number.false ∙ ap (λ s. set.remove s c.args.number) (sym (sym c.self.view_is ∙ ap row_numbers c.in-One.is))
