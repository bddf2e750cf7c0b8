use Rattle.std.proofs.Common.{sym, ap, ◌∙◌}
use Rattle.std.specs.Ordering.{nat_cmp}
use Rattle.std.specs.FinSet as set
use Rattle.pairs.specs.Inner.RowView.{row_numbers}
use Rattle.pairs.proofs.Rows.{only-member}
use Rattle.pairs.proofs.row.Row.contains.Goals as goal

pub returns-in-Empty : goal.returns-in-Empty
returns-in-Empty c =
    sym (ap (λ s. set.contains s c.args.number) (sym c.self.view_is ∙ ap row_numbers c.in-Empty.is) ∙ set.contains-empty nat_cmp c.args.number)

pub returns-in-One : goal.returns-in-One
returns-in-One c =
    only-member c.in-One.only c.args.number ∙ sym (ap (λ s. set.contains s c.args.number) (sym c.self.view_is ∙ ap row_numbers c.in-One.is))
