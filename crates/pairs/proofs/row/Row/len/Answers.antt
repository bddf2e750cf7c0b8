use Rattle.std.proofs.Common.{sym, ap, ◌∙◌}
use Rattle.std.specs.Ordering.{nat_cmp}
use Rattle.std.specs.FinSet as set
use Rattle.pairs.specs.Inner.RowView.{row_numbers}
use Rattle.pairs.proofs.Rows.{only-len}
use Rattle.pairs.proofs.row.Row.len.Goals as goal

pub returns-in-Empty : goal.returns-in-Empty
returns-in-Empty c = sym (ap set.len (sym c.self.view_is ∙ ap row_numbers c.in-Empty.is) ∙ set.len-empty nat_cmp)

pub returns-in-One : goal.returns-in-One
returns-in-One c = only-len c.in-One.field-0 ∙ sym (ap set.len (sym c.self.view_is ∙ ap row_numbers c.in-One.is))
