use Rattle.std.proofs.Common.{sym, ap, ◌∙◌}
use mathlib.Core.Bool.{true≢false}
use Rattle.pairs.specs.Inner.RowView.{row_numbers}
use Rattle.pairs.proofs.Rows.{only-full}
use Rattle.pairs.proofs.row.Row.is_empty.Goals as goal

pub returns-in-One : goal.returns-in-One
returns-in-One c = (
  λ h. absurd (true≢false (sym h)),
  λ e. absurd (only-full c.in-One.field-0 (sym (sym c.self.view_is ∙ ap row_numbers c.in-One.is) ∙ e)),
)
