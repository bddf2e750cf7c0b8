use Rattle.std.proofs.Common.{sym, ap, ◌∙◌}
use mathlib.Core.Bool.{true≢false}
use Rattle.pairs.specs.Inner.TableView.{table_texts}
use Rattle.pairs.proofs.OneText.{text-full}
use Rattle.pairs.proofs.text_table.TextTable.is_empty.Goals as goal

pub returns-in-One : goal.returns-in-One
returns-in-One c = (
  λ h. absurd (true≢false (sym h)),
  λ e. absurd (text-full c.in-One.field-0 (sym (sym c.self.view_is ∙ ap table_texts c.in-One.is) ∙ e)),
)
