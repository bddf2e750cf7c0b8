use Rattle.std.proofs.Common.{sym, ap, ◌∙◌}
use Rattle.std.specs.FinSet as set
use Rattle.pairs.specs.Pairs.{text_cmp}
use Rattle.pairs.specs.Inner.TableView.{table_texts}
use Rattle.pairs.proofs.OneText.{text-len}
use Rattle.pairs.proofs.text_table.TextTable.len.Goals as goal

pub returns-in-Empty : goal.returns-in-Empty
returns-in-Empty c = sym (ap set.len (sym c.self.view_is ∙ ap table_texts c.in-Empty.is) ∙ set.len-empty text_cmp)

pub returns-in-One : goal.returns-in-One
returns-in-One c = text-len c.in-One.field-0 ∙ sym (ap set.len (sym c.self.view_is ∙ ap table_texts c.in-One.is))
