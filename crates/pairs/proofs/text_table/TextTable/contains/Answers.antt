use Rattle.std.proofs.Common.{sym, ap, ◌∙◌}
use Rattle.std.specs.Str.{bytes_eq}
use Rattle.std.specs.FinSet as set
use Rattle.pairs.specs.Pairs.{text_cmp}
use Rattle.pairs.specs.Inner.TableView.{table_texts}
use Rattle.pairs.proofs.OneText.{text-member}
use Rattle.pairs.proofs.text_table.TextTable.contains.Goals as goal

pub returns-in-Empty : goal.returns-in-Empty
returns-in-Empty c =
    sym (ap (λ s. set.contains s c.args.text.now) (sym c.self.view_is ∙ ap table_texts c.in-Empty.is) ∙ set.contains-empty text_cmp c.args.text.now)

pub returns-in-One : goal.returns-in-One
returns-in-One c =
    c.eq.ensures
    ∙ ap (λ t. bytes_eq t c.args.text.now) c.as_str.ensures
    ∙ text-member c.in-One.only c.args.text.now
    ∙ sym (ap (λ s. set.contains s c.args.text.now) (sym c.self.view_is ∙ ap table_texts c.in-One.is))
