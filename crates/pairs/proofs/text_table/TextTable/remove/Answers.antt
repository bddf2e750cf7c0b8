use Rattle.std.proofs.Common.{sym, ap, ◌∙◌}
use Rattle.std.specs.Str.{bytes_eq}
use Rattle.std.specs.FinSet as set
use Rattle.pairs.specs.Inner.TableView.{table_texts}
use Rattle.pairs.proofs.OneText.{remove-only_text, remove-other_text, remove-no_text}
use Rattle.pairs.proofs.text_table.TextTable.remove.Goals as goal

pub returns-in-Empty : goal.returns-in-Empty
returns-in-Empty c =
    ap table_texts c.in-Empty.is ∙ remove-no_text c.args.text.now ∙ ap (λ s. set.remove s c.args.text.now) (sym (sym c.self.view_is ∙ ap table_texts c.in-Empty.is))

pub returns-then-eq : goal.returns-then-eq
returns-then-eq c =
    remove-only_text c.in-One.only c.args.text.now (sym (c.eq.ensures ∙ ap (λ t. bytes_eq t c.args.text.now) c.as_str.ensures) ∙ c.if-eq.true)
    ∙ ap (λ s. set.remove s c.args.text.now) (sym (sym c.self.view_is ∙ ap table_texts c.in-One.is))

pub returns-else-eq : goal.returns-else-eq
returns-else-eq c =
    remove-other_text c.in-One.only c.args.text.now (sym (c.eq.ensures ∙ ap (λ t. bytes_eq t c.args.text.now) c.as_str.ensures) ∙ c.if-eq.false)
    ∙ ap (λ s. set.remove s c.args.text.now) (sym (sym c.self.view_is ∙ ap table_texts c.in-One.is))
