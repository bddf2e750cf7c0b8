use Rattle.std.proofs.Common.{not, sym, ap, ◌∙◌}
use Rattle.std.specs.Str.{bytes_eq}
use Rattle.std.specs.FinSet as set
use Rattle.pairs.specs.Pairs.{text_cmp}
use Rattle.pairs.specs.Inner.TableView.{table_texts}
use Rattle.pairs.proofs.OneText.{text-member, insert-only_text}
use Rattle.pairs.proofs.text_table.TextTable.insert.Goals as goal

pub returns-then-eq-clause-ok : goal.returns-then-eq-clause-ok
returns-then-eq-clause-ok c =
    insert-only_text c.in-One.only c.args.text (sym (c.eq.ensures ∙ (λ i. bytes_eq (c.as_str.ensures i) (c.as_str-in-One.ensures i))) ∙ c.if-eq.true)
    ∙ ap (λ s. set.insert s c.args.text) (sym (sym c.self.view_is ∙ ap table_texts c.in-One.is))

pub returns-then-eq-clause-added : goal.returns-then-eq-clause-added
returns-then-eq-clause-added c =
    sym (ap (λ s. not (set.contains s c.args.text)) (sym c.self.view_is ∙ ap table_texts c.in-One.is)
    ∙ ap not (sym (text-member c.in-One.only c.args.text)
    ∙ (sym (c.eq.ensures ∙ (λ i. bytes_eq (c.as_str.ensures i) (c.as_str-in-One.ensures i))) ∙ c.if-eq.true)))

pub returns-in-Empty-clause-added : goal.returns-in-Empty-clause-added
returns-in-Empty-clause-added c =
    sym (ap (λ s. not (set.contains s c.args.text)) (sym c.self.view_is ∙ ap table_texts c.in-Empty.is)
    ∙ ap not (set.contains-empty text_cmp c.args.text))

pub returns-in_ok-table-in-One-clause-added : goal.returns-in_ok-table-in-One-clause-added
returns-in_ok-table-in-One-clause-added c =
    sym (ap (λ s. not (set.contains s c.args.text)) (sym c.self.view_is ∙ ap table_texts c.in-One.is)
    ∙ ap not (sym (text-member c.in-One.only c.args.text)
    ∙ (sym (c.eq.ensures ∙ (λ i. bytes_eq (c.as_str.ensures i) (c.as_str-in-One.ensures i))) ∙ c.if-eq.false)))
