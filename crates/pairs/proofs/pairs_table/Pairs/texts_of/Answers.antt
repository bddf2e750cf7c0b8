use Rattle.std.proofs.Common.{sym, ap, ◌∙◌}
use Rattle.pairs.specs.Pairs.{texts_at}
use Rattle.pairs.proofs.Tables.{turned_texts, no_turned_text}
use Rattle.pairs.proofs.pairs_table.Pairs.texts_of.Goals as goal

pub returns-in-None-clause-none : goal.returns-in-None-clause-none
returns-in-None-clause-none c =
    ap (λ s. texts_at c.args.number s) (sym c.self.view_is)
    ∙ no_turned_text c.self.inside.by_text c.self.inside.by_number c.args.number c.self.invariant.0 c.in-None.ensures.none

pub returns-then-is_empty-clause-none : goal.returns-then-is_empty-clause-none
returns-then-is_empty-clause-none c =
    ap (λ s. texts_at c.args.number s) (sym c.self.view_is)
    ∙ sym (turned_texts c.self.inside.by_text c.self.inside.by_number c.args.number c.in-Some.texts.now c.self.invariant.0
    c.in-Some.ensures.texts)
    ∙ c.is_empty.ensures.0 c.if-is_empty.true

pub returns-clause-texts : goal.returns-clause-texts
returns-clause-texts c =
    turned_texts c.self.inside.by_text c.self.inside.by_number c.args.number c.in-Some.texts.now c.self.invariant.0
    c.in-Some.ensures.texts
    ∙ ap (λ s. texts_at c.args.number s) c.self.view_is
