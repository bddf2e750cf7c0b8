use Rattle.std.proofs.Common.{sym, ap, ◌∙◌}
use Rattle.std.specs.FinSet as set
use Rattle.pairs.specs.Pairs.{texts_at, without_number}
use Rattle.pairs.proofs.Tables.{agree-without_number, numberless, are_dropped, turned_texts, no_turned_text}
use Rattle.pairs.proofs.TableCounts.{texts-within, texts-less}
use Rattle.pairs.proofs.pairs_table.Pairs.take_number.Goals as goal

pub invariant_of-self : goal.invariant_of-self
invariant_of-self c = (
  λ text number. ap (λ s. set.contains s (text, number))
      (numberless c.self.inside.by_text c.self.inside.by_number
      c.args.number c.self.invariant.0 c.in-None.ensures.none)
      ∙ agree-without_number c.self.inside.by_text c.self.inside.by_number c.args.number c.self.invariant.0 text number
      ∙ ap (λ s. set.contains s (number, text)) (sym c.take.ensures.rest),
  c.self.invariant.1,
)

pub returns-in-None-clause-rest : goal.returns-in-None-clause-rest
returns-in-None-clause-rest c =
    numberless c.self.inside.by_text c.self.inside.by_number c.args.number c.self.invariant.0
    c.in-None.ensures.none
    ∙ ap (λ s. without_number c.args.number s) c.self.view_is

pub returns-in-None-clause-none : goal.returns-in-None-clause-none
returns-in-None-clause-none c =
    ap (λ s. texts_at c.args.number s) (sym c.self.view_is)
    ∙ no_turned_text c.self.inside.by_text c.self.inside.by_number c.args.number c.self.invariant.0 c.in-None.ensures.none

pub overflow_sub-self : goal.overflow_sub-self
overflow_sub-self c =
    texts-within c.self.inside.by_text c.self.inside.by_number c.args.number c.in-Some.texts c.self.inside.count
    c.len.result c.self.invariant.0 c.in-Some.ensures.texts c.self.invariant.1 c.len.ensures

pub invariant_of-self-in-Some : goal.invariant_of-self-in-Some
invariant_of-self-in-Some c =
    let dropped = are_dropped c.self.inside.by_text c.remove_all.new.self c.self.inside.by_number c.args.number c.in-Some.texts
    c.self.invariant.0 c.in-Some.ensures.texts c.remove_all.ensures in (
      λ text number. ap (λ s. set.contains s (text, number)) dropped
          ∙ agree-without_number c.self.inside.by_text c.self.inside.by_number c.args.number c.self.invariant.0
          text number
          ∙ ap (λ s. set.contains s (number, text)) (sym c.take.ensures.rest),
      texts-less c.self.inside.by_text c.self.inside.by_number c.args.number c.in-Some.texts c.self.inside.count
          c.len.result c.self.invariant.0 c.in-Some.ensures.texts c.self.invariant.1 c.len.ensures
          ∙ sym (ap set.len dropped),
    )

pub returns-clause-texts : goal.returns-clause-texts
returns-clause-texts c =
    turned_texts c.self.inside.by_text c.self.inside.by_number c.args.number c.in-Some.texts c.self.invariant.0
    c.in-Some.ensures.texts
    ∙ ap (λ s. texts_at c.args.number s) c.self.view_is

pub returns-clause-rest : goal.returns-clause-rest
returns-clause-rest c =
    are_dropped c.self.inside.by_text c.remove_all.new.self c.self.inside.by_number c.args.number c.in-Some.texts
    c.self.invariant.0 c.in-Some.ensures.texts c.remove_all.ensures
    ∙ ap (λ s. without_number c.args.number s) c.self.view_is
