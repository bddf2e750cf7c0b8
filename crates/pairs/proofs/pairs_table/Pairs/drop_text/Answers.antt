use Rattle.std.proofs.Common.{sym, ap, ◌∙◌}
use Rattle.std.specs.FinSet as set
use Rattle.pairs.proofs.Tables.{agree-without_text, textless}
use Rattle.pairs.proofs.TableCounts.{numbers-within, numbers-less}
use Rattle.pairs.proofs.pairs_table.Pairs.drop_text.Goals as goal

pub invariant_of-self : goal.invariant_of-self
invariant_of-self c =
    let same = c.take.ensures.rest ∙ sym (textless c.args.text.now c.self.inside.by_text c.in-None.ensures.none) in (
      λ text number. ap (λ s. set.contains s (text, number)) same ∙ c.self.invariant.0 text number,
      c.self.invariant.1 ∙ sym (ap set.len same),
    )

pub overflow_sub-self : goal.overflow_sub-self
overflow_sub-self c =
    numbers-within c.self.inside.by_text c.args.text.now c.in-Some.row c.self.inside.count c.len.result
    c.in-Some.ensures.row c.self.invariant.1 c.len.ensures

pub invariant_of-self-in-Some : goal.invariant_of-self-in-Some
invariant_of-self-in-Some c = (
  λ text number. ap (λ s. set.contains s (text, number)) c.take.ensures.rest
      ∙ agree-without_text c.self.inside.by_text c.self.inside.by_number c.remove_all.new.self c.args.text.now c.in-Some.row
      c.self.invariant.0 c.in-Some.ensures.row c.remove_all.ensures text number,
  numbers-less c.self.inside.by_text c.args.text.now c.in-Some.row c.self.inside.count c.len.result
      c.in-Some.ensures.row c.self.invariant.1 c.len.ensures
      ∙ sym (ap set.len c.take.ensures.rest),
)
