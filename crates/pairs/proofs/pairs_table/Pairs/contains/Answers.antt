use Rattle.std.proofs.Common.{sym, ap, ◌∙◌}
use Rattle.std.specs.Ordering.{nat_cmp}
use Rattle.std.specs.FinSet as set
use Rattle.pairs.specs.Pairs.{numbers_at}
use Rattle.pairs.proofs.NumbersOf.{contains-numbers}
use Rattle.pairs.proofs.pairs_table.Pairs.contains.Goals as goal

pub returns-in-None : goal.returns-in-None
returns-in-None c =
    sym (sym (contains-numbers c.args.text.now c.args.self.now c.args.number)
    ∙ ap (λ s. set.contains s c.args.number)
    (ap (λ p. numbers_at c.args.text.now p) (sym c.self.view_is) ∙ c.in-None.ensures.none)
    ∙ set.contains-empty nat_cmp c.args.number)

pub returns : goal.returns
returns c =
    c.contains.ensures
    ∙ ap (λ s. set.contains s c.args.number) c.in-Some.ensures.some
    ∙ contains-numbers c.args.text.now c.self.inside.by_text c.args.number
    ∙ ap (λ p. set.contains p (c.args.text.now, c.args.number)) c.self.view_is
