use Rattle.std.proofs.Common.{sym, ap, ◌∙◌}
use Rattle.std.specs.FinSet as set
use Rattle.pairs.specs.Pairs.{numbers_at}
use Rattle.pairs.proofs.Rows.{union-none}
use Rattle.pairs.proofs.pairs_table.Pairs.add_numbers_of.Goals as goal

pub returns-in-None-clause-ok : goal.returns-in-None-clause-ok
returns-in-None-clause-ok c =
    union-none c.args.numbers.now
    ∙ sym (ap (λ s. set.union c.args.numbers.now s)
    (ap (λ p. numbers_at c.args.text.now p) (sym c.self.view_is) ∙ c.in-None.ensures.none))
