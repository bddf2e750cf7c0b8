use Rattle.std.proofs.Common.{sym, ap, ◌∙◌}
use Rattle.pairs.specs.Pairs.{sorted_numbers}
use Rattle.pairs.proofs.Tables.{without_numbers, lost-numbers}
use Rattle.pairs.proofs.Ascending.{any-sorted}
use Rattle.pairs.proofs.by_number.ByNumber.remove_each.Goals as goal

pub returns : goal.returns
returns c =
    lost-numbers c.args.text.now (sorted_numbers c.args.numbers.now) c.args.numbers.now c.args.self.now c.loop-number.self
    (ap (λ ns. without_numbers c.args.text.now ns c.loop-number.self) (sym c.in-None.ensures.steps.0)
    ∙ c.loop-number.invariant.2)
    (any-sorted c.args.numbers.now)
