use Rattle.std.proofs.Common.{sym, ap, ◌∙◌}
use Rattle.std.specs.Cmp.{nat_cmp_total}
use Rattle.std.proofs.lemmas.Map.Lookups.{exact_unsigned}
use Rattle.pairs.specs.Pairs.{sorted_numbers}
use Rattle.values.proofs.Keyed.{set_of-in_order}
use Rattle.pairs.proofs.number_set.NumberSet.iter.Goals as goal

pub returns-clause-numbers : goal.returns-clause-numbers
returns-clause-numbers c =
    c.iter.ensures.rest ∙ sym (set_of-in_order nat_cmp_total exact_unsigned c.self.inside.numbers.keys c.iter.ensures.ordered)
    ∙ ap (λ s. sorted_numbers s) c.self.view_is
