use Rattle.std.proofs.Common.{sym, ◌∙◌}
use Rattle.std.specs.Cmp.{nat_cmp_total}
use Rattle.std.proofs.lemmas.Map.Lookups.{exact_unsigned}
use Rattle.values.proofs.Keyed.{set_of-empty}
use Rattle.pairs.proofs.number_set.NumberSet.is_empty.Goals as goal

pub returns : goal.returns
returns c = (
  λ h. sym c.self.view_is ∙ (set_of-empty nat_cmp_total exact_unsigned c.self.inside.numbers.keys).0 (c.is_empty.ensures.0 h),
  λ e. c.is_empty.ensures.1 ((set_of-empty nat_cmp_total exact_unsigned c.self.inside.numbers.keys).1 (c.self.view_is ∙ e)),
)
