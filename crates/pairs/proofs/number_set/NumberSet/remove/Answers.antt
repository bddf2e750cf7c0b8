use Rattle.std.proofs.Common.{ap, ◌∙◌}
use Rattle.std.specs.Cmp.{nat_cmp_total}
use Rattle.std.proofs.lemmas.Map.Lookups.{exact_unsigned}
use Rattle.std.specs.FinSet as set
use Rattle.values.proofs.Keyed.{set_of-remove}
use Rattle.pairs.proofs.number_set.NumberSet.remove.Goals as goal

pub returns : goal.returns
returns c = set_of-remove nat_cmp_total exact_unsigned c.args.number c.self.inside.numbers c.remove.new.self c.remove.ensures.updates
    ∙ ap (λ s. set.remove s c.args.number) c.self.view_is
