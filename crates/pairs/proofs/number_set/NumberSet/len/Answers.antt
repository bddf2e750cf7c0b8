use Rattle.std.proofs.Common.{sym, ap, ◌∙◌}
use Rattle.std.specs.Cmp.{nat_cmp_total}
use Rattle.std.proofs.lemmas.Map.Lookups.{exact_unsigned}
use Rattle.std.specs.FinSet as set
use Rattle.values.proofs.Keyed.{len-set_of}
use Rattle.pairs.proofs.number_set.NumberSet.len.Goals as goal

pub returns : goal.returns
returns c =
    c.len.ensures.len
    ∙ sym (len-set_of nat_cmp_total exact_unsigned c.self.inside.numbers.keys c.len.ensures.ordered)
    ∙ ap set.len c.self.view_is
