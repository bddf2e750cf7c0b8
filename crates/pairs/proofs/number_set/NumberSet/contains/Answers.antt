use Rattle.std.proofs.Common.{sym, ap, ◌∙◌}
use Rattle.std.specs.Cmp.{nat_cmp_total}
use Rattle.std.specs.FinSet as set
use Rattle.pairs.proofs.number_set.NumberSet.contains.Goals as goal

pub returns : goal.returns
returns c = c.contains.ensures ∙ sym (set.contains-from_list nat_cmp_total c.self.inside.numbers.keys c.args.number)
    ∙ ap (λ s. set.contains s c.args.number) c.self.view_is
