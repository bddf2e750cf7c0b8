use Rattle.std.proofs.Common.{sym, ap, ◌∙◌}
use Rattle.std.specs.Cmp.{nat_cmp_total}
use Rattle.std.specs.FinSet as set
use Rattle.values.proofs.Keyed.{entries-in_order}
use Rattle.pairs.specs.Inner.Stored.{all_pairs}
use Rattle.pairs.proofs.by_number.ByNumber.iter.Goals as goal

pub returns-clause-pairs : goal.returns-clause-pairs
returns-clause-pairs c =
    ap (λ es. set.from_list (all_pairs es)) c.iter.ensures.rest
    ∙ ap (λ es. set.from_list (all_pairs es)) (sym (entries-in_order nat_cmp_total c.self.inside.map.entries
    c.iter.ensures.ordered))
    ∙ c.self.view_is
