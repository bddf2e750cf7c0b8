use Rattle.std.proofs.Common.{sym, ap, subst, ◌∙◌}
use Rattle.std.specs.Cmp.{nat_cmp_total}
use Rattle.std.specs.Ordering.{nat_cmp}
use Rattle.std.proofs.lemmas.Map.Lookups.{exact_unsigned, exact_bytes}
use Rattle.pairs.specs.Inner.Stored.{number_pairs_in, HaveValues}
use Rattle.pairs.proofs.Totals.{text_total}
use Rattle.pairs.proofs.Grouped.{no_pairs}
use Rattle.pairs.proofs.Keys.{have-none}
use Rattle.values.proofs.Keyed.{map_of}
use Rattle.pairs.proofs.by_number.ByNumber.new.Goals as goal

pub returns : goal.returns
returns c = ap (λ es. number_pairs_in es) c.new.ensures.empty ∙ no_pairs nat_cmp_total text_total exact_unsigned exact_bytes

pub invariant_of-result : goal.invariant_of-result
invariant_of-result c =
    subst (λ es. HaveValues (map_of nat_cmp es)) (sym c.new.ensures.empty)
    (have-none nat_cmp_total text_total exact_unsigned exact_bytes)
