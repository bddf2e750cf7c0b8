use Rattle.std.proofs.Common.{sym, ap, subst, ◌∙◌}
use Rattle.std.specs.Cmp.{nat_cmp_total}
use Rattle.std.proofs.lemmas.Map.Lookups.{exact_unsigned, exact_bytes}
use Rattle.pairs.specs.Inner.Stored.{text_pairs_in, HaveValues}
use Rattle.pairs.proofs.Totals.{text_total}
use Rattle.pairs.proofs.Grouped.{no_pairs}
use Rattle.pairs.proofs.Keys.{have-none}
use Rattle.pairs.proofs.Hashed.{map_of}
use Rattle.pairs.proofs.by_text.ByText.keyed.Goals as goal

pub returns : goal.returns
returns c = ap (λ es. text_pairs_in es) c.with_hasher.ensures.empty
    ∙ no_pairs text_total nat_cmp_total exact_bytes exact_unsigned

pub invariant_of-result : goal.invariant_of-result
invariant_of-result c =
    subst (λ es. HaveValues (map_of es)) (sym c.with_hasher.ensures.empty)
    (have-none text_total nat_cmp_total exact_bytes exact_unsigned)
