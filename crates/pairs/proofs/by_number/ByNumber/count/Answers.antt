use Rattle.std.proofs.Common.{sym, ap, ◌∙◌}
use Rattle.std.specs.Cmp.{nat_cmp_total}
use Rattle.std.specs.Ordering.{nat_cmp}
use Rattle.std.proofs.lemmas.Map.Lookups.{exact_unsigned, exact_bytes}
use Rattle.std.specs.FinSet as set
use Rattle.pairs.specs.Pairs.{keys_in}
use Rattle.pairs.proofs.Totals.{text_total}
use Rattle.pairs.proofs.Keys.{len-stored}
use Rattle.std.proofs.lemmas.Map.Keys.{IsDistinct-from_sorted}
use Rattle.pairs.proofs.by_number.ByNumber.count.Goals as goal

pub returns : goal.returns
returns c =
    c.len.ensures.len
    ∙ sym (len-stored nat_cmp_total text_total exact_unsigned exact_bytes c.self.inside.map.entries c.self.invariant
    (IsDistinct-from_sorted nat_cmp _ c.len.ensures.ordered))
    ∙ ap (λ s. set.len (keys_in nat_cmp s)) c.self.view_is
