use Rattle.std.proofs.Common.{sym, ap, ◌∙◌}
use Rattle.std.specs.Cmp.{nat_cmp_total}
use Rattle.std.proofs.lemmas.Map.Lookups.{exact_unsigned, exact_bytes}
use Rattle.std.specs.FinSet as set
use Rattle.pairs.specs.Pairs.{text_cmp, keys_in}
use Rattle.pairs.proofs.Totals.{text_total}
use Rattle.pairs.proofs.Keys.{len-stored}
use Rattle.pairs.proofs.Hashed.{distinct}
use Rattle.pairs.proofs.by_text.ByText.count.Goals as goal

pub returns : goal.returns
returns c =
    c.len.ensures.len
    ∙ sym (len-stored text_total nat_cmp_total exact_bytes exact_unsigned c.self.inside.map.entries
    c.self.invariant (distinct _ c.len.ensures.unique))
    ∙ ap (λ s. set.len (keys_in text_cmp s)) c.self.view_is
