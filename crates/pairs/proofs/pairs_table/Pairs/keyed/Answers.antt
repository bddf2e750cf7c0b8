use Rattle.std.proofs.Common.{sym, ap, ◌∙◌}
use Rattle.std.specs.Ordering.{nat_cmp}
use Rattle.std.specs.FinSet as set
use Rattle.pairs.specs.Pairs.{text_cmp, pair_cmp}
use Rattle.pairs.proofs.Tables.{agree-empty}
use Rattle.pairs.proofs.pairs_table.Pairs.keyed.Goals as goal

pub invariant_of-result : goal.invariant_of-result
invariant_of-result c = (
  λ text number. ap (λ s. set.contains s (text, number)) c.keyed.ensures ∙ agree-empty text number
      ∙ ap (λ s. set.contains s (number, text)) (sym c.new.ensures),
  sym (ap set.len c.keyed.ensures ∙ set.len-empty (pair_cmp text_cmp nat_cmp)),
)
