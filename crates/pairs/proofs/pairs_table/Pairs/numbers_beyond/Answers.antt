use Rattle.std.proofs.Common.{ap, ◌∙◌}
use Rattle.std.specs.FinSet as set
use Rattle.pairs.specs.Pairs.{numbers_beyond}
use Rattle.pairs.proofs.TableCounts.{same-beyond}
use Rattle.pairs.proofs.pairs_table.Pairs.numbers_beyond.Goals as goal

pub returns : goal.returns
returns c =
    c.count_beyond.ensures
    ∙ ap set.len (same-beyond c.self.inside.by_text c.first.inside.by_text c.second.inside.by_text
    c.third.inside.by_text c.self.inside.by_number c.first.inside.by_number c.second.inside.by_number c.third.inside.by_number
    c.self.invariant.0 c.first.invariant.0 c.second.invariant.0 c.third.invariant.0)
    ∙ (λ i. set.len (numbers_beyond (c.self.view_is i) (c.first.view_is i) (c.second.view_is i) (c.third.view_is i)))
