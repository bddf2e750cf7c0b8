use Rattle.std.proofs.Common.{ap, ◌∙◌}
use Rattle.std.specs.FinSet as set
use Rattle.pairs.specs.Pairs.{numbers_in}
use Rattle.pairs.proofs.TableCounts.{alike-numbers}
use Rattle.pairs.proofs.pairs_table.Pairs.numbers.Goals as goal

pub returns : goal.returns
returns c =
    c.count.ensures
    ∙ ap set.len (alike-numbers c.self.inside.by_text c.self.inside.by_number c.self.invariant.0)
    ∙ ap (λ s. set.len (numbers_in s)) c.self.view_is
