use Rattle.std.proofs.Common.{◌∙◌}
use Rattle.pairs.proofs.Tables.{listed-agree}
use Rattle.pairs.proofs.pairs_table.Pairs.iter.Goals as goal

pub returns-clause-pairs : goal.returns-clause-pairs
returns-clause-pairs c =
    listed-agree c.self.inside.by_text c.self.inside.by_number c.iter.result c.self.invariant.0 c.iter.ensures.pairs
    ∙ c.self.view_is
