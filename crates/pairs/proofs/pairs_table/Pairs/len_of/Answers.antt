use Rattle.std.proofs.Common.{ap, ◌∙◌}
use Rattle.std.specs.FinSet as set
use Rattle.pairs.specs.Pairs.{pairs_of_number}
use Rattle.pairs.proofs.TableCounts.{len-texts, no-texts}
use Rattle.pairs.proofs.pairs_table.Pairs.len_of.Goals as goal

pub returns-in-None : goal.returns-in-None
returns-in-None c =
    no-texts c.self.inside.by_text c.self.inside.by_number c.args.number c.self.invariant.0 c.in-None.ensures.none
    ∙ ap (λ s. set.len (pairs_of_number c.args.number s)) c.self.view_is

pub returns-in-Some : goal.returns-in-Some
returns-in-Some c =
    c.len.ensures
    ∙ len-texts c.self.inside.by_text c.self.inside.by_number c.args.number c.in-Some.texts.now c.self.invariant.0
    c.in-Some.ensures.texts
    ∙ ap (λ s. set.len (pairs_of_number c.args.number s)) c.self.view_is
