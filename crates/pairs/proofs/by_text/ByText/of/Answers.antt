use Rattle.std.proofs.Common.{sym, ◌∙◌}
use Rattle.pairs.proofs.Found.{found-some, found-none}
use Rattle.pairs.proofs.Hashed.{get-hashed}
use Rattle.pairs.proofs.by_text.ByText.of.Goals as goal

pub returns-clause-some : goal.returns-clause-some
returns-clause-some c =
    found-some c.self.inside.map.entries c.args.text.now c.args.self.now c.self.view_is c.in-Some.row.now
    (get-hashed c.self.inside.map.entries c.args.text.now ∙ sym c.in-Some.ensures.value)

pub returns-in-None-clause-none : goal.returns-in-None-clause-none
returns-in-None-clause-none c =
    found-none c.self.inside.map.entries c.args.text.now c.args.self.now c.self.view_is
    (get-hashed c.self.inside.map.entries c.args.text.now ∙ sym c.in-None.ensures.value)
