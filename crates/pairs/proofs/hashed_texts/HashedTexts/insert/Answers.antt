use Rattle.std.proofs.Common.{not, sym, ap, ◌∙◌}
use Rattle.std.specs.FinSet as set
use Rattle.pairs.proofs.Hashed.{contains-hashed, set_of-insert}
use Rattle.pairs.proofs.hashed_texts.HashedTexts.insert.Goals as goal

pub returns-clause-ok : goal.returns-clause-ok
returns-clause-ok c =
    set_of-insert c.args.text c.self.inside.texts c.insert.new.self c.in_ok-insert.ensures.updates
    ∙ ap (λ s. set.insert s c.args.text) c.self.view_is

pub returns-clause-added : goal.returns-clause-added
returns-clause-added c =
    c.in_ok-insert.ensures.added
    ∙ ap not (sym (contains-hashed c.self.inside.texts.keys c.args.text)
    ∙ ap (λ s. set.contains s c.args.text) c.self.view_is)
