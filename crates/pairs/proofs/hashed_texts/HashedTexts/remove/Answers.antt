use Rattle.std.proofs.Common.{sym, ap, ◌∙◌}
use Rattle.std.specs.FinSet as set
use Rattle.pairs.proofs.Hashed.{contains-hashed, set_of-remove}
use Rattle.pairs.proofs.hashed_texts.HashedTexts.remove.Goals as goal

pub returns-clause-removed : goal.returns-clause-removed
returns-clause-removed c =
    set_of-remove c.args.text.now c.self.inside.texts c.swap_remove.new.self c.swap_remove.ensures.updates
    ∙ ap (λ s. set.remove s c.args.text.now) c.self.view_is

pub returns-clause-was : goal.returns-clause-was
returns-clause-was c =
    c.swap_remove.ensures.found
    ∙ sym (contains-hashed c.self.inside.texts.keys c.args.text.now)
    ∙ ap (λ s. set.contains s c.args.text.now) c.self.view_is
