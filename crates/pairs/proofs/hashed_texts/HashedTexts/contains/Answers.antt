use Rattle.std.proofs.Common.{sym, ap, ◌∙◌}
use Rattle.std.specs.FinSet as set
use Rattle.pairs.proofs.Hashed.{contains-hashed}
use Rattle.pairs.proofs.hashed_texts.HashedTexts.contains.Goals as goal

pub returns : goal.returns
returns c =
    c.contains.ensures
    ∙ sym (contains-hashed c.self.inside.texts.keys c.args.text.now)
    ∙ ap (λ s. set.contains s c.args.text.now) c.self.view_is
