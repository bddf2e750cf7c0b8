use Rattle.std.proofs.Common.{sym, ap, ◌∙◌}
use Rattle.std.specs.FinSet as set
use Rattle.pairs.proofs.Hashed.{len-hashed}
use Rattle.pairs.proofs.hashed_texts.HashedTexts.len.Goals as goal

pub returns : goal.returns
returns c =
    c.len.ensures.len
    ∙ sym (len-hashed c.self.inside.texts.keys c.len.ensures.unique)
    ∙ ap set.len c.self.view_is
