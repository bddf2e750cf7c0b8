use Rattle.std.proofs.Common.{sym, ◌∙◌}
use Rattle.std.proofs.lemmas.Map.Lookups.{exact_bytes}
use Rattle.pairs.proofs.Totals.{text_total}
use Rattle.values.proofs.Keyed.{set_of-empty}
use Rattle.pairs.proofs.hashed_texts.HashedTexts.is_empty.Goals as goal

pub returns : goal.returns
returns c = (
  λ h. sym c.self.view_is ∙ (set_of-empty text_total exact_bytes c.self.inside.texts.keys).0 (c.is_empty.ensures.0 h),
  λ e. c.is_empty.ensures.1 ((set_of-empty text_total exact_bytes c.self.inside.texts.keys).1 (c.self.view_is ∙ e)),
)
