use Rattle.std.proofs.Common.{append_assoc, refl, ◌∙◌}
use Rattle.server_words.proofs.texts.put_mntr_end.Goals as goal

pub returns-in-Ok : goal.returns-in-Ok
returns-in-Ok c = c.in-Ok.ensures.bytes ∙ simp append_assoc refl
