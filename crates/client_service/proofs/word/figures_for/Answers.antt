use Rattle.std.proofs.Common.{ap, ◌∙◌}
use Rattle.four_letter.specs.Texts.{reply_text}
use Rattle.client_service.specs.Serve.{figures_of}
use Rattle.client_service.proofs.Answering.{same_text}
use Rattle.client_service.proofs.word.figures_for.Goals as goal

pub returns : goal.returns
returns c =
    ap (reply_text c.args.word) c.figures_with.ensures
    ∙ same_text c.args.word (figures_of c.args.serving c.args.world.now) _ _ c.counts_for-watched.ensures.watches
    c.counts_for-watched.ensures.all c.in_ok-rows.ensures
