use Rattle.std.proofs.Common.{List, ℕ, ◌++◌, subst, ap, ◌∙◌}
use Rattle.replay.specs.Replay.{EndsReplay}
use Rattle.replay.proofs.Printing.{ends_kept, flush_failed, if_some}
use Rattle.replay.proofs.replaying.replay.Goals as goal

-- The bytes that were read are the text, and flushing keeps the output.
pub returns-in-Ok : goal.returns-in-Ok
returns-in-Ok g c =
    let old = g.W.Write.contents c.args.writer.now in
    let ending = c.replay_text-ending.result in
    if_some (g.R.Read.remaining c.args.reader.now) _ _
    (λ (text : List ℕ) e.
    ends_kept ending text old (g.W.Write.contents c.replay_text-ending.new.writer) _
    (subst (λ t. EndsReplay ending t old (g.W.Write.contents c.replay_text-ending.new.writer))
    (c.as_slice.ensures.value ∙ e ∙ ap (λ xs. xs ++ text) c.new-text.ensures.items) c.replay_text-ending.ensures)
    c.in-Ok.ensures.bytes)
    c.in_default.ensures.bytes

-- What was printed before the flush failed is a front.
pub returns : goal.returns
returns g c =
    let old = g.W.Write.contents c.args.writer.now in
    let ending = c.replay_text-ending.result in
    if_some (g.R.Read.remaining c.args.reader.now) _ _
    (λ (text : List ℕ) e.
    flush_failed ending text old (g.W.Write.contents c.replay_text-ending.new.writer) _
    (subst (λ t. EndsReplay ending t old (g.W.Write.contents c.replay_text-ending.new.writer))
    (c.as_slice.ensures.value ∙ e ∙ ap (λ xs. xs ++ text) c.new-text.ensures.items) c.replay_text-ending.ensures)
    c.flush.ensures.bytes)
    c.in_default.ensures.bytes
