use Rattle.world.proofs.Steps.{then_meets}
use Rattle.observer_core.specs.Leader.{answer_news}
use Rattle.observer_core.specs.Inner.{tell_all}
use Rattle.observer_core.proofs.leader.send_outcome.Goals as goal

pub returns : goal.returns
returns c =
    let old = c.args.stage.now in
    let told = rw (c.as_slice.ensures, c.as_slice-2.ensures) at c.in_ok-tell.ensures in
    then_meets c.answer_news.result old.outputs c.tell.new.stage.outputs c.answer_news.new.stage.outputs
    (tell_all old.after c.args.brought.replies c.args.brought.triggers) (answer_news c.args.brought.news)
    c.tell.new.stage.after c.answer_news.new.stage.after told c.answer_news.ensures
