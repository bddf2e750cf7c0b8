use Rattle.std.proofs.Common.{Some, sym, ◌∙◌}
use Rattle.world.specs.World.{World}
use Rattle.observer_core.proofs.Batches.{told_due, told_answered}
use Rattle.observer_core.proofs.gathering.tell_and_answer.Goals as goal

pub answer_applied_txn-requires : goal.answer_applied_txn-requires
answer_applied_txn-requires c =
    (rw (← c.stage.view_is, ← c.stage-inside.view_is) at c.requires)
    ∙ sym (told_due c.stage-inside.inside.0.1.0.items c.tell_each.new.outputs.items c.stage-inside.inside.0.0.clients
    c.tell_each.new.clients c.args.outcomes.now _ c.in_ok-tell_each.ensures)

pub returns-in-Some : goal.returns-in-Some
returns-in-Some c =
    let inside = c.stage-inside.inside.0.0 in
    let w : World = record { settings = inside.settings; replica = inside.replica; clients = inside.clients } in
    let outcome = c.in-Some.outcome.now in
    let answered = c.answer_applied_txn in
    rw (← c.stage.view_is, ← c.stage-inside.view_is) (told_answered answered.result c.stage-inside.inside.0.1.0.items
    c.tell_each.new.outputs.items answered.new.stage.outputs w c.args.place c.args.outcomes.now c.tell_each.new.clients
    (Some outcome) answered.new.stage.after c.in_ok-tell_each.ensures c.in-Some.ensures.value
    answered.ensures)
