use Rattle.std.proofs.Common.{◌+◌, drop, ◌∙◌}
use Rattle.std.proofs.lemmas.List.{at_drop_more, at_drop_all}
use Rattle.std.proofs.lemmas.Result.{err_from_is_err_and}
use Rattle.world.specs.Steps.{and_then}
use Rattle.world.proofs.Steps.{stops_in_step, ends_with}
use Rattle.client_service.specs.Runs.{answer_all_asked}
use Rattle.client_service.proofs.Running.{steps_owing}
use Rattle.observer_core.specs.Machine.{Machine}
use Rattle.observer_core.specs.Leader.{with_leader}
use Rattle.observer_core.specs.Play.{play_event, play}
use Rattle.observer_core.specs.Inner.{answer_waiting}
use Rattle.observer_core.proofs.Waiting.{with_leader_meets, play_after, event_first, no_event_left}
use Rattle.observer_core.proofs.run.run.Goals as goal

pub returns-in_err-happen : goal.returns-in_err-happen
returns-in_err-happen g c =
    let p = err_from_is_err_and c.from_residual.result c.from_residual.ensures.1 in
    let l = c.loop-event in
    let others = drop (l.event-index + 1) c.args.events.now in
    let is = rw (← c.event-item.is) at (at_drop_more (play_after l.asked.items l.machine.after) c.args.events.now
    l.event-index c.event-item.result c.loop-event-test.true) in
    rw p.1 (stops_in_step _ _ _ _ _
    (and_then (answer_waiting l.asked.items l.machine.after) (λ (m : Machine). play_event m c.event-item.result))
    (λ (m : Machine). play m others) (is ∙ event_first l.asked.items l.machine.after c.event-item.result others)
    c.in_err-happen.ensures l.invariant)

pub loop-event-preserved : goal.loop-event-preserved
loop-event-preserved g c =
    let l = c.loop-event in
    let others = drop (l.event-index + 1) c.args.events.now in
    let is = rw (← c.event-item.is) at (at_drop_more (play_after l.asked.items l.machine.after) c.args.events.now
    l.event-index c.event-item.result c.loop-event-test.true) in
    steps_owing _ _ _ _ _ _ (λ (m : Machine). play m others) _
    (is ∙ event_first l.asked.items l.machine.after c.event-item.result others) c.in_ok-happen.ensures l.invariant

pub returns : goal.returns
returns g c =
    let l = c.loop-event in
    let m : Machine = (with_leader c.machine.inside.leader c.machine.inside.stage).after in
    ends_with c.settle_reads.result _ _ _ _ _ _ _
    (at_drop_all (play_after l.asked.items m) c.args.events.now l.event-index c.loop-event-test.false
    ∙ no_event_left l.asked.items m)
    (with_leader_meets c.settle_reads.result c.machine.inside.leader c.machine.inside.stage c.settle_reads.new.stage
    (answer_all_asked l.asked.items) c.settle_reads.ensures.answered)
    (rw (← c.machine.view_is) at l.invariant)
