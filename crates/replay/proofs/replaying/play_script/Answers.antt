use Rattle.std.proofs.Common.{map, subst, ap, ◌∙◌, inr}
use Rattle.std.specs.Io.KnownBytes.{Appends}
use Rattle.std.proofs.lemmas.Result.{on_ok_weaker}
use Rattle.observer_core.specs.Play.{play}
use Rattle.replay.specs.Replay.{event_of_script, machine_of, printed_lines, WritesFront}
use Rattle.replay.specs.Writing.{WritesPart}
use Rattle.replay.proofs.replaying.play_script.Goals as goal

pub returns-clause-ok : goal.returns-clause-ok
returns-clause-ok g c =
    let are_events = c.as_slice-2.ensures.value ∙ c.in_ok-events.ensures
    ∙ ap (map event_of_script) c.as_slice.ensures in
    on_ok_weaker c.feed.result
    (λ all. subst (λ events. Appends (g.W.Write.contents c.args.writer.now) (g.W.Write.contents c.feed.new.writer)
    (printed_lines (play (machine_of c.args.script) events))) are_events
    (all (machine_of c.args.script) c.in_ok-engine.ensures))
    c.feed.ensures.ok

pub returns-clause-no_memory : goal.returns-clause-no_memory
returns-clause-no_memory g c =
    let are_events = c.as_slice-2.ensures.value ∙ c.in_ok-events.ensures
    ∙ ap (map event_of_script) c.as_slice.ensures in
    λ e. inr (subst (λ events. WritesFront (g.W.Write.contents c.args.writer.now) (g.W.Write.contents c.feed.new.writer)
    (play (machine_of c.args.script) events).outputs) are_events
    (c.feed.ensures.no_memory e (machine_of c.args.script) c.in_ok-engine.ensures))

pub returns-clause-unwritable : goal.returns-clause-unwritable
returns-clause-unwritable g c =
    let are_events = c.as_slice-2.ensures.value ∙ c.in_ok-events.ensures
    ∙ ap (map event_of_script) c.as_slice.ensures in
    λ e. subst (λ events. WritesPart (g.W.Write.contents c.args.writer.now) (g.W.Write.contents c.feed.new.writer)
    (printed_lines (play (machine_of c.args.script) events))) are_events
    (c.feed.ensures.unwritable e (machine_of c.args.script) c.in_ok-engine.ensures)
