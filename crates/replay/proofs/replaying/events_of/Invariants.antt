use Rattle.std.proofs.Common.{◌≡◌, map, take}
use Rattle.replay.specs.Replay.{event_of_script}
use Rattle.replay.proofs.replaying.events_of.Given as goal

abbrev pub invariant-loop-event : goal.invariant-loop-event
invariant-loop-event l = l.events.items ≡ map event_of_script (take l.event-index l.script)
