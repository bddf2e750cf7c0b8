use Rattle.std.proofs.Common.{◌≡◌, ◌++◌, drop}
use Rattle.auditing.specs.Auditing.{fed_events}
use Rattle.auditing.proofs.auditing.fed_events.Given as goal

abbrev pub invariant-loop-event : goal.invariant-loop-event
invariant-loop-event l = l.events.items ++ fed_events (drop l.event-index l.script) ≡ fed_events l.script
