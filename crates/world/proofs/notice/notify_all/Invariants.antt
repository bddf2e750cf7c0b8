use Rattle.std.proofs.Common.{drop}
use Rattle.world.specs.Clients.{notices_to}
use Rattle.world.proofs.Steps.{SoFar, putting}
use Rattle.world.proofs.notice.notify_all.Given as goal

-- Sending what is left completes what was to be sent.
abbrev pub invariant-loop-event : goal.invariant-loop-event
invariant-loop-event l = SoFar l.fn.outputs.items (putting (notices_to l.number l.events)) l.outputs.items
    (putting (notices_to l.number (drop l.event-index l.events)))
