use Rattle.std.proofs.Common.{drop}
use Rattle.world.specs.Clients.{notices_of}
use Rattle.world.proofs.Steps.{SoFar, putting}
use Rattle.world.proofs.notice.notify_each.Given as goal

-- Sending what is left completes what was to be sent.
abbrev pub invariant-loop-number : goal.invariant-loop-number
invariant-loop-number l = SoFar l.fn.outputs.items (putting (notices_of l.events)) l.outputs.items
    (putting (notices_of (drop l.number-index l.events)))
