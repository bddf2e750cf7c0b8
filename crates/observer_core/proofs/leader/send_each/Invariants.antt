use Rattle.std.proofs.Common.{drop, map}
use Rattle.world.specs.Sending.{to_leader}
use Rattle.world.proofs.Steps.{SoFar, putting}
use Rattle.observer_core.proofs.leader.send_each.Given as goal

-- Sending what is left completes what was to be sent.
abbrev pub invariant-loop-packet : goal.invariant-loop-packet
invariant-loop-packet l =
    SoFar l.fn.outputs.items (putting (map to_leader l.packets)) l.outputs.items
    (putting (map to_leader (drop l.packet-index l.packets)))
