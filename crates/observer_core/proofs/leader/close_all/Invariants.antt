use Rattle.std.proofs.Common.{length}
use Rattle.std.specs.FinMap as finmap
use Rattle.world.specs.Clients.{close_all_clients}
use Rattle.world.proofs.Steps.{SoFar}
use Rattle.observer_core.proofs.leader.close_all.Given as goal

abbrev pub invariant-loop-number : goal.invariant-loop-number
invariant-loop-number l = SoFar l.fn.outputs.items (close_all_clients l.fn.clients) l.outputs.items
    (close_all_clients l.clients)

abbrev pub decreases-loop-number : goal.decreases-loop-number
decreases-loop-number l = length (finmap.keys l.clients.connections)
