use Rattle.std.proofs.Common.{◌≡◌, ◌++◌, map, drop}
use Rattle.read_processor.specs.Asking.{looks_at}
use Rattle.client_service.specs.Runs.{look_asked}
use Rattle.client_service.proofs.settling.asks_of.Given as goal

-- What the asks so far show, and what the reads that are left show, is what all show.
abbrev pub invariant-loop-read : goal.invariant-loop-read
invariant-loop-read l =
    looks_at l.world.replica.tree l.asks.items ++ map (look_asked l.world) (drop l.read-index l.asked)
    ≡ map (look_asked l.world) l.asked
