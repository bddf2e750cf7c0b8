use Rattle.std.proofs.Common.{◌≡◌, ◌++◌, map, take, drop}
use Rattle.forwarding.specs.Pending.{without_owner}
use Rattle.forwarding.proofs.syncs.Syncs.disown.Given as goal

abbrev pub invariant-loop-place : goal.invariant-loop-place
invariant-loop-place l =
    l.self-inside.places.items
    ≡ map (without_owner l.fn.number) (take l.place l.fn.self) ++ drop l.place l.fn.self
