use Rattle.std.proofs.Common.{◌≡◌, ◌++◌}
use Rattle.forwarding.specs.Queue.{held_frames}
use Rattle.forwarding.proofs.queue.Queue.into_held.Given as goal

abbrev pub invariant-loop-request : goal.invariant-loop-request
invariant-loop-request l = l.frames.items ++ held_frames l.request-iterator.rest.items ≡ held_frames l.fn.self
