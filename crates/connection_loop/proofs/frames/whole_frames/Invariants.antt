use Rattle.std.proofs.Common.{◌≡◌, ◌-◌}
use Rattle.connection_loop.proofs.Fronts.{left_of}
use Rattle.connection_loop.proofs.frames.whole_frames.Given as goal

-- The rest after the frames to come is the rest after all.
abbrev pub invariant-loop : goal.invariant-loop
invariant-loop l = left_of (l.most - l.counter) l.ahead ≡ left_of l.most l.bytes
