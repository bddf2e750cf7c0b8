use Rattle.std.proofs.Common.{◌≡◌, ◌+◌, ◌-◌}
use Rattle.connection_loop.specs.Frames.{frames_going}
use Rattle.connection_loop.proofs.frames.frames_going.Given as goal

-- So many frames go with those to come as with all.
abbrev pub invariant-loop-count : goal.invariant-loop-count
invariant-loop-count l =
    l.count + frames_going l.dialect (l.most - l.count) l.here l.ahead ≡ frames_going l.dialect l.most l.fn.gate l.bytes
