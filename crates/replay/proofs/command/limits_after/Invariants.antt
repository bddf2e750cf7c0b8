use Rattle.std.proofs.Common.{◌≡◌, None, map, string_bytes, length}
use Rattle.replay.specs.Command.{with_options}
use Rattle.replay.proofs.command.limits_after.Given as goal

-- What the options that are left add to those that were read is what all options give.
abbrev pub invariant-loop-rest : goal.invariant-loop-rest
invariant-loop-rest l =
    with_options l.given (map string_bytes l.rest)
    ≡ with_options (record { workers = None; batch = None }) (map string_bytes l.fn.options)

abbrev pub decreases-loop-rest : goal.decreases-loop-rest
decreases-loop-rest l = length l.rest
