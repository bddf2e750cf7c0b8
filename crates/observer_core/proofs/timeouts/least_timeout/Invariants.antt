use Rattle.std.proofs.Common.{◌≡◌}
use Rattle.observer_core.proofs.Least.{least_of}
use Rattle.observer_core.proofs.timeouts.least_timeout.Given as goal

abbrev pub invariant-loop-session : goal.invariant-loop-session
invariant-loop-session l =
    least_of l.timeouts l.least l.session-iterator ≡ least_of l.timeouts l.initial.least l.initial.session-iterator
