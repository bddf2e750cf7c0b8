use Rattle.std.proofs.Common.{◌≡◌, ◌++◌}
use Rattle.forwarding.specs.Pending.{live_rows}
use Rattle.forwarding.proofs.touched.Touched.live_rows.Given as goal

abbrev pub invariant-loop-session : goal.invariant-loop-session
invariant-loop-session g l =
    let timeout_of = g.T.SessionTimeouts.timeout l.timeouts in
    l.rows.items ++ live_rows timeout_of l.session-iterator ≡ live_rows timeout_of l.initial.session-iterator
