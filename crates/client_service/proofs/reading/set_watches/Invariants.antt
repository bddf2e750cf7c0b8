use Rattle.std.proofs.Common.{◌≡◌, drop}
use Rattle.client_service.specs.Serve.{with_each_watch}
use Rattle.client_service.proofs.reading.set_watches.Given as goal

-- Setting the watches that are left completes those that were to be set.
abbrev pub invariant-loop-watch : goal.invariant-loop-watch
invariant-loop-watch l = with_each_watch l.number l.watches (drop l.watch-index l.asked) ≡ with_each_watch l.number
    l.fn.watches l.asked
