use Rattle.std.proofs.Common.{◌≡◌, length}
use denote.Text.{Utf8}
use denote.Shadow.{shadow}
use Rattle.watch_manager.specs.Inner.Lasting.{with_watchers_on, named_fronts}
use Rattle.watch_manager.proofs.recursive.RecursiveTable.add_watchers_between.Given as goal

abbrev pub invariant-loop-above : goal.invariant-loop-above
invariant-loop-above l =
    shadow (Utf8 l.rest)
    × (with_watchers_on (named_fronts l.rest) l.self l.conns
    ≡ with_watchers_on (named_fronts l.path) l.self l.fn.conns)

abbrev pub decreases-loop-above : goal.decreases-loop-above
decreases-loop-above l = length l.rest
