use Rattle.std.proofs.Common.{◌≡◌, ◌++◌, drop}
use Rattle.read_processor.specs.Renewal.{lasting_watches}
use Rattle.read_processor.proofs.renewal.add_lasting.Given as goal

abbrev pub invariant-loop-path : goal.invariant-loop-path
invariant-loop-path l =
    l.watches.items ++ lasting_watches l.mode (drop l.path-index l.paths)
    ≡ l.fn.watches.items ++ lasting_watches l.mode l.paths
