use Rattle.std.proofs.Common.{◌≡◌, drop}
use Rattle.audit.specs.Clean.{are_childless}
use Rattle.audit.proofs.clean.are_childless.Given as goal

abbrev pub invariant-loop-path : goal.invariant-loop-path
invariant-loop-path l =
    are_childless l.tree.nodes (drop l.path-index l.paths) ≡ are_childless l.tree.nodes l.paths
