use Rattle.std.proofs.Common.{◌≡◌, drop}
use Rattle.data_tree.specs.Meaning.{with_names}
use Rattle.data_tree.proofs.tree.with_names.Given as goal

abbrev pub invariant-loop-path : goal.invariant-loop-path
invariant-loop-path l = with_names l.all (drop l.path-index l.paths) ≡ with_names l.fn.names l.paths
