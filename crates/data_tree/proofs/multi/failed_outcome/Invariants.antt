use Rattle.std.proofs.Common.{◌≡◌, ◌++◌, drop}
use Rattle.data_tree.specs.Meaning.{results_of_failed}
use Rattle.data_tree.proofs.Multis.{results_behind}
use Rattle.data_tree.proofs.multi.failed_outcome.Given as goal

abbrev pub invariant-loop-part : goal.invariant-loop-part
invariant-loop-part l =
    l.results.items ++ results_behind l.otherwise (drop l.part-index l.parts) ≡ results_of_failed l.parts
