use Rattle.std.proofs.Common.{◌≡◌, drop}
use Rattle.data_tree.specs.Meaning.{first_error}
use Rattle.data_tree.proofs.multi.first_error.Given as goal

abbrev pub invariant-loop-part : goal.invariant-loop-part
invariant-loop-part l = first_error (drop l.part-index l.results) ≡ first_error l.results
