use Rattle.watch_manager.proofs.Lengths.{lengths-empty}
use Rattle.watch_manager.proofs.recursive.RecursiveTable.keyed.Goals as goal

pub invariant_of-result : goal.invariant_of-result
invariant_of-result c = lengths-empty c.new.result c.keyed.result c.keyed.ensures
