use Rattle.watch_manager.proofs.Lengths.{lengths-empty}
use Rattle.watch_manager.proofs.recursive.RecursiveTable.free_lengths.Goals as goal

pub invariant_of-self : goal.invariant_of-self
invariant_of-self c =
    lengths-empty c.clear.new.self c.self.inside.table (c.is_empty.ensures.0 c.if-is_empty.true)
