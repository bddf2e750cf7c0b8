use Rattle.std.proofs.Common.{ap, sym, ◌∙◌}
use Rattle.std.specs.FinSet as set
use Rattle.watch_manager.proofs.Lengths.{lengths-insert}
use Rattle.watch_manager.proofs.recursive.RecursiveTable.set.Goals as goal

pub invariant_of-self-2 : goal.invariant_of-self-2
invariant_of-self-2 c path connection here =
    lengths-insert c.self.inside.lengths c.insert.new.self c.self.inside.table c.args.path.now c.args.connection
    c.self.invariant c.in_ok-insert.ensures.updates path connection
    (ap (λ s. set.contains s (path, connection)) (sym c.in_ok-set.ensures.ok) ∙ here)
