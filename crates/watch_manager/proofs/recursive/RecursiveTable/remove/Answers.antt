use Rattle.std.proofs.Common.{ap, sym, ◌∙◌}
use Rattle.std.specs.FinSet as set
use Rattle.watch_manager.proofs.Lengths.{lengths-remove}
use Rattle.watch_manager.proofs.recursive.RecursiveTable.remove.Goals as goal

pub invariant_of-self : goal.invariant_of-self
invariant_of-self c path connection here =
    lengths-remove c.self.inside.lengths c.self.inside.table (c.args.path.now, c.args.connection) c.self.invariant
    path connection
    (ap (λ s. set.contains s (path, connection)) (sym c.remove.ensures) ∙ here)
