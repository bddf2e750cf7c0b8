use Rattle.std.proofs.Common.{ap, sym, ◌∙◌}
use Rattle.std.specs.FinSet as set
use Rattle.watch_manager.specs.Pairs.{watchers_of}
use Rattle.watch_manager.proofs.Aboves.{union-nobody}
use Rattle.watch_manager.proofs.Lengths.{nobody_of_length}
use Rattle.watch_manager.proofs.recursive.RecursiveTable.add_watchers.Goals as goal

pub returns-then-not-contains : goal.returns-then-not-contains
returns-then-not-contains c =
    let nobody = nobody_of_length c.self.inside.lengths c.self.inside.table c.args.path.now c.self.invariant
    (sym c.contains.ensures ∙ c.if-not-contains.true) in
    sym (ap (λ s. set.union c.args.conns.now s) (ap (λ p. watchers_of c.args.path.now p) (sym c.self.view_is) ∙ nobody)
    ∙ union-nobody c.args.conns.now)
