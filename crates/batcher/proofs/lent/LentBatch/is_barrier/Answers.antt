use Rattle.std.proofs.Common.{refl, sym, ap, not, ◌∙◌}
use Rattle.batcher.specs.Cut.{is_barrier_alone}
use Rattle.batcher.proofs.Taking.{alone_is_barrier}
use Rattle.batcher.proofs.lent.LentBatch.is_barrier.Goals as goal

pub returns-then-is_empty : goal.returns-then-is_empty
returns-then-is_empty c =
    ap not c.is_empty-then-is_empty.ensures
    ∙ alone_is_barrier c.self.inside.txns.now _ _ c.self.inside.groups.now c.self.invariant.0 refl
    (sym c.is_empty.ensures ∙ c.if-is_empty.true) refl c.self.invariant.1
    ∙ ap is_barrier_alone c.self.view_is
