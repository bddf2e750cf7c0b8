use Rattle.std.proofs.Common.{ap, sym, ◌∙◌}
use Rattle.ephemerals.specs.Inner.Steps.{without_listed_paths}
use Rattle.ephemerals.proofs.Steps.{each_dropped}
use Rattle.ephemerals.proofs.owners.Ephemerals.drop_at.Goals as goal

pub returns : goal.returns
returns c =
    ap (λ ps. without_listed_paths ps c.loop-path.self) (sym c.in-None.ensures.steps.0)
    ∙ c.loop-path.invariant.2
    ∙ each_dropped c.args.paths.now c.args.self.now
