use Rattle.std.proofs.Common.{ap, sym, ◌∙◌}
use Rattle.ephemerals.specs.Inner.Steps.{with_pairs_from}
use Rattle.ephemerals.proofs.Steps.{each_found}
use Rattle.ephemerals.proofs.owners.Ephemerals.at.Goals as goal

pub returns : goal.returns
returns c =
    ap (λ ps. with_pairs_from c.args.self.now ps c.loop-path.found) (sym c.in-None.ensures.steps.0)
    ∙ c.loop-path.invariant.2
    ∙ each_found c.args.paths.now c.args.self.now
